-- What is heard of a line leads to its outcome, and its effect to the condition after it.
use mathlib.Core.Path.{◌≡◌, refl, sym, ◌∙◌, ap}
use mathlib.Core.Bool.{Bool, true, false, cond}
use mathlib.Core.List.{List, []}
use Prim.Native.Nat.{ℕ, ◌≤◌, ◌<◌}
use native.Mathlib.Omega.{arith}
use lib.Dec.{ltb}
use lib.ListN.{length}
use borrow.Author.Tests.{lt-ltb, le-ltb, ltb-true, ltb-false}
use Rattle.std.specs.Prelude.{Option, Some, None, option_map, Result, Ok, Err}
use Rattle.line_codes.specs.declared.Fault.{Fault}
use Rattle.line_codes.specs.declared.Fault.TheVariants.{TooLong, BadByte, NotOneForm, BadNumber, NoShape}
use Rattle.text.specs.Token.{tokens}
use Rattle.line_codes.specs.Line.{Reading, reading_of, fault_code}
use Rattle.line_codes.proofs.Alike.{sound_passes}
use Rattle.forms.specs.declared.Request.{Request}
use Rattle.forms.specs.Carried.{carried_request}
use Rattle.request.specs.Shape.{request_of}
use Rattle.condition.specs.declared.Condition.{Condition}
use Rattle.operations.specs.Operations.{refused_with}
use Rattle.hearing.specs.Hearing.{shaped, heard_by, heard_of, heard_in}
use Rattle.effects.specs.Effect.{effect_of}
use Rattle.panel.specs.Step.{Outcome, answered, outcome_of, outcome_asked, outcome_after, step_of}
use Rattle.panel.specs.Handed.{moment_found, handed_on}
use Rattle.panel.proofs.Codes.{right}
use Rattle.panel.proofs.Carrying.{carried_outcome}
use Rattle.panel.proofs.Effects.{effect_is}

-- what is handed on with room for a reply, and without
pub handed_room : (r : Request) (n : ℕ) → 96 ≤ n → handed_on (Ok r) n ≡ moment_found r
handed_room r n p = rw (le-ltb n 96 p)

pub handed_none : (h : Result Request Fault) (n : ℕ) → n < 96 → handed_on h n ≡ 0
handed_none (Ok r) n p = rw (lt-ltb n 96 p)
handed_none (Err f) n p = refl

module _ (c : Condition) (line : List ℕ) (n : ℕ) where
  -- the outcome of what is heard: what its request asks for, or the code that turned the line down
  abbrev outcome : Result Request Fault → Outcome
  outcome (Ok r) = outcome_of c (tokens line) n r
  outcome (Err f) = answered (refused_with (fault_code f) c)

  asked_by : (o : Option Request) → request_of (tokens line) ≡ o → outcome (shaped (option_map carried_request o)) ≡ outcome_asked c (tokens line) n o
  asked_by (Some r) e = carried_outcome c (tokens line) n r e
  asked_by None e = refl

  heard_by_lem : (t : Reading) → outcome (heard_by (option_map carried_request (request_of (tokens line))) t) ≡ outcome_after c line n t
  heard_by_lem (Ok u) = asked_by (request_of (tokens line)) refl
  heard_by_lem (Err f) = refl

  pub step_none : n < 96 → step_of c line n ≡ record { code = 15; reply = []; after = c }
  unfolding step_of
  step_none p = rw (lt-ltb n 96 p)

  step_is : (h : Result Request Fault) → h ≡ heard_of line → step_of c line n ≡ cond (ltb n 96) (record { code = 15; reply = []; after = c }) (outcome h)
  unfolding step_of
  step_is h heard = rw (heard, heard_by_lem (reading_of line))

  -- the condition after an answer but 00: as it was
  pub answer_kept : (code : ℕ) → code ≡ (step_of c line n).code → (code ≡ 0 → ⊥) → c ≡ (step_of c line n).after
  answer_kept code coded f = sym ((right c line n).unchanged (λ e. f (coded ∙ e)))

  -- 00 is answered with room for its reply
  lent_room : (step_of c line n).code ≡ 0 → 96 ≤ n
  lent_room e = by (ltb n 96) refl
    where
      by : (x : Bool) → ltb n 96 ≡ x → 96 ≤ n
      by true t = absurd (omega (arith, ap (λ (o : Outcome). o.code) (step_none (ltb-true n 96 t)), e))
      by false t = ltb-false n 96 t

  -- and never to a line that is turned down
  module _ (f : Fault) (heard : Err f ≡ heard_of line) where
    pub step_refused : 96 ≤ n → step_of c line n ≡ answered (refused_with (fault_code f) c)
    step_refused p = step_is (Err f) heard ∙ rw (le-ltb n 96 p)

    not_taken : (step_of c line n).code ≡ 0 → ⊥
    not_taken e = by f (ap (λ (o : Outcome). o.code) (sym (step_refused (lent_room e))) ∙ e)
      where
        by : (f : Fault) → fault_code f ≡ 0 → ⊥
        by TooLong e = absurd (omega (arith, e))
        by BadByte e = absurd (omega (arith, e))
        by NotOneForm e = absurd (omega (arith, e))
        by BadNumber e = absurd (omega (arith, e))
        by NoShape e = absurd (omega (arith, e))

  -- so where the answer is 00, the lent memory holds the request
  pub taken_heard : (r : Request) (h : Result (Unit {0}) Fault) → heard_in r h ≡ heard_of line → (step_of c line n).code ≡ 0 → Ok r ≡ heard_of line
  taken_heard r (Ok u) heard e = heard
  taken_heard r (Err f) heard e = absurd (not_taken f heard e)

  -- a request
  module _ (r : Request) (heard : Ok r ≡ heard_of line) where
    pub step_request : 96 ≤ n → step_of c line n ≡ outcome_of c (tokens line) n r
    step_request p = step_is (Ok r) heard ∙ rw (le-ltb n 96 p)

    -- the condition after 00: by the request's effect
    pub answer_effect : (step_of c line n).code ≡ 0 → (w : ℕ) → w ≡ handed_on (Ok r) n → (d : Condition) → d ≡ effect_of c r w → d ≡ (step_of c line n).after
    answer_effect e w m d f =
        let p = lent_room e in
        let o = step_request p in
        f ∙ ap (effect_of c r) (m ∙ handed_room r n p) ∙ effect_is c (tokens line) n r (ap (λ (o : Outcome). o.code) (sym o) ∙ e) ∙ ap (λ (o : Outcome). o.after) (sym o)

-- ---- a line with a request passed the tests 10 to 13
record HeardRequest (o : Option Request) (t : Reading) (r : Request) : Type 0 where
  asks : o ≡ Some r
  sound : t ≡ Ok tt

heard_request : (o : Option Request) (t : Reading) (r : Request) → Ok r ≡ heard_by o t → HeardRequest o t r
heard_request (Some q) (Ok tt) r e = record { asks = cc; sound = refl }
heard_request None (Ok tt) r e =
    let z : ◌≡◌ {A = ℕ} 0 1 = cc in absurd (omega arith)
heard_request o (Err f) r e =
    let z : ◌≡◌ {A = ℕ} 0 1 = cc in absurd (omega arith)

module _ (line : List ℕ) (r : Request) (heard : Ok r ≡ heard_of line) where
  found : HeardRequest (option_map carried_request (request_of (tokens line))) (reading_of line) r
  found = heard_request (option_map carried_request (request_of (tokens line))) (reading_of line) r heard

  pub heard_asks : option_map carried_request (request_of (tokens line)) ≡ Some r
  heard_asks = found.asks

  pub heard_short : length line ≤ 2000
  heard_short = (sound_passes line found.sound).long
