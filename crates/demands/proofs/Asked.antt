-- A line that passes the tests of the whole line has the outcome of its request, and every other one has a code of its own.
use mathlib.Core.Path.{◌≡◌, refl, sym, ap, ◌∙◌}
use mathlib.Core.Bool.{Bool, true, false}
use mathlib.Core.List.{List, [], ◌∷◌}
use Prim.Native.Nat.{ℕ, ◌≤◌, ◌<◌}
use native.Mathlib.Omega.{arith}
use lib.Dec.{ltb}
use borrow.Author.Tests.{ltb-true, ltb-false, lt-ltb, le-ltb}
use Rattle.whole.specs.Lists.{is_one_of}
use Rattle.std.specs.Prelude.{Option, Ok, Err}
use Rattle.line_codes.specs.declared.Fault.TheVariants.{TooLong, BadByte, NotOneForm, BadNumber, NoShape}
use Rattle.text.specs.Token.{tokens}
use Rattle.line_codes.specs.Line.{Reading, reading_of, reading_code}
use Rattle.line_codes.proofs.Codes.{line_code, passes}
use Rattle.line_codes.proofs.Alike.{untested_shape}
use Rattle.forms.specs.declared.Request.{Request}
use Rattle.condition.specs.declared.Condition.{Condition}
use Rattle.panel.specs.Step.{Outcome, outcome_asked, outcome_after, step_of}
use Rattle.demands.specs.Codes.{request, SoundLine, Asks}

-- a line to which none of 10 to 13 applies passes the tests of the whole line
pub none_applies : (line : List ℕ) → reading_of line ≡ Ok tt → SoundLine line
none_applies line e = (line_code line).sound.0 (ap reading_code e)

pub passes_all : (line : List ℕ) → SoundLine line → reading_of line ≡ Ok tt
passes_all line s = passes (reading_of line) ((line_code line).sound.1 s)

-- the codes that are given before the request is looked at
abbrev pub early : List ℕ
early = 10 ∷ 11 ∷ 12 ∷ 13 ∷ 15 ∷ []

-- what a line gets, were this its request; and what it gets
abbrev pub asked_for : Condition → List ℕ → ℕ → Option Request → Outcome
asked_for c line lent o = outcome_asked c (tokens line) lent o

abbrev pub requested : Condition → List ℕ → ℕ → Outcome
requested c line lent = asked_for c line lent (request line)

pub record Heard (c : Condition) (line : List ℕ) (lent : ℕ) : Type 0 where
  pub room : 96 ≤ lent
  pub sound : reading_of line ≡ Ok tt
  pub outcome : step_of c line lent ≡ requested c line lent

module _ (c : Condition) (line : List ℕ) (lent : ℕ) where
  -- without room for a reply
  pub short : lent < 96 → step_of c line lent ≡ record { code = 15; reply = []; after = c }
  unfolding step_of
  short h = rw (lt-ltb lent 96 h)

  module _ (room : 96 ≤ lent) where
    pub at_reading : (r : Reading) → reading_of line ≡ r → step_of c line lent ≡ outcome_after c line lent r
    unfolding step_of
    at_reading r e = rw (le-ltb lent 96 room, e)

    pub hears : reading_of line ≡ Ok tt → Heard c line lent
    hears e = record { room = room; sound = e; outcome = at_reading (Ok tt) e }

  -- a line with any other code was heard
  module _ (n : ℕ) (coded : (step_of c line lent).code ≡ n) (late : is_one_of early n ≡ false) where
    clash : (o : Outcome) → step_of c line lent ≡ o → is_one_of early o.code ≡ true → Heard c line lent
    clash o e t =
        let z : true ≡ false = sym t ∙ ap (λ (o : Outcome). is_one_of early o.code) (sym e) ∙ ap (is_one_of early) coded ∙ late in
        let y : ◌≡◌ {A = ℕ} 0 1 = cc in
        absurd (omega arith)

    by_reading : 96 ≤ lent → (r : Reading) → reading_of line ≡ r → Heard c line lent
    unfolding is_one_of
    by_reading p (Ok tt) e = hears p e
    by_reading p (Err TooLong) e = clash _ (at_reading p (Err TooLong) e) refl
    by_reading p (Err BadByte) e = clash _ (at_reading p (Err BadByte) e) refl
    by_reading p (Err NotOneForm) e = clash _ (at_reading p (Err NotOneForm) e) refl
    by_reading p (Err BadNumber) e = clash _ (at_reading p (Err BadNumber) e) refl
    by_reading p (Err NoShape) e = absurd (untested_shape line e)

    by_room : (x : Bool) → ltb lent 96 ≡ x → Heard c line lent
    unfolding is_one_of
    by_room true e = clash (record { code = 15; reply = []; after = c }) (short (ltb-true lent 96 e)) refl
    by_room false e = by_reading (ltb-false lent 96 e) (reading_of line) refl

    pub heard : Heard c line lent
    heard = by_room (ltb lent 96) refl

  -- a line that was heard asks for what its request is, and has that outcome
  pub asks : (k : Option Request) → Heard c line lent → request line ≡ k → Asks line lent k
  asks k h e = record { room = h.room; sound = none_applies line h.sound; asked = e }

  pub asked : (k : Option Request) → Asks line lent k → step_of c line lent ≡ asked_for c line lent k
  asked k a =
      (hears a.room (passes_all line a.sound)).outcome
      ∙ ap (asked_for c line lent) a.asked

  pub code_of : (k : Option Request) → Asks line lent k → (step_of c line lent).code ≡ (asked_for c line lent k).code
  code_of k a = ap (λ (o : Outcome). o.code) (asked k a)

  -- a line that is taken was heard, and has the outcome that it asks for
  taken_asks : (k : Option Request) → request line ≡ k → (step_of c line lent).code ≡ 0 → Asks line lent k
  unfolding is_one_of
  taken_asks k e z = asks k (heard 0 z refl) e

  pub taken_as : (k : Option Request) → request line ≡ k → (step_of c line lent).code ≡ 0 → step_of c line lent ≡ asked_for c line lent k
  taken_as k e z = asked k (taken_asks k e z)
