-- The bytes of a show line and the line inside it.
use mathlib.Core.Path.{◌≡◌, refl, sym, ◌∙◌, ap}
use mathlib.Core.Bool.{Bool, true, false, cond, ◌&&◌}
use mathlib.Core.List.{List, [], ◌∷◌, ◌++◌, append-nil}
use Prim.Native.Nat.{ℕ, zero, suc, ◌≤◌}
use native.Mathlib.Omega.{arith}
use lib.ListN.{length, replicate, length-append}
use Rattle.whole.specs.Bytes.{bytes}
use Rattle.whole.specs.Lists.{within, all}
use lib.Dec.{eqb}
use borrow.Author.Tests.{eqb-true}
use Rattle.whole.proofs.Lists.{clash, and_true, and_false, all_append}
use Rattle.text.specs.Token.{allowed, Token, opened, closed, run, in_run, starts_run, glue, tokens_with, tokens, same}
use Rattle.text.proofs.Runs.{run_token}
use Rattle.text.proofs.Parts.{ends, tokens_opening, tokens_closing, tokens_space, tokens_append}
use Rattle.line_codes.specs.Codes.{Allowed, opening, closing, space, of_run, BeginsWithShow}
use Rattle.line_codes.proofs.Bytes.{in_run_lem, may_stand}
use Rattle.line_codes.proofs.Shows.{over_spaces, show_tokens, begins}
use Rattle.demands.specs.Show.{ShowAround}

-- ---- from the bytes to the tokens
only_spaces : (n : ℕ) → tokens (replicate n 32) ≡ []
only_spaces n = ap tokens (sym (append-nil (replicate n 32))) ∙ over_spaces n [] ∙ none
  where
    none : tokens [] ≡ []
    none = unfold tokens in refl

-- spaces around a line add none
pub spaces_around : (m n : ℕ) (s : List ℕ) → tokens (replicate m 32 ++ (s ++ replicate n 32)) ≡ tokens s
unfolding within
spaces_around m n s =
    over_spaces m (s ++ replicate n 32)
    ∙ tokens_append s (replicate n 32) (no_run n)
    ∙ ap (λ ts. tokens s ++ ts) (only_spaces n)
    ∙ append-nil (tokens s)
  where
    no_run : (k : ℕ) → (ends s && starts_run (replicate k 32)) ≡ false
    no_run zero = and_false (ends s)
    no_run (suc k) = and_false (ends s)

closed_last : (inner : List ℕ) (n : ℕ) → tokens (inner ++ (41 ∷ replicate n 32)) ≡ tokens inner ++ closed ∷ []
unfolding within
closed_last inner n =
    tokens_append inner (41 ∷ replicate n 32) (and_false (ends inner))
    ∙ ap (λ ts. tokens inner ++ ts) (tokens_closing (replicate n 32) ∙ ap (λ ts. closed ∷ ts) (only_spaces n))

pub around_tokens : (line inner : List ℕ) → ShowAround line inner → tokens line ≡ opened ∷ run (bytes "show") ∷ tokens inner ++ closed ∷ []
around_tokens line inner a =
    show_tokens line a.begins ∙ ap (λ ts. opened ∷ run (bytes "show") ∷ ts) (ap tokens a.rest ∙ closed_last inner a.spaces)

-- ---- from the tokens to the bytes: the last bracket, with only spaces behind it
abbrev last_closed : List Token → Bool
last_closed [] = false
last_closed (opened ∷ []) = false
last_closed (closed ∷ []) = true
last_closed (run r ∷ []) = false
last_closed (t ∷ u ∷ ts) = last_closed (u ∷ ts)

closed_there : (ts : List Token) → last_closed (ts ++ closed ∷ []) ≡ true
closed_there [] = refl
closed_there (opened ∷ []) = refl
closed_there (closed ∷ []) = refl
closed_there (run r ∷ []) = refl
closed_there (t ∷ u ∷ ts) = closed_there (u ∷ ts)

-- no token, nothing but spaces
spaces_only : (s : List ℕ) → all allowed s ≡ true → tokens s ≡ [] → (n : ℕ) × (s ≡ replicate n 32)
unfolding all
spaces_only [] a e = (0, refl)
spaces_only (b ∷ s) a e =
    let t = and_true (allowed b) (all allowed s) a in
    by (may_stand b t.0) (spaces_only s t.1)
  where
    some : (t : Token) (ts : List Token) {P : Type 0} → tokens (b ∷ s) ≡ t ∷ ts → P
    some t ts f = let z : ◌≡◌ {A = ℕ} 0 1 = cc in absurd (omega arith)

    by : Allowed b → (tokens s ≡ [] → (n : ℕ) × (s ≡ replicate n 32)) → (n : ℕ) × (b ∷ s ≡ replicate n 32)
    by (space f) more = let m = more (sym (tokens_space s) ∙ rw f at e) in (suc m.0, ap (λ (x : ℕ). x ∷ s) f ∙ ap (λ (l : List ℕ). 32 ∷ l) m.1)
    by (opening f) more = some opened (tokens s) (rw f (tokens_opening s))
    by (closing f) more = some closed (tokens s) (rw f (tokens_closing s))
    by (of_run l) more = some _ _ (run_token (b ∷ s) (in_run_lem l))

-- a byte in front of some tokens leaves the last as it is; in front of none it is the last bracket itself
last_kept : (b : ℕ) (w x y z : Bool) (t : Token) (ts : List Token) → last_closed (cond x (glue w b (t ∷ ts)) (cond y (opened ∷ t ∷ ts) (cond z (closed ∷ t ∷ ts) (t ∷ ts)))) ≡ last_closed (t ∷ ts)
last_kept b false true y z t ts = refl
last_kept b true true y z opened ts = refl
last_kept b true true y z closed ts = refl
last_kept b true true y z (run r) [] = refl
last_kept b true true y z (run r) (u ∷ ts) = refl
last_kept b w false true z t ts = refl
last_kept b w false false true t ts = refl
last_kept b w false false false t ts = refl

last_alone : (b : ℕ) (w x y z : Bool) → eqb b 41 ≡ z → last_closed (cond x (glue w b []) (cond y (opened ∷ []) (cond z (closed ∷ []) []))) ≡ true → b ≡ 41
last_alone b false true y z e f = clash f
last_alone b true true y z e f = clash f
last_alone b w false true z e f = clash f
last_alone b w false false true e f = eqb-true b 41 e
last_alone b w false false false e f = clash f

last_bracket : (s : List ℕ) → all allowed s ≡ true → last_closed (tokens s) ≡ true → (inner : List ℕ) × (n : ℕ) × (s ≡ inner ++ (41 ∷ replicate n 32))
unfolding all tokens
last_bracket [] a e = clash e
last_bracket (b ∷ s) a e =
    let t = (and_true (allowed b) (all allowed s) a).1 in
    by (tokens s) refl e (last_bracket s t) (spaces_only s t)
  where
    by : (ts : List Token) → tokens s ≡ ts → last_closed (tokens_with b s ts) ≡ true →
        (last_closed (tokens s) ≡ true → (inner : List ℕ) × (n : ℕ) × (s ≡ inner ++ (41 ∷ replicate n 32))) →
        (tokens s ≡ [] → (n : ℕ) × (s ≡ replicate n 32)) → (inner : List ℕ) × (n : ℕ) × (b ∷ s ≡ inner ++ (41 ∷ replicate n 32))
    by [] f g more only =
        let m = only f in
        let c = last_alone b (starts_run s) (in_run b) (eqb b 40) (eqb b 41) refl g in
        ([], m.0, ap (λ (x : ℕ). x ∷ s) c ∙ ap (λ (l : List ℕ). 41 ∷ l) m.1)
    by (t ∷ ts) f g more only =
        let m = more (ap last_closed f ∙ sym (last_kept b (starts_run s) (in_run b) (eqb b 40) (eqb b 41) t ts) ∙ g) in
        (b ∷ m.0, m.1, ap (λ (l : List ℕ). b ∷ l) m.2)

-- tokens in front of the last
snoc_same : (ts us : List Token) → ts ++ closed ∷ [] ≡ us ++ closed ∷ [] → ts ≡ us
snoc_same [] [] e = refl
snoc_same [] (u ∷ us) e = absurd (omega (arith, ap length e, length-append us (closed ∷ [])))
snoc_same (t ∷ ts) [] e = absurd (omega (arith, ap length e, length-append ts (closed ∷ [])))
snoc_same (t ∷ ts) (u ∷ us) e =
    let f : t ≡ u = cc in
    let g : ts ++ closed ∷ [] ≡ us ++ closed ∷ [] = cc in
    rw (f, snoc_same ts us g)

-- ---- the line inside a line with the tokens of a show
behind_all : (a b : List ℕ) → all allowed (a ++ b) ≡ true → all allowed b ≡ true
behind_all a b e = (and_true (all allowed a) (all allowed b) (sym (all_append allowed a b) ∙ e)).1

before_all : (a b : List ℕ) → all allowed (a ++ b) ≡ true → all allowed a ≡ true
before_all a b e = (and_true (all allowed a) (all allowed b) (sym (all_append allowed a b) ∙ e)).0

pub record Inside (line : List ℕ) (form : List Token) : Type 0 where
  pub inner : List ℕ
  pub around : ShowAround line inner
  pub kept : tokens inner ≡ form
  pub bytes : all allowed inner ≡ true
  pub shorter : length inner ≤ length line

module _ (line : List ℕ) (form : List Token) (a : all allowed line ≡ true) (e : tokens line ≡ opened ∷ run (bytes "show") ∷ form ++ closed ∷ []) where
  first : BeginsWithShow line
  unfolding same
  first = begins line a (rw e)

  abbrev rest : List ℕ
  rest = first.behind

  rest_tokens : tokens rest ≡ form ++ closed ∷ []
  rest_tokens = let f = show_tokens line first in cc

  rest_allowed : all allowed rest ≡ true
  rest_allowed =
      let t = behind_all (replicate first.before 32) _ (ap (all allowed) (sym first.line) ∙ a) in
      let u = behind_all (replicate first.inside 32) _ (behind_all (40 ∷ []) _ t) in
      behind_all (115 ∷ 104 ∷ 111 ∷ 119 ∷ []) rest u

  rest_shorter : length rest ≤ length line
  rest_shorter =
      let word : List ℕ = 115 ∷ 104 ∷ 111 ∷ 119 ∷ rest in
      let n = length-append (replicate first.before 32) (40 ∷ (replicate first.inside 32 ++ word)) in
      let m = length-append (replicate first.inside 32) word in
      omega (arith, ap length first.line)

  pub around_found : Inside line form
  around_found =
      let m = last_bracket rest rest_allowed (ap last_closed rest_tokens ∙ closed_there form) in
      let kept = snoc_same (tokens m.0) form (sym (closed_last m.0 m.1) ∙ ap tokens (sym m.2) ∙ rest_tokens) in
      record {
        inner = m.0;
        around = record { begins = first; spaces = m.1; rest = m.2 };
        kept = kept;
        bytes = before_all m.0 (41 ∷ replicate m.1 32) (ap (all allowed) (sym m.2) ∙ rest_allowed);
        shorter = omega (arith, ap length m.2, length-append m.0 (41 ∷ replicate m.1 32), rest_shorter);
      }
