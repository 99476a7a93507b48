-- Laws of the test that every number of a line is sound.
use mathlib.Core.Path.{◌≡◌, refl, ◌∙◌, ap}
use mathlib.Core.Bool.{Bool, true, false, cond, ◌&&◌}
use Rattle.std.proofs.Math.Bool.{and_assoc, and-true}
use mathlib.Core.List.{List, [], ◌∷◌}
use Prim.Native.Nat.{ℕ, suc}
use native.Mathlib.Omega.{arith}
use lib.Dec.{eqb}
use lib.ListN.{length, take, drop}
use Rattle.whole.specs.Lists.{all}
use Rattle.text.specs.Token.{Token, opened, closed, opening, closing, is_digit, in_run, starts_run, tokens, value, is_number, number_of}
use Rattle.text.specs.Token.{run_length}
use Rattle.text.proofs.Runs.{no_run, run_token}
use Rattle.std.specs.Prelude.{Some, None, is_some}
use Rattle.line_codes.specs.Line.{number_if_digit, sound_token}

abbrev pub sound : List ℕ → Bool
sound s = all sound_token (tokens s)

other_by : (b : ℕ) (s : List ℕ) (x y : Bool) → all sound_token (cond x (opened ∷ tokens s) (cond y (closed ∷ tokens s) (tokens s))) ≡ sound s
unfolding all
other_by b s true y = refl
other_by b s false true = refl
other_by b s false false = refl

pub one_other : (b : ℕ) (s : List ℕ) → in_run b ≡ false → sound (b ∷ s) ≡ sound s
unfolding tokens
one_other b s e = rw e (other_by b s (eqb b opening) (eqb b closing))

-- the run in front, empty or not, and what stands behind it
front_by_lem : (l : List ℕ) (x : Bool) → starts_run l ≡ x → sound l ≡ (number_if_digit (take (run_length l) l) && sound (drop (run_length l) l))
unfolding all
front_by_lem l true e = rw (run_token l e)
front_by_lem l false e = rw (no_run l e)

pub sound_front : (l : List ℕ) → sound l ≡ (number_if_digit (take (run_length l) l) && sound (drop (run_length l) l))
sound_front l = front_by_lem l (starts_run l) refl

-- one run that starts with a digit
some_by : (x : Bool) (n : ℕ) → is_some (cond x (Some n) None) ≡ x
some_by true n = refl
some_by false n = refl

pub sound_number : (r : List ℕ) {b : ℕ} {t : List ℕ} → r ≡ b ∷ t → is_digit b ≡ true → is_some (number_of r) ≡ number_if_digit r
unfolding number_of
sound_number [] {b} {t} f e = absurd (let n : 0 ≡ suc (length t) = ap length f in omega arith)
sound_number (x ∷ s) {b} {t} f e =
    let h : x ≡ b = cc in
    some_by (is_number (x ∷ s)) (value (x ∷ s)) ∙ rw (h, e)

-- a walk along the tokens: `found` says whether those passed are sound, and ts is what is left
module _ (found : Bool) {ts : List Token} {whole : Bool} (left : (found && all sound_token ts) ≡ whole) where
  pub sounds_on : (t : Token) (us : List Token) → ts ≡ t ∷ us → {here : Bool} → here ≡ sound_token t → (found && here && all sound_token us) ≡ whole
  unfolding all
  sounds_on t us e {here} f = rw (and_assoc found here (all sound_token us), f, ← left, e)

  pub sounds_end : ts ≡ [] → found ≡ whole
  unfolding all
  sounds_end e = rw (← left, e, and-true found)
