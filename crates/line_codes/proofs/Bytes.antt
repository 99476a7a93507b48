-- Code 11: the bytes that a line may have, by the tests of the definitions and by the paper's words.
use mathlib.Core.Path.{◌≡◌, refl}
use mathlib.Core.Bool.{Bool, true, false, ◌&&◌, ◌||◌, or-true}
use mathlib.Core.List.{List, [], ◌∷◌}
use Prim.Native.Nat.{ℕ, suc}
use native.Mathlib.Omega.{arith}
use lib.ListN.{get_or}
use Rattle.whole.specs.Lists.{within, all}
use Rattle.whole.proofs.Lists.{within_true, within_by, all_at}
use Rattle.text.specs.Token.{is_letter, is_digit, in_run, allowed}
use Rattle.text.proofs.Sorts.{Sort, is_space, is_opening, is_closing, is_of_run, sort}
use Rattle.line_codes.specs.Codes.{LetterOrDigit, letter, digit, Allowed, opening, closing, space, of_run, AllAllowed, OtherByte}

-- ---- letters and digits
pub in_run_lem : {b : ℕ} → LetterOrDigit b → in_run b ≡ true
in_run_lem {b} (letter p q) = rw (within_by 97 122 b p q)
in_run_lem {b} (digit p q) = rw (within_by 48 57 b p q) (or-true (is_letter b))

pub of_run_lem : (b : ℕ) → in_run b ≡ true → LetterOrDigit b
of_run_lem b e = by (is_letter b) refl e
  where
    by : (x : Bool) → is_letter b ≡ x → (x || is_digit b) ≡ true → LetterOrDigit b
    by true p w = let t = within_true 97 122 b p in letter t.low t.high
    by false p w = let t = within_true 48 57 b w in digit t.low t.high

pub no_run : (b : ℕ) → in_run b ≡ false → LetterOrDigit b → ⊥
no_run b e l =
    let z : ◌≡◌ {A = ℕ} 0 1 = cc (in_run_lem l) in omega arith

-- ---- the bytes that a line may have
pub may_stand : (b : ℕ) → allowed b ≡ true → Allowed b
may_stand b e = by (sort b e)
  where
    by : Sort b → Allowed b
    by (is_space p) = space p
    by (is_opening p) = opening p
    by (is_closing p) = closing p
    by (is_of_run p) = of_run (of_run_lem b p)

passes : (b : ℕ) → Allowed b → allowed b ≡ true
unfolding within
passes b (opening e) = rw e
passes b (closing e) = rw e
passes b (space e) = rw e
passes b (of_run r) = rw (in_run_lem r)

pub other_byte : (s : List ℕ) → all allowed s ≡ false → OtherByte s
unfolding all
other_byte [] e =
    let z : ◌≡◌ {A = ℕ} 0 1 = cc in absurd (omega arith)
other_byte (b ∷ s) e = by (allowed b) refl e (other_byte s)
  where
    by : (x : Bool) → allowed b ≡ x → (x && all allowed s) ≡ false → (all allowed s ≡ false → OtherByte s) → OtherByte (b ∷ s)
    by true p w more = let o = more w in (suc o.0, omega (arith, o.1), o.2)
    by false p w more = (0, omega arith, λ a. let y = passes b a in let z : ◌≡◌ {A = ℕ} 0 1 = cc in omega arith)

pub all_allowed : (s : List ℕ) → all allowed s ≡ true → AllAllowed s
all_allowed s e i h = may_stand (get_or s i 0) (all_at allowed s i 0 e h)
