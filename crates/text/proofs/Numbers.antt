-- Laws of runs and of the numbers that they say.
use mathlib.Core.Path.{◌≡◌, refl, ◌∙◌}
use mathlib.Core.Bool.{Bool, true, false, ◌&&◌}
use mathlib.Core.List.{List, [], ◌∷◌}
use Prim.Native.Nat.{ℕ, ◌+◌, ◌-◌, ◌*◌, ◌≤◌, ◌<◌}
use native.Mathlib.Omega.{arith}
use lib.Dec.{leb}
use lib.ListN.{length, get_or, drop}
use borrow.Author.Tests.{ne_eqb, le-leb, lt-leb}
use Rattle.whole.specs.Lists.{all}
use Rattle.text.specs.Token.{is_digit, value_from, value, needless_zero, number_of}
use Rattle.text.specs.Front.{digits_from}
use Rattle.std.specs.Prelude.{Some, None}
use Rattle.whole.proofs.Lists.{and_false, drop_next, drop_end}

-- a value never falls as digits follow
pub value_grows : (v : ℕ) (l : List ℕ) → v ≤ value_from v l
unfolding value_from
value_grows v [] = omega arith
value_grows v (b ∷ s) = omega (arith, value_grows (10 * v + (b - 48)) s)

one_more : (v b : ℕ) (s : List ℕ) → is_digit b ≡ true → digits_from v (b ∷ s) ≡ digits_from (10 * v + (b - 48)) s
unfolding digits_from value_from all
one_more v b s e = rw e

one_bad : (v b : ℕ) (s : List ℕ) → is_digit b ≡ false → digits_from v (b ∷ s) ≡ None
unfolding digits_from all
one_bad v b s e = rw e

too_large : (v : ℕ) (l : List ℕ) → 999999999 < v → digits_from v l ≡ None
unfolding digits_from
too_large v l p = rw (lt-leb (value_from v l) 999999999 (omega (arith, value_grows v l)), and_false (all is_digit l))

no_more : (v : ℕ) → v ≤ 999999999 → digits_from v [] ≡ Some v
unfolding digits_from all value_from
no_more v p = rw (le-leb v 999999999 p)

module _ (s : List ℕ) (i : ℕ) where
  pub digits_out : (v : ℕ) → v ≤ 999999999 → length s ≤ i → digits_from v (drop i s) ≡ Some v
  digits_out v q p = rw (drop_end s i 0 p) (no_more v q)

  module _ (p : i < length s) where
    pub digits_bad : (v : ℕ) → is_digit (get_or s i 0) ≡ false → digits_from v (drop i s) ≡ None
    digits_bad v e = rw (drop_next s i 0 p) (one_bad v (get_or s i 0) (drop (i + 1) s) e)

    pub digits_on : (v : ℕ) → is_digit (get_or s i 0) ≡ true → digits_from v (drop i s) ≡ digits_from (10 * v + (get_or s i 0 - 48)) (drop (i + 1) s)
    digits_on v e = rw (drop_next s i 0 p) (one_more v (get_or s i 0) (drop (i + 1) s) e)

    pub digits_large : (v : ℕ) → is_digit (get_or s i 0) ≡ true → 999999999 < 10 * v + (get_or s i 0 - 48) → digits_from v (drop i s) ≡ None
    digits_large v e q = digits_on v e ∙ too_large (10 * v + (get_or s i 0 - 48)) (drop (i + 1) s) q

-- a number: digits without a needless zero
pub number_none : (r : List ℕ) → length r ≡ 0 → number_of r ≡ None
unfolding number_of
number_none [] p = refl
number_none (b ∷ s) p = absurd (omega arith)

pub number_zeros : (r : List ℕ) → 1 < length r → get_or r 0 0 ≡ 48 → number_of r ≡ None
unfolding number_of
number_zeros [] p e = absurd (omega arith)
number_zeros (b ∷ []) p e = absurd (omega arith)
number_zeros (b ∷ d ∷ s) p e =
    let f : b ≡ 48 = e in
    rw (f, and_false (all is_digit (48 ∷ d ∷ s)))

pub needless : (r : List ℕ) → (1 < length r → get_or r 0 0 ≡ 48 → ⊥) → needless_zero r ≡ false
needless [] p = refl
needless (b ∷ []) p = refl
needless (b ∷ d ∷ s) p = ne_eqb b 48 (p (omega arith))

and_true : (a b : Bool) → (a && true && b) ≡ (a && b)
and_true true b = refl
and_true false b = refl

pub number_digits : (r : List ℕ) → (length r ≡ 0 → ⊥) → (1 < length r → get_or r 0 0 ≡ 48 → ⊥) → number_of r ≡ digits_from 0 r
unfolding number_of digits_from
number_digits [] p q = absurd (p refl)
number_digits (b ∷ s) p q = rw (needless (b ∷ s) q, and_true (all is_digit (b ∷ s)) (leb (value (b ∷ s)) 999999999))
