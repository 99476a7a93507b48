-- The exact area, spelled by the signs of its ends, is one formula for all signs: t × U²/(2 × s × (U + N)).
use mathlib.Core.Path.{◌≡◌}
use mathlib.Core.Logic.{⊎_elim}
use Prim.Native.Nat.{ℕ, suc, ◌+◌, ◌*◌, ◌-◌, ◌≤◌, ◌<◌}
use native.Mathlib.Nat.{le_of_mul-le-mul_right, lt_of_mul-lt-mul_right, mul-le-mul_right, mul-lt-mul_of_pos_right, max-eq_right, mul-pos, mul-zero, eq-zero-or-pos, lt_of_not-le}
use native.Mathlib.Decide.{dec_le}
use native.Mathlib.Omega.{arith}
use borrow.Author.Tests.{le-leb, lt-leb}
use Rattle.whole.specs.Frac.{Frac, frac, ◌≼◌, ◌≺◌}
use Rattle.arms.specs.Angles.{angle, width}
use Rattle.area.specs.Area.{counted, ends_above}
use Rattle.area.specs.Exact.{up_to, above_zero, exact_stretch}
use Rattle.arms.proofs.Tens.{angle_is, angle_rises}

-- the parts above zero of the two ends are together U/s, those below together N/s
abbrev pub exact_above : (t s U N : ℕ) → Frac
exact_above t s U N = frac (t * U * U) (2 * s * (U + N))

-- ---- two fractions of one value
abbrev pub Alike : Frac → Frac → Type 0
Alike f g = f.num * g.den ≡ g.num * f.den

pub alike_low : (k : ℕ) (f g : Frac) → Alike f g → k ≼ f → k ≼ g
alike_low k f g e h = le_of_mul-le-mul_right {k = f.den} (omega (arith, mul-le-mul_right g.den h)) f.above

pub alike_high : (k : ℕ) (f g : Frac) → Alike f g → f ≺ k → g ≺ k
alike_high k f g e h = lt_of_mul-lt-mul_right f.den (omega (arith, mul-lt-mul_of_pos_right h g.above))

-- ---- by the signs of the ends
both : (t s U : ℕ) → 0 < s → Alike (exact_above t s U 0) (frac (t * U) (2 * s))
both t s U p = ⊎_elim none some (eq-zero-or-pos U)
  where
    none : U ≡ 0 → Alike (exact_above t s U 0) (frac (t * U) (2 * s))
    none e = rw (e, mul-zero t) (omega arith)

    some : 0 < U → Alike (exact_above t s U 0) (frac (t * U) (2 * s))
    some q =
        let d : 0 < 2 * s * (U + 0) = mul-pos (omega arith) (omega arith) in
        let e : 0 < 2 * s = omega arith in
        rw (max-eq_right d, max-eq_right e) (omega arith)

pub one_formula : (t s p₁ m₁ p₂ m₂ : ℕ) → 0 < s → Alike (exact_above t s (p₁ - m₁ + (p₂ - m₂)) (m₁ - p₁ + (m₂ - p₂))) (above_zero t s p₁ m₁ p₂ m₂)
unfolding above_zero
one_formula t s p₁ m₁ p₂ m₂ ps = go (dec_le m₁ p₁) (dec_le m₂ p₂)
  where
    go : Dec (m₁ ≤ p₁) → Dec (m₂ ≤ p₂) → Alike (exact_above t s (p₁ - m₁ + (p₂ - m₂)) (m₁ - p₁ + (m₂ - p₂))) (above_zero t s p₁ m₁ p₂ m₂)
    go (yes a) (yes c) =
        let e : m₁ - p₁ + (m₂ - p₂) ≡ 0 = omega arith in
        rw (le-leb m₁ p₁ a, le-leb m₂ p₂ c, e) (both t s (p₁ - m₁ + (p₂ - m₂)) ps)
    go (yes a) (no c) =
        let l : p₂ < m₂ = lt_of_not-le c in
        let e : m₁ - p₁ + (m₂ - p₂) ≡ m₂ - p₂ = omega arith in
        let f : p₁ - m₁ + (p₂ - m₂) ≡ p₁ - m₁ = omega arith in
        rw (le-leb m₁ p₁ a, lt-leb m₂ p₂ l, e, f)
    go (no a) (yes c) =
        let l : p₁ < m₁ = lt_of_not-le a in
        let e : m₁ - p₁ + (m₂ - p₂) ≡ m₁ - p₁ = omega arith in
        let f : p₁ - m₁ + (p₂ - m₂) ≡ p₂ - m₂ = omega arith in
        rw (lt-leb m₁ p₁ l, le-leb m₂ p₂ c, e, f)
    go (no a) (no c) =
        let l : p₁ < m₁ = lt_of_not-le a in
        let r : p₂ < m₂ = lt_of_not-le c in
        let f : p₁ - m₁ + (p₂ - m₂) ≡ 0 = omega arith in
        rw (lt-leb m₁ p₁ l, lt-leb m₂ p₂ r, f) (omega (arith, mul-zero (t * 0)))

-- ---- a stretch
up_to_is : (u k : ℕ) → k < 9 → up_to u (angle k) (angle (suc k)) ≡ counted u k
up_to_is u k h = go (dec_le u (angle k)) (dec_le (angle (suc k)) u)
  where
    go : Dec (u ≤ angle k) → Dec (angle (suc k) ≤ u) → up_to u (angle k) (angle (suc k)) ≡ counted u k
    go (yes a) d = rw (le-leb u (angle k) a) (omega arith)
    go (no a) (yes c) = rw (lt-leb u (angle k) (lt_of_not-le a), le-leb (angle (suc k)) u c) (omega arith)
    go (no a) (no c) = rw (lt-leb u (angle k) (lt_of_not-le a), lt-leb (angle (suc k)) u (lt_of_not-le c)) (omega (arith, lt_of_not-le c))

abbrev pub one_stretch : (q : ℕ) (p m : ℕ → ℕ) (u k : ℕ) → Frac
one_stretch q p m u k =
    exact_above (counted u k) (width k * q)
    (ends_above (width k) (counted u k) (p k) (m k) (p (suc k)) (m (suc k)))
    (ends_above (width k) (counted u k) (m k) (p k) (m (suc k)) (p (suc k)))

pub stretch_alike : (q : ℕ) (p m : ℕ → ℕ) (u k : ℕ) → 0 < q → k < 9 → Alike (one_stretch q p m u k) (exact_stretch q p m u k)
stretch_alike q p m u k pq h =
    let w : 0 < width k = omega (arith, angle_rises k h) in
    let t = counted u k in
    rw (angle_is k, angle_is (suc k), up_to_is u k h)
    (one_formula t (width k * q) (width k * p k) (width k * m k) (p k * (width k - t) + p (suc k) * t) (m k * (width k - t) + m (suc k) * t) (mul-pos w pq))
