-- Document 01, the exact area above zero, with no rounding, under the straight lines that join the exact differences at the ten angles. As
-- with the exact arms, no formula is shared with the definitions that compute AREA.
use Rattle.std.specs.Prelude.{cond, ℕ, zero, suc, ◌+◌, ◌*◌, ◌-◌, leb}
use Rattle.whole.specs.Frac.{Frac, frac, ◌⊕◌}
use Rattle.arms.specs.declared.Basis.{Basis}
use Rattle.arms.specs.Exact.{angle_of, wide, den, exact_kn, exact_taken}

-- how far a stretch from a to c counts: nothing where u is not above a, all of it where u is not below c, else up to u
abbrev pub up_to : (u a c : ℕ) → ℕ
up_to u a c = cond (leb u a) 0 (cond (leb c u) (c - a) (u - a))

-- over a breadth t, with the heights u₁/s and u₂/s at its ends, both not below zero: a trapezium
abbrev pub trapezium : (t s u₁ u₂ : ℕ) → Frac
trapezium t s u₁ u₂ = frac (t * (u₁ + u₂)) (2 * s)

-- with one end u/s above zero and the other v/s below: a triangle, whose base is the part u/(u + v) of t
abbrev pub triangle : (t s u v : ℕ) → Frac
triangle t s u v = frac (t * u * u) (2 * s * (u + v))

-- over a breadth t, the area above zero under the straight line from (p₁ − m₁)/s to (p₂ − m₂)/s: both ends not below zero; falling
-- through zero; rising through zero; both below
unfoldable pub above_zero : (t s p₁ m₁ p₂ m₂ : ℕ) → Frac
above_zero t s p₁ m₁ p₂ m₂ =
    cond (leb m₁ p₁)
    (cond (leb m₂ p₂) (trapezium t s (p₁ - m₁) (p₂ - m₂)) (triangle t s (p₁ - m₁) (m₂ - p₂)))
    (cond (leb m₂ p₂) (triangle t s (p₂ - m₂) (m₁ - p₁)) (frac 0 1))

-- the stretch behind the k-th angle, up to u, of the line whose value at the k-th angle is (p k − m k)/q. At h × q times their size, with
-- h the width and t what counts of it, the ends are h × p k − h × m k and the point at t of h.
abbrev pub exact_stretch : (q : ℕ) (p m : ℕ → ℕ) (u k : ℕ) → Frac
exact_stretch q p m u k =
    let h = wide k in
    let t = up_to u (angle_of k) (angle_of (suc k)) in
    above_zero t (h * q) (h * p k) (h * m k) (p k * (h - t) + p (suc k) * t) (m k * (h - t) + m (suc k) * t)

-- the first n stretches, added up
unfoldable pub exact_over : (q : ℕ) (p m : ℕ → ℕ) (u n : ℕ) → Frac
exact_over q p m u zero = frac 0 1
exact_over q p m u (suc n) = exact_over q p m u n ⊕ exact_stretch q p m u n

-- the exact area from 0 to u
abbrev pub exact_area : Basis → ℕ → Frac
exact_area b u = exact_over (den b) (exact_kn b) (exact_taken b) u 9
