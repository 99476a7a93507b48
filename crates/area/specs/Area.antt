-- Document 01, AREA: the area above zero under the straight lines joining the ten DIFFs, in µm times hundredths of a degree.
use Rattle.std.specs.Prelude.{◌≡◌, refl, List, ℕ, zero, suc, ◌+◌, ◌*◌, ◌-◌, ◌/◌, ◌<◌, min, ℤ}
use Rattle.std.proofs.Common.{sym, ap, ap₂, ◌∙◌, mul-zero, add-zero, arith}
use Rattle.std.proofs.Math.Nat.{zero-div, mul-div-mul_right}
use Rattle.whole.specs.Line.{on_line}
use Rattle.arms.specs.Angles.{angle, width}
use Rattle.arms.specs.Arms.{plus_at, minus_at}

-- The area above zero under a straight line over a stretch t, rounded down. Of its two ends, at s times their size, the parts
-- above zero are together U and the parts below zero together N. One formula, t × U²/(2 × s × (U + N)), holds for all signs:
abbrev pub area_above : (t s U N : ℕ) → ℕ
area_above t s U N = t * U * U / (2 * s * (U + N))

-- both ends above zero: a trapezium, the stretch × the mean of the two heights
pub both_above : (t s u₁ u₂ : ℕ) → 0 < u₁ + u₂ → area_above t s (u₁ + u₂) 0 ≡ t * (u₁ + u₂) / (2 * s)
both_above t s u₁ u₂ p = rw (add-zero (u₁ + u₂)) (mul-div-mul_right (t * (u₁ + u₂)) (2 * s) p)

-- one end u above and the other v below zero, whether it falls or rises through zero: with the crossing at t₁/c of the stretch, which
-- is its part u/(u + v), a triangle of base t₁/c and height u/s
pub one_above : (t t₁ c s u v : ℕ) → 0 < u + v → 0 < c → t₁ * (u + v) ≡ c * (t * u) → area_above t s u v ≡ t₁ * u / (2 * s * c)
one_above t t₁ c s u v p q e =
    sym (mul-div-mul_right (t * u * u) (2 * s * (u + v)) q)
    ∙ ap₂ ◌/◌ (scaled t₁ c t u (u + v) e) (swapped s c (u + v))
    ∙ mul-div-mul_right (t₁ * u) (2 * s * c) p
  where
    scaled : (t₁ c t u w : ℕ) → t₁ * w ≡ c * (t * u) → t * u * u * c ≡ t₁ * u * w
    scaled t₁ c t u w e = omega (arith, ap (λ x. x * u) e)

    swapped : (s c w : ℕ) → 2 * s * w * c ≡ 2 * s * c * w
    swapped s c w = omega arith

-- both ends below zero, or at zero: nothing
pub none_above : (t s v₁ v₂ : ℕ) → area_above t s 0 (v₁ + v₂) ≡ 0
none_above t s v₁ v₂ = rw (mul-zero, zero-div) refl

-- how much of the stretch from the k-th angle to the next lies below u
abbrev pub counted : (u k : ℕ) → ℕ
counted u k = min u (angle (suc k)) - angle k

-- The line from p₁ − m₁ to p₂ − m₂ over a width h, of which the first t count: how far the two ends of that part lie above
-- zero, together, and at h times their size; below zero with p and m exchanged. The second end is a point on the line, not
-- rounded. (`-` of whole numbers is 0 where it would be below: that is the part above zero.)
abbrev pub ends_above : (h t p₁ m₁ p₂ m₂ : ℕ) → ℕ
ends_above h t p₁ m₁ p₂ m₂ = h * p₁ - h * m₁ + (on_line h t p₁ p₂ - on_line h t m₁ m₂)

-- the stretch behind the k-th angle, up to u, of the line whose value at the k-th angle is p k − m k
abbrev pub stretch_area : (p m : ℕ → ℕ) (u k : ℕ) → ℕ
stretch_area p m u k =
    area_above (counted u k) (width k)
    (ends_above (width k) (counted u k) (p k) (m k) (p (suc k)) (m (suc k)))
    (ends_above (width k) (counted u k) (m k) (p k) (m (suc k)) (p (suc k)))

-- the first n stretches, each rounded down, added up
unfoldable pub area_over : (p m : ℕ → ℕ) (u n : ℕ) → ℕ
area_over p m u zero = 0
area_over p m u (suc n) = area_over p m u n + stretch_area p m u n

-- AREA from 0 to u, over the nine stretches
abbrev pub area : List ℤ → ℕ → ℕ
area ds u = area_over (plus_at ds) (minus_at ds) u 9
