-- Laws of the area above zero, as the code makes it: where nothing lies above, where all does, and a whole stretch at its own size.
use mathlib.Core.Path.{◌≡◌, refl, sym, ap, ap₂, ◌∙◌}
use Prim.Native.Nat.{ℕ, suc, ◌+◌, ◌*◌, ◌-◌, ◌/◌, ◌^◌, ◌≤◌, ◌<◌}
use native.Mathlib.Omega.{arith}
use native.Mathlib.Nat.{mul-zero, zero-mul, zero-div, add-zero, mul-div-mul_right, mul-le-mul, mul-le-mul_left, div-le_of_le-mul}
use mathlib.Core.List.{List}
use native.Mathlib.Numerals.{add-one}
use lib.ListN.{get_or}
use lib.IntN.{ℤ, pos}
use Rattle.std.specs.List.{sum_by, range_with_len}
use Rattle.sign.specs.Sign.{plus, minus}
use Rattle.whole.specs.Line.{on_line}
use Rattle.whole.proofs.Lines.{line_le}
use Rattle.arms.specs.Angles.{angle, width}
use Rattle.arms.proofs.Tens.{width_some, width_le}
use Rattle.area.specs.Area.{area_above, ends_above, counted, stretch_area, area_over, area}
use Rattle.arms.specs.Arms.{plus_at, minus_at}
use Rattle.arms.specs.Walk.{Bounded}
use Rattle.area.specs.Walk.{EndBounds, part_area}

pub nothing_above : (t s n : ℕ) → 0 ≡ area_above t s 0 n
nothing_above t s n = sym (rw (mul-zero, zero-div) refl)

pub all_above : (t s u : ℕ) → 0 < u → t * u / (2 * s) ≡ area_above t s u 0
all_above t s u p = sym (rw (add-zero u) (mul-div-mul_right (t * u) (2 * s) p))

-- ---- the ends of a stretch: its width, and the bounds of the differences there
width_between : (k : ℕ) {from to : ℕ} → from ≡ angle k → to ≡ angle (k + 1) → to - from ≡ width k
width_between k a b = ap₂ ◌-◌ (b ∙ ap angle (add-one k)) a

pub between_le : (k : ℕ) {from to : ℕ} → k < 9 → from ≡ angle k → to ≡ angle (k + 1) → to - from ≤ 500
between_le k h a b = omega (arith, width_between k a b, width_le k h)

pub end_bounds : (ds : List ℤ) (k : ℕ) → Bounded ds → k < 10 → EndBounds (get_or ds k (pos 0))
end_bounds ds k b h = record { above = b.above k h; below = b.below k h }

pub both_bounds : (ds : List ℤ) (k : ℕ) → Bounded ds → k < 9 → EndBounds (get_or ds k (pos 0)) × EndBounds (get_or ds (k + 1) (pos 0))
both_bounds ds k b h = (end_bounds ds k b (omega arith), end_bounds ds (k + 1) b (omega arith))

-- ---- how much of a stretch counts
module _ (u k : ℕ) where
  counted_none : u ≤ angle k → counted u k ≡ 0
  counted_none h = omega arith

  pub stretch_none : (p m : ℕ → ℕ) → u ≤ angle k → 0 ≡ stretch_area p m u k
  stretch_none p m h = sym (rw (counted_none h, zero-mul, zero-mul, zero-div) refl)

  counted_whole : angle (suc k) ≤ u → counted u k ≡ width k
  counted_whole h = omega arith

  counted_part : u < angle (suc k) → counted u k ≡ u - angle k
  counted_part h = omega arith

-- the stretch from the k-th angle to the next, where all of it counts or the part up to u
module _ (ds : List ℤ) (u k : ℕ) {from to : ℕ} (a : from ≡ angle k) (b : to ≡ angle (k + 1)) where
  pub stretch_whole : to ≤ u → part_area (to - from) (to - from) (get_or ds k (pos 0)) (get_or ds (k + 1) (pos 0)) ≡ stretch_area (plus_at ds) (minus_at ds) u k
  stretch_whole l =
      let m : angle (suc k) ≤ u = rw (b, add-one k) at l in rw (width_between k a b, add-one k, counted_whole u k m) refl

  pub stretch_part : u < to → part_area (to - from) (u - from) (get_or ds k (pos 0)) (get_or ds (k + 1) (pos 0)) ≡ stretch_area (plus_at ds) (minus_at ds) u k
  stretch_part l =
      let m : u < angle (suc k) = rw (b, add-one k) at l in rw (width_between k a b, a, add-one k, counted_part u k m) refl

-- ---- the area is at most the two heights together
area_le : (t s u n : ℕ) → t ≤ s → 0 < s → area_above t s u n ≤ u
area_le t s u n l p = div-le_of_le-mul (2 * s * (u + n)) (omega (arith, mul-le-mul_left (u * u) l))

ends_le : (h t p₁ m₁ p₂ m₂ : ℕ) → ends_above h t p₁ m₁ p₂ m₂ ≤ h * p₁ + on_line h t p₁ p₂
ends_le h t p₁ m₁ p₂ m₂ = omega arith

pub part_le : (h t : ℕ) (d e : ℤ) → t ≤ h → 0 < h → h ≤ 500 → EndBounds d → EndBounds e → part_area h t d e ≤ 2 ^ 36
part_le h t d e l p w x y =
    let q = line_le h t (plus d) (plus e) (2 ^ 26) l x.above y.above in
    omega (arith, area_le t h (ends_above h t (plus d) (minus d) (plus e) (minus e)) (ends_above h t (minus d) (plus d) (minus e) (plus e)) l p, ends_le h t (plus d) (minus d) (plus e) (minus e), q, mul-le-mul w x.above, mul-le-mul_left (2 ^ 26) w)

-- ---- the nine stretches of the ten DIFFs, added up
module _ (ds : List ℤ) (u : ℕ) where
  stretch_le : (k : ℕ) → Bounded ds → k < 9 → stretch_area (plus_at ds) (minus_at ds) u k ≤ 2 ^ 36
  stretch_le k b h =
      part_le (width k) (counted u k) (get_or ds k (pos 0)) (get_or ds (suc k) (pos 0)) (omega arith) (width_some k h) (width_le k h)
      (end_bounds ds k b (omega arith)) (end_bounds ds (suc k) b (omega arith))

  pub stretches_fit : Bounded ds → sum_by (stretch_area (plus_at ds) (minus_at ds) u) (range_with_len 0 9) < 2 ^ 64
  stretches_fit b =
      let f = λ (k : ℕ) (h : k < 9). stretch_le k b h in
      omega (arith, f 0 (omega arith), f 1 (omega arith), f 2 (omega arith), f 3 (omega arith), f 4 (omega arith), f 5 (omega arith), f 6 (omega arith), f 7 (omega arith), f 8 (omega arith))

  pub stretches_are : sum_by (stretch_area (plus_at ds) (minus_at ds) u) (range_with_len 0 9) ≡ area ds u
  unfolding area_over
  stretches_are = refl
