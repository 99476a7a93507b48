-- Laws of what a cell can hold, and of depths and areas within their limits.
use mathlib.Core.Path.{◌≡◌, refl}
use Prim.Native.Nat.{ℕ, ◌*◌, ◌-◌, ◌/◌, ◌≤◌, ◌<◌}
use native.Mathlib.Omega.{arith}
use native.Mathlib.Nat.{mul-le-mul_left, le_of_lt, lt_of_not-le}
use native.Mathlib.Decide.{dec_le}
use borrow.Author.Tests.{le-leb, lt-leb}
use Rattle.record.specs.declared.Cell.{Cell}
use Rattle.record.specs.Held.{cell_width}
use Rattle.cells.specs.Depth.{standard_depth, wing_depth, cell_depth, cell_area}
use Rattle.cells.specs.Sizes.{most_held}
use Rattle.cells.proofs.Depths.{below_first, above_last, between, between_le}

-- ---- the two cases of what a cell can hold, and the sizes that occur
module _ (w g : ℕ) where
  pub most_triangle : 100000 * g ≤ 26795 * w → 100000 * (g * g) / (2 * 26795) ≡ most_held w g
  unfolding most_held
  most_triangle h = rw (le-leb (100000 * g) (26795 * w) h) refl

  pub most_trapezium : 26795 * w < 100000 * g → (200000 * (w * g) - 26795 * (w * w)) / 200000 ≡ most_held w g
  unfolding most_held
  most_trapezium h = rw (lt-leb (100000 * g) (26795 * w) h) refl

  pub most_taken : 26795 * w < 100000 * g → 26795 * (w * w) ≤ 200000 * (w * g)
  most_taken h = omega (arith, mul-le-mul_left w (le_of_lt h))

-- ---- depths and areas within their limits
standard_le : (x : ℕ) → x ≤ 20000 → standard_depth x ≤ 775000
standard_le x h = go (dec_le 500 x) (dec_le 8000 x)
  where
    go : Dec (500 ≤ x) → Dec (8000 ≤ x) → standard_depth x ≤ 775000
    go (no f) e = omega (arith, below_first x (omega (arith, lt_of_not-le f)))
    go (yes f) (yes e) = omega (arith, above_last x e)
    go (yes f) (no e) = omega (arith, between x f (lt_of_not-le e), between_le x f (lt_of_not-le e))

pub wing_le : (dist girder : ℕ) → dist ≤ 20000 → girder ≤ 3000 → wing_depth dist girder ≤ 33500
unfolding wing_depth
wing_le dist girder h k = omega (arith, standard_le dist h)

pub area_le : (c : Cell) → cell_depth c ≤ 50000 → cell_area c ≤ 5000 * cell_width c
unfolding cell_area
area_le c h = omega (arith, mul-le-mul_left (cell_width c) h)
