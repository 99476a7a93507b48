-- The two roundings of a cell's area, to a tenth of a mm and to a whole mm².
use mathlib.Core.Path.{◌≡◌}
use Prim.Native.Nat.{ℕ, ◌+◌, ◌*◌, ◌≤◌, ◌<◌}
use native.Mathlib.Nat.{mul-le-mul_left}
use native.Mathlib.Omega.{arith}
use Rattle.whole.specs.Divide.{ceil_div}
use Rattle.cells.specs.Figures.{WingAreaNear}

-- of whole mm nothing is rounded
pub whole_mm : (w d : ℕ) → ceil_div (w * (10 * d)) 10 ≡ w * d
whole_mm w d = omega arith

-- with the two roundings as variables
pub near_by : (w e d a : ℕ) → e ≤ 50 * d → 50 * d < e + 50 → w * d ≤ 10 * a → 10 * a < w * d + 10 → WingAreaNear w e a
near_by w e d a h k l m =
    let up : 50 * d ≤ e + 49 = omega arith in
    record {
      not_below = omega (arith, mul-le-mul_left w h);
      near = omega (arith, mul-le-mul_left w up);
      not_above_whole = λ mm r.
          let tenths : d ≤ 10 * mm = omega (arith, r.0) in
          omega (arith, mul-le-mul_left w tenths);
    }
