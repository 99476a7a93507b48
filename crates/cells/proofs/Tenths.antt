-- What the step to a tenth of a mm and the step to a whole mm² cost a yard.
use mathlib.Core.Path.{sym, subst}
use Prim.Native.Nat.{ℕ, ◌+◌, ◌*◌}
use native.Mathlib.Omega.{arith}
use Rattle.whole.specs.Divide.{ceil_div}
use Rattle.whole.proofs.Dividing.{ceil_low, ceil_high}
use Rattle.record.specs.declared.Cell.{Cell}
use Rattle.record.specs.declared.Cell.TheVariants.{Wing, Hatch, Void}
use Rattle.cells.specs.Depth.{wing_unrounded, wing_depth, cell_depth, cell_area}
use Rattle.cells.specs.Figures.{WingAreaNear, AreaByDepth}
use Rattle.cells.proofs.Rounding.{whole_mm, near_by}
use Rattle.cells.proofs.Figures.{unrounded_only}

wing_near : (w e : ℕ) → WingAreaNear w e (ceil_div (w * ceil_div e 50) 10)
wing_near w e =
    near_by w e (ceil_div e 50) (ceil_div (w * ceil_div e 50) 10)
    (ceil_low e 50 (omega arith)) (ceil_high e 50 (omega arith)) (ceil_low (w * ceil_div e 50) 10 (omega arith)) (ceil_high (w * ceil_div e 50) 10 (omega arith))

pub area_by_depth : (c : Cell) → AreaByDepth c (cell_area c)
unfolding cell_area cell_depth wing_depth
area_by_depth (Wing w d g l) = λ e u.
    subst (λ (n : ℕ). WingAreaNear w n (ceil_div (w * ceil_div (wing_unrounded d g) 50) 10)) (sym (unrounded_only d g e u)) (wing_near w (wing_unrounded d g))
area_by_depth (Hatch w o l) = whole_mm w (o + 150)
area_by_depth (Void w d l) = whole_mm w d
