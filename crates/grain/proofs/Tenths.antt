-- A void that fitted with wings' depths in whole mm fits in tenths.
use mathlib.Core.Path.{◌≡◌, refl}
use mathlib.Core.Bool.{true}
use mathlib.Core.List.{List, [], ◌∷◌}
use Prim.Native.Nat.{ℕ, ◌+◌, ◌-◌, ◌≤◌}
use native.Mathlib.Omega.{arith}
use borrow.Author.Tests.{le-leb, leb-true}
use Rattle.record.specs.declared.Cell.{Cell}
use Rattle.record.specs.declared.Cell.TheVariants.{Wing, Hatch, Void}
use Rattle.cells.specs.Depth.{wing_unrounded, cell_area}
use Rattle.cells.specs.Sizes.{cell_most}
use Rattle.cells.proofs.Figures.{rounded_up, unrounded}
use Rattle.cells.proofs.Tenths.{area_by_depth}
use Rattle.grain.specs.Section.{fits_from}
use Rattle.grain.specs.Tenths.{area_in_whole, fits_in_whole, FitsStill}

not_above_lem : (c : Cell) → cell_area c ≤ area_in_whole c
not_above_lem (Wing w d g l) =
    let e = wing_unrounded d g in
    (area_by_depth (Wing w d g l) e (unrounded d g)).not_above_whole _ (rounded_up e 500 (omega arith))
not_above_lem (Hatch w o l) = omega (arith, area_by_depth (Hatch w o l))
not_above_lem (Void w d l) = omega (arith, area_by_depth (Void w d l))

-- a smaller excess and smaller areas
still : (e f : ℕ) (cs : List Cell) → e ≤ f → fits_in_whole f cs ≡ true → fits_from e cs ≡ true
unfolding fits_from fits_in_whole
still e f [] h p = refl
still e f (c ∷ []) h p = le-leb (cell_area c + e) (cell_most c) (omega (arith, not_above_lem c, leb-true (area_in_whole c + f) (cell_most c) p))
still e f (c ∷ d ∷ cs) h p =
    still (e + (cell_area c - cell_most c)) (f + (area_in_whole c - cell_most c)) (d ∷ cs) (omega (arith, not_above_lem c)) p

pub fits_still : FitsStill
fits_still cs p = still 0 0 cs (omega arith) p
