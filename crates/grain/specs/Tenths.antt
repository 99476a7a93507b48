-- Document 02, P1: a void that fitted with wings' depths in whole mm fits in tenths. So 21 may have become 00, and never the reverse.
use Rattle.std.specs.Prelude.{◌≡◌, Bool, true, List, [], ◌∷◌, ℕ, ◌+◌, ◌*◌, ◌-◌, leb}
use Rattle.whole.specs.Divide.{ceil_div}
use Rattle.record.specs.declared.Cell.{Cell}
use Rattle.record.specs.declared.Cell.TheVariants.{Wing, Hatch, Void}
use Rattle.cells.specs.Depth.{wing_unrounded}
use Rattle.cells.specs.Sizes.{cell_most}
use Rattle.grain.specs.Section.{fits}

-- a cell's void area with its depth rounded up to whole mm, as document 01 alone has it
abbrev pub area_in_whole : Cell → ℕ
area_in_whole (Wing w dist girder lip) = w * ceil_div (wing_unrounded dist girder) 500
area_in_whole (Hatch w opening lip) = w * (opening + 150)
area_in_whole (Void w depth lip) = w * depth

-- whether the last cell can hold what it has with these areas and an excess from the cells before
unfoldable pub fits_in_whole : ℕ → List Cell → Bool
fits_in_whole excess [] = true
fits_in_whole excess (c ∷ []) = leb (area_in_whole c + excess) (cell_most c)
fits_in_whole excess (c ∷ d ∷ cs) = fits_in_whole (excess + (area_in_whole c - cell_most c)) (d ∷ cs)

-- proved in proofs/Tenths.antt
abbrev pub FitsStill : Type 0
FitsStill = (cs : List Cell) → fits_in_whole 0 cs ≡ true → fits cs ≡ true
