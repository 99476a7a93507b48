-- Document 01, Void depth, with the tenths of document 02, P1.
use Rattle.std.specs.Prelude.{cond, List, [], ◌∷◌, ℕ, ◌+◌, ◌*◌, ◌-◌, ◌/◌, max, leb, ltb, get_or}
use Rattle.whole.specs.Divide.{ceil_div}
use Rattle.whole.specs.Line.{on_line}
use Rattle.record.specs.declared.Cell.{Cell}
use Rattle.record.specs.declared.Cell.TheVariants.{Wing, Hatch, Void}
use Rattle.record.specs.Held.{cell_width}

-- Table B 1-1: the distance in mm, every 500 mm from 500 to 8,000, and the standard depth in mm
abbrev pub distances : List ℕ
distances =
    500 ∷ 1000 ∷ 1500 ∷ 2000 ∷ 2500 ∷ 3000 ∷ 3500 ∷ 4000 ∷ 4500 ∷ 5000 ∷ 5500 ∷ 6000 ∷ 6500 ∷ 7000 ∷ 7500 ∷ 8000 ∷ []

abbrev pub depths : List ℕ
depths = 570 ∷ 530 ∷ 500 ∷ 480 ∷ 450 ∷ 440 ∷ 430 ∷ 430 ∷ 430 ∷ 430 ∷ 450 ∷ 470 ∷ 490 ∷ 520 ∷ 550 ∷ 590 ∷ []

-- Depths are said in 500ths of a mm: then the points of a straight line between two entries are whole numbers.

-- 500 times the depth at x on the line from entry i to entry i + 1
abbrev pub between_entries : (i x : ℕ) → ℕ
between_entries i x = on_line 500 (x - get_or distances i 0) (get_or depths i 0) (get_or depths (i + 1) 0)

-- 500 times the standard depth at the distance x: below 0.5 m the first entry; above 8.0 m 80 mm more for each metre, which
-- is 40/500 mm for each mm; between, on the line from entry x/500 − 1 to the next
unfoldable pub standard_depth : ℕ → ℕ
standard_depth x =
    cond (ltb x 500) (500 * 570)
    (cond (leb 8000 x) (500 * 590 + 40 * (x - 8000)) (between_entries (x / 500 - 1) x))

-- 500 times a wing's depth in mm, not rounded: the standard depth plus 0.75 × (GIRDER − 600), which is 375/500 for each mm, and at
-- least 100. (Where the sum is below zero the least depth counts, so that nothing is lost by the cut at zero.)
abbrev pub wing_unrounded : (dist girder : ℕ) → ℕ
wing_unrounded dist girder = max (500 * 100) (standard_depth dist + 375 * girder - 375 * 600)

-- a wing's depth in tenths of a mm, 50/500 each: that, rounded up once
unfoldable pub wing_depth : (dist girder : ℕ) → ℕ
wing_depth dist girder = ceil_div (wing_unrounded dist girder) 50

-- a cell's depth in tenths of a mm; a hatch's and a void cell's are whole mm
unfoldable pub cell_depth : Cell → ℕ
cell_depth (Wing w dist girder lip) = wing_depth dist girder
cell_depth (Hatch w opening lip) = 10 * (opening + 150)
cell_depth (Void w depth lip) = 10 * depth

-- a cell's void area, in whole mm²: width × depth, rounded up once. All that a section takes from the depth. (What the two steps
-- cost: `AreaByDepth`, Figures.antt.)
unfoldable pub cell_area : Cell → ℕ
cell_area c = ceil_div (cell_width c * cell_depth c) 10
