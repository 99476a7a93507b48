-- Document 01, Shifted voids of a trimmed section: the most that a cell can hold. And a cell's sizes, as the program carries them.
use Rattle.std.specs.Prelude.{cond, ℕ, ◌*◌, ◌-◌, ◌/◌, leb}
use Rattle.record.specs.declared.Cell.{Cell}
use Rattle.record.specs.Held.{cell_width, cell_lip}
use Rattle.cells.specs.declared.CellSizes.{CellSizes}
use Rattle.cells.specs.Depth.{cell_area}

-- the slope of 15 degrees, in hundred-thousandths
abbrev pub slope15 : ℕ
slope15 = 26795

-- The most that a cell of width w can hold against a lip g, rounded down: g²/(2 × slope) where g ≤ slope × w, else
-- w × g − slope × w²/2.
unfoldable pub most_held : (w g : ℕ) → ℕ
most_held w g =
    cond (leb (100000 * g) (slope15 * w)) (100000 * (g * g) / (2 * slope15)) ((200000 * (w * g) - slope15 * (w * w)) / 200000)

abbrev pub cell_most : Cell → ℕ
cell_most c = most_held (cell_width c) (cell_lip c)

-- a cell's width, void area, and the most that it can hold
abbrev pub sizes_of : Cell → CellSizes
sizes_of c = record { width = cell_width c; area = cell_area c; most = cell_most c }
