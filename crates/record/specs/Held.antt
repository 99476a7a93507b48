-- What a record holds: the used places of its arrays, and what rules and cells of every kind have.
use Rattle.std.specs.Prelude.{List, ℕ, ◌-◌, length, get_or, take}
use Rattle.record.specs.declared.Rule.{Rule}
use Rattle.record.specs.declared.Rule.TheVariants.{New, Old}
use Rattle.record.specs.declared.Cell.{Cell}
use Rattle.record.specs.declared.Cell.TheVariants.{Wing, Hatch, Void}
use Rattle.record.specs.declared.Part.{Part}
use Rattle.record.specs.declared.Hold.{Hold}
use Rattle.record.specs.declared.Column.{Column}
use Rattle.record.specs.declared.Columns.{Columns}
use Rattle.record.specs.Filler.{no_column}

-- EDGE, the angle of deck-edge immersion: stored under either rule
abbrev pub edge : Rule → ℕ
edge (New e) = e
edge (Old e) = e

-- WIDTH, of every kind of cell
abbrev pub cell_width : Cell → ℕ
cell_width (Wing w d g l) = w
cell_width (Hatch w o l) = w
cell_width (Void w d l) = w

-- LIP, of every kind of cell
abbrev pub cell_lip : Cell → ℕ
cell_lip (Wing w d g l) = l
cell_lip (Hatch w o l) = l
cell_lip (Void w d l) = l

-- the cells of a part, from the low side to the high side
abbrev pub cells_of : Part → List Cell
cells_of p = take p.count p.cells

-- the parts of a hold
abbrev pub parts_of : Hold → List Part
parts_of h = take h.head.count h.parts

-- the columns held, in their order
abbrev pub held : Columns → List Column
held cs = take cs.count cs.places

-- D of the last of them
abbrev pub last_d : List Column → ℕ
last_d ks = (get_or ks (length ks - 1) no_column).d
