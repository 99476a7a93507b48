-- How many cells a part has, and what is read past the end of an array.
use mathlib.Core.Path.{◌≡◌}
use mathlib.Core.List.{[]}
use Prim.Native.Nat.{◌≤◌}
use lib.ListN.{length}
use lib.Seq.{length-take-le}
use Rattle.record.specs.declared.Cell.{Cell}
use Rattle.record.specs.declared.Cell.TheVariants.{Wing}
use Rattle.record.specs.declared.Part.{Part}
use Rattle.record.specs.declared.Mode.TheVariants.{Trimmed}
use Rattle.record.specs.declared.Hold.{Hold}
use Rattle.record.specs.declared.Column.{Column}
use Rattle.record.specs.Filler.{no_slack}
use Rattle.record.specs.Held.{cells_of}

-- what is read past the end of an array: zeros, the first variant, empty lists
abbrev pub past_cell : Cell
past_cell = Wing 0 0 0 0

abbrev pub past_part : Part
past_part = record { length = 0; slack = no_slack; count = 0; cells = [] }

abbrev pub past_hold : Hold
past_hold = record { head = record { mode = Trimmed; factor = 0; count = 0 }; parts = [] }

abbrev pub past_column : Column
past_column = record { d = 0; km = 0; kn = [] }

module _ (p : Part) (fits : p.count ≤ length p.cells) where
  pub cells_length : length (cells_of p) ≡ p.count
  cells_length = length-take-le p.count p.cells fits
