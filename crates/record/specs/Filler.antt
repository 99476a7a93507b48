-- Unused places of a record's arrays hold one fixed filler, so that equal records are equal values.
use Rattle.std.specs.Prelude.{List, ◌++◌, ℕ, ◌-◌, length, replicate}
use Rattle.record.specs.declared.Mode.TheVariants.{Trimmed}
use Rattle.record.specs.declared.Cell.TheVariants.{Void}
use Rattle.record.specs.declared.Cell.{Cell}
use Rattle.record.specs.declared.Slack.{Slack}
use Rattle.record.specs.declared.Slack.TheVariants.{Undivided}
use Rattle.record.specs.declared.Part.{Part}
use Rattle.record.specs.declared.Hold.{Hold}
use Rattle.record.specs.declared.Column.{Column}
use Rattle.record.specs.declared.Columns.{Columns}
use Rattle.record.specs.declared.WeightItem.{WeightItem}
use Rattle.record.specs.declared.ItemSums.{ItemSums}

abbrev pub no_cell : Cell
no_cell = Void 0 0 0

-- the sizes of a part of cells
abbrev pub no_slack : Slack
no_slack = Undivided 0 0 0

abbrev pub no_part : Part
no_part = record { length = 0; slack = no_slack; count = 0; cells = replicate 8 no_cell }

-- a place where no hold is held
abbrev pub no_hold : Hold
no_hold = record { head = record { mode = Trimmed; factor = 0; count = 0 }; parts = replicate 6 no_part }

-- an unused place
abbrev pub no_column : Column
no_column = record { d = 0; km = 0; kn = replicate 10 0 }

-- no columns
abbrev pub no_columns : Columns
no_columns = record { count = 0; places = replicate 20 no_column }

-- no item
abbrev pub no_item : WeightItem
no_item = record { tonnes = 0; height = 0 }

-- the sums of no items
abbrev pub no_sums : ItemSums
no_sums = record { tonnes = 0; products = 0 }

-- a list in the first of n places
unfoldable pub padded : {A : Type 0} → ℕ → A → List A → List A
padded n filler xs = xs ++ replicate (n - length xs) filler
