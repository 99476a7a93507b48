-- Cells and parts as they are carried (items/specs/Carried.antt). Any cell within its limits is carried as it is (proofs/Kept.antt); a part only
-- where it was read, since its limits do not test what the grammar leaves unused (proofs/Tidy.antt).
use Rattle.std.specs.Prelude.{map}
use Rattle.record.specs.declared.Cell.{Cell}
use Rattle.record.specs.declared.Cell.TheVariants.{Wing, Hatch, Void}
use Rattle.record.specs.declared.Slack.{Slack}
use Rattle.record.specs.declared.Slack.TheVariants.{Undivided, Split}
use Rattle.record.specs.declared.Part.{Part}
use Rattle.items.specs.Carried.{carried}

abbrev pub carried_cell : Cell → Cell
carried_cell (Wing w d g l) = Wing (carried w) (carried d) (carried g) (carried l)
carried_cell (Hatch w o l) = Hatch (carried w) (carried o) (carried l)
carried_cell (Void w d l) = Void (carried w) (carried d) (carried l)

abbrev pub carried_slack : Slack → Slack
carried_slack (Undivided b v g) = Undivided (carried b) (carried v) (carried g)
carried_slack (Split run l r) = Split (carried run) (carried l) (carried r)

abbrev pub carried_part : Part → Part
carried_part p =
    record { length = carried p.length; slack = carried_slack p.slack; count = p.count; cells = map carried_cell p.cells }
