-- A section that is within its limits, said of its cells.
use Rattle.std.specs.Prelude.{◌≡◌, true, List, ◌≤◌, ◌<◌, length}
use Rattle.whole.specs.Lists.{all, sum_of}
use Rattle.record.specs.declared.Cell.{Cell}
use Rattle.record.specs.Held.{cell_width}
use Rattle.limits.specs.Limits.{cell_limits}

-- at least one cell, each within its limits, the widths together at most 40,000
pub record SectionWithin (cs : List Cell) : Type 0 where
  pub some : 0 < length cs
  pub cells : all cell_limits cs ≡ true
  pub widths : sum_of cell_width cs ≤ 40000
