-- `start`: nothing read, nothing taken.
use mathlib.Core.Path.{refl}
use Rattle.lines.proofs.Blocks.{stands_start}
use Rattle.service.proofs.start.Goals as goal

pub returns-clause-stands : goal.returns-clause-stands
returns-clause-stands c = stands_start c.args.left _ c.empty_condition.ensures refl
