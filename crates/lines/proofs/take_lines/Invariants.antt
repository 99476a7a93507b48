-- `take_lines`: takes the lines of a block from `at` on: up to the last that byte 10 ends, while lines are left and there is room for a ..
use mathlib.Core.Path.{◌≡◌}
use lib.ListN.{length}
use Rattle.lines.proofs.Pieces.{TakingAt}
use Rattle.lines.proofs.take_lines.Given as goal

abbrev pub invariant-loop-f : goal.invariant-loop-f
invariant-loop-f l = TakingAt l.initial.f l.block l.at l.initial.out l.f l.i l.out × (length l.initial.out ≡ 65536)

abbrev pub decreases-loop-f : goal.decreases-loop-f
decreases-loop-f l = l.f.left
