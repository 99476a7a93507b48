use mathlib.Core.Path.{◌≡◌}
use Prim.Native.Nat.{◌+◌}
use lib.ListN.{length}
use Rattle.std.specs.List.{prefix_len}
use Rattle.lanes.proofs.front.Given as goal

-- what passed so far, and what is left
abbrev pub invariant-loop-eight : goal.invariant-loop-eight
invariant-loop-eight g l = (prefix_len g.T.ByteTest.passes l.s ≡ l.n + prefix_len g.T.ByteTest.passes l.left) × (length l.s ≡ l.n + length l.left)

abbrev pub decreases-loop-eight : goal.decreases-loop-eight
decreases-loop-eight g l = length l.left
