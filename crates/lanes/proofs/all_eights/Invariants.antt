use mathlib.Core.Path.{◌≡◌}
use mathlib.Core.Bool.{true}
use Prim.Native.Nat.{ℕ, ◌+◌, ◌*◌}
use lib.ListN.{length, take, drop}
use Rattle.std.specs.List.{list_all}
use Rattle.lanes.proofs.all_eights.Given as goal

-- j eights in front pass, and these bytes are left
abbrev pub invariant-loop-eight : goal.invariant-loop-eight
invariant-loop-eight g l = (j : ℕ) × (l.left ≡ drop (8 * j) l.s) × (length l.s ≡ 8 * j + length l.left) × (list_all g.T.ByteTest.passes (take (8 * j) l.s) ≡ true)

abbrev pub decreases-loop-eight : goal.decreases-loop-eight
decreases-loop-eight g l = length l.left
