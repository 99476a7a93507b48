-- `first_piece`: the first bracket or run of a text, and what is left behind it.
use mathlib.Core.Path.{◌≡◌}
use Prim.Native.Nat.{◌≤◌}
use lib.ListN.{length, drop}
use Rattle.text.specs.Token.{tokens}
use Rattle.text.specs.Front.{TailOf, gap}
use Rattle.text.proofs.first_piece.Given as goal

-- no token stands in front of what is left
abbrev pub invariant-loop-b : goal.invariant-loop-b
invariant-loop-b l = (tokens l.s ≡ tokens l.left) × (length l.left ≤ length l.s) × TailOf l.left l.s × (drop (gap l.s) l.s ≡ drop (gap l.left) l.left)

abbrev pub decreases-loop-b : goal.decreases-loop-b
decreases-loop-b l = length l.left
