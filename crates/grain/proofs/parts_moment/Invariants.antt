-- `parts_moment`: the parts of a hold, added up.
use mathlib.Core.Path.{◌≡◌}
use Prim.Native.Nat.{◌+◌, ◌*◌, ◌^◌, ◌≤◌}
use lib.ListN.{drop}
use Rattle.whole.specs.Lists.{all, sum_of}
use Rattle.grain.specs.Sum.{part_fits, part_moment}
use Rattle.grain.proofs.parts_moment.Given as goal

abbrev pub invariant-loop-part : goal.invariant-loop-part
invariant-loop-part l =
    (all (part_fits l.mode) (drop l.part-index l.parts) ≡ all (part_fits l.mode) l.parts)
    × (l.sum + sum_of (part_moment l.mode) (drop l.part-index l.parts) ≡ sum_of (part_moment l.mode) l.parts)
    × (l.sum ≤ l.part-index * 2 ^ 30)
