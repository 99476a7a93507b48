-- `last_sizes`: the last numbers of a form, and its closing bracket.
use Rattle.std.proofs.Common.{◌≡◌, ◌-◌, length, take}
use Rattle.text.specs.Token.{tokens}
use Rattle.text.specs.Front.{TailOf}
use Rattle.items.proofs.Walks.{ahead, sizes}
use Rattle.items.proofs.last_sizes.Given as goal

abbrev pub invariant-loop-value : goal.invariant-loop-value
invariant-loop-value g l =
    record {
      long : length l.value-items ≡ g.row.N;
      read : sizes g.row.N (tokens l.fn.s) ≡ ahead (take l.value-index l.value-items) (sizes (g.row.N - l.value-index) (tokens l.rest));
      tail : TailOf l.rest l.fn.s;
    }
