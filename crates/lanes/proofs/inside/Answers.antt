-- `inside`: which lanes hold a byte from `low` to `high`.
use lib.Dec.{leb}
use Rattle.whole.specs.Lists.{within}
use Rattle.lanes.proofs.Flags.{both_flags}
use Rattle.lanes.proofs.inside.Goals as goal

pub returns : goal.returns
unfolding within
returns c = rw (c.at_least.ensures, c.at_most.ensures) (both_flags (λ b. leb c.args.low b) (λ b. leb b c.args.high) c.args.v)
