-- `at_least`: which lanes hold `low` or more.
use Rattle.lanes.proofs.Flags.{low_flags}
use Rattle.lanes.proofs.at_least.Goals as goal

pub returns : goal.returns
returns c = low_flags c.args.low c.args.v c.fits-v.0
