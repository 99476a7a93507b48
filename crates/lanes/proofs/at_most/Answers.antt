-- `at_most`: which lanes hold `high` or less.
use Rattle.lanes.proofs.Flags.{high_flags}
use Rattle.lanes.proofs.at_most.Goals as goal

pub returns : goal.returns
returns c = high_flags c.args.high c.args.v c.fits-v.0
