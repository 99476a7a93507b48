-- `same`: which lanes hold this byte.
use Rattle.lanes.proofs.Flags.{same_flags}
use Rattle.lanes.proofs.same.Goals as goal

pub returns : goal.returns
returns c = same_flags c.args.byte c.args.v c.fits-v.0
