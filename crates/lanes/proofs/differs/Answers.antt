-- `differs`: which lanes hold another byte.
use Rattle.lanes.proofs.Flags.{differ_flags}
use Rattle.lanes.proofs.differs.Goals as goal

pub returns : goal.returns
returns c = differ_flags c.args.byte c.args.v c.fits-v.0
