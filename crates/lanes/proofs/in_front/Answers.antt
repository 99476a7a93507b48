-- `in_front`: how many lanes in front are flagged.
use Rattle.lanes.proofs.Flags.{flags_in_front}
use Rattle.lanes.proofs.in_front.Goals as goal

pub returns-clause-counted : goal.returns-clause-counted
returns-clause-counted c v f long e = flags_in_front f v long c.args.m _ e c.trailing_ones.ensures
