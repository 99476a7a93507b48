-- `peak_of`: the least place at which ds is greatest.
use native.Mathlib.Omega.{arith}
use Rattle.stability.proofs.Peaks.{peak_found}
use Rattle.stability.proofs.peak_of.Goals as goal

pub returns : goal.returns
returns c = peak_found c.args.ds.values c.loop-i.i c.loop-i.best c.loop-i.invariant.1 (omega arith) (omega arith)
