-- `peak_of`: the least place at which ds is greatest.
use mathlib.Core.Path.{◌≡◌}
use lib.ListN.{length}
use Rattle.stability.specs.Verdict.{Peak}
use Rattle.stability.proofs.peak_of.Given as goal

abbrev pub invariant-loop-i : goal.invariant-loop-i
invariant-loop-i l = (length l.ds.values ≡ 10) × Peak l.ds.values l.i l.best
