-- `digits_of`: the number that digits say, a zero in front or not.
use Rattle.std.proofs.Common.{◌≡◌, ◌≤◌, drop}
use Rattle.text.specs.Front.{digits_from}
use Rattle.text.proofs.digits_of.Given as goal

abbrev pub invariant-loop-b : goal.invariant-loop-b
invariant-loop-b l = (l.v ≤ 999999999) × (digits_from l.v (drop l.b-index l.run) ≡ digits_from 0 l.run)
