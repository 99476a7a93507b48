-- `stretch_area`: the stretch behind the k-th angle, up to UPPER.
use native.Mathlib.Omega.{arith}
use borrow.Author.Rules.{rules}
use Rattle.area.proofs.Stretches.{stretch_whole}
use Rattle.area.proofs.stretch_area.Goals as goal

pub returns-then-to-upper-clause-value : goal.returns-then-to-upper-clause-value
returns-then-to-upper-clause-value c =
    let e = stretch_whole c.args.ds.values c.args.upper c.args.k c.angle_at-from.ensures c.angle_at-to.ensures (omega arith) in
    let f = c.part_area.ensures.value in
    search (rules, e)
