-- `section_moment`: the row of the section's shape.
use native.Mathlib.Omega.{arith}
use Rattle.slack.proofs.Neither.{sizes}
use Rattle.slack.proofs.Rows.{crosses_by}
use Rattle.slack.proofs.section_moment.Goals as goal

pub neither_moment-requires : goal.neither_moment-requires
neither_moment-requires c =
    let a = c.args in
    let x = crosses_by a.breadth a.void a.grain c.min-m.result c.min-m.ensures c.if-b-m-2.false in
    (x, sizes a.breadth a.void a.grain (omega arith) x)
