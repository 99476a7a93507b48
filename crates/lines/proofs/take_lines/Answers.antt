-- `take_lines`: takes the lines of a block from `at` on: up to the last that byte 10 ends, while lines are left and there is room for a ..
use mathlib.Core.Path.{refl, ◌∙◌}
use native.Mathlib.Omega.{arith}
use Rattle.input.proofs.Cutting.{no_line}
use Rattle.lines.proofs.Pieces.{taking_first, taking_line, taking_ends}
use Rattle.lines.proofs.take_lines.Goals as goal

pub loop-f-init : goal.loop-f-init
loop-f-init c = (taking_first c.args.f.now c.args.block.now c.args.at c.args.out.now c.requires.0 c.requires.1 c.requires.2, c.requires.2)

pub returns-then-block-e : goal.returns-then-block-e
returns-then-block-e c =
    let n = no_line c.args.block.now c.loop-f.i c.line_end-e.result c.line_end-e.ensures.value c.if-block-e.true in
    taking_ends c.loop-f.invariant.0 (λ p h. n)

pub loop-f-preserved : goal.loop-f-preserved
loop-f-preserved c =
    let a = c.take_line-long in
    let e = c.line_end-e in
    let l = c.loop-f in
    (rw c.behind-i.ensures.value (taking_line l.invariant.0 e.result e.ensures.value (omega (arith, c.if-block-e.false)) (omega (arith, c.loop-f-test.true)) _ _ a.ensures.condition refl refl a.ensures.waits a.ensures.room (a.auto.out ∙ l.invariant.0.sized)), l.invariant.1)
