-- `first_line`: the line that has begun in an earlier block, up to this block's first byte 10 from `at` on.
use mathlib.Core.Path.{refl}
use native.Mathlib.Omega.{arith}
use Rattle.lines.proofs.Pieces.{first_none, first_on, first_taken}
use Rattle.lines.proofs.first_line.Goals as goal

pub returns-then-f-eq0 : goal.returns-then-f-eq0
returns-then-f-eq0 c =
    let a = c.args in
    first_none a.f.now a.line.now a.out.now a.block.now a.at c.if-f-eq0.true (omega (arith, c.requires.1.waits)) (omega (arith, c.requires.0))

pub returns-then-block-e : goal.returns-then-block-e
returns-then-block-e c =
    let e = c.line_end-e in
    let if1 = c.if-f-eq0 in
    let a = c.args in
    let k = c.keep-f in
    first_on a.f.now _ a.line.now a.out.now a.block.now _ a.at e.result e.ensures.value c.requires.0 e.ensures.upper_bound refl refl refl k.ensures.upper_bound
    (omega (arith, c.requires.1.waits)) (omega (arith, if1.false)) k.ensures.line_after c.if-block-e.true

pub returns : goal.returns
returns c =
    let if2 = c.if-block-e in
    let k = c.keep-f in
    let e = c.line_end-e in
    let if1 = c.if-f-eq0 in
    let a = c.args in
    let t = c.take_begun in
    rw c.behind.ensures.value
    (first_taken a.f.now _ a.line.now a.out.now a.block.now k.new.line a.at e.result e.ensures.value c.requires.0 e.ensures.upper_bound refl refl refl k.ensures.upper_bound
    (omega (arith, c.requires.1.waits)) (omega (arith, if1.false)) k.ensures.line_after _ _ _ t.ensures (omega (arith, if2.false)))
