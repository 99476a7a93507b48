-- `named`: what a word stands for, by a table of words.
use mathlib.Core.Path.{sym, ◌∙◌}
use mathlib.Core.Bool.{true, false}
use Rattle.items.proofs.Words.{found_next, found_end}
use Rattle.items.proofs.named.Goals as goal

pub returns-then-eq : goal.returns-then-eq
returns-then-eq g c =
    let loop = c.loop-name in
    sym (loop.invariant ∙ found_next c.args.table.now c.args.word.now loop.name-index c.loop-name-item.result true c.loop-name-test.true c.loop-name-item.is c.if-eq.ensures)

pub loop-name-preserved : goal.loop-name-preserved
loop-name-preserved g c =
    let loop = c.loop-name in
    loop.invariant ∙ found_next c.args.table.now c.args.word.now loop.name-index c.loop-name-item.result false c.loop-name-test.true c.loop-name-item.is c.if-eq.ensures

pub returns : goal.returns
returns g c =
    let loop = c.loop-name in
    sym (loop.invariant ∙ found_end c.args.table.now c.args.word.now loop.name-index c.loop-name-test.false)
