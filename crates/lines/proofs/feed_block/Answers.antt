-- `feed_block`: takes the lines of a block from `at` on, the one that has begun first, and keeps what stands behind the last; where the ..
use mathlib.Core.Path.{◌∙◌}
use native.Mathlib.Omega.{arith}
use Rattle.lines.proofs.Pieces.{block_full, block_waits, block_kept}
use Rattle.lines.proofs.feed_block.Goals as goal

pub returns-then-f-eq0 : goal.returns-then-f-eq0
returns-then-f-eq0 c =
    let pre = c.requires in
    block_full c.first_line-first.ensures c.take_lines-rest.ensures pre.0 c.if-f-eq0.true

pub returns-then-f-gt-FILLED : goal.returns-then-f-gt-FILLED
returns-then-f-gt-FILLED c =
    let o = c.first_line-first.auto.out ∙ c.requires.1.output in
    block_waits c.first_line-first.ensures c.take_lines-rest.ensures c.requires.0 c.requires.1.waits (c.take_lines-rest.auto.out ∙ o) o c.if-f-gt-FILLED.true

pub returns : goal.returns
returns c =
    let if1 = c.if-f-eq0 in
    let pre = c.requires in
    let k = c.keep-f in
    block_kept c.first_line-first.ensures c.take_lines-rest.ensures pre.0 k.result k.new.line (omega (arith, if1.false)) (omega (arith, c.if-f-gt-FILLED.false)) k.ensures.upper_bound k.ensures.line_after
