-- `show`: the form inside a show line, in the one spelling, and a newline, over the front of a buffer.
use mathlib.Core.Path.{◌∙◌}
use native.Mathlib.Omega.{arith}
use Rattle.text.specs.Token.{tokens}
use Rattle.spelling.specs.Spelling.{spell}
use Rattle.showing.specs.Show.{form_inside}
use Rattle.showing.proofs.Writing.{has_word, part_spelled, part_long, part_fits_lem, part_some, newline_last}
use Rattle.showing.proofs.show.Goals as goal

pub unreachable-requires : goal.unreachable-requires
unreachable-requires c = has_word c.args.line.now c.requires.is_show (rw c.in_default.is at c.head.ensures.read)

pub spell-len-requires : goal.spell-len-requires
spell-len-requires c =
    let pre = c.requires in
    let n = rw c.in-Some.is at c.head.ensures.read in
    let line = c.args.line.now in
    omega (arith, part_fits_lem line pre.is_show _ c.in-Some.rest.now n pre.room.0, pre.room.1)

pub overflow_sub-out : goal.overflow_sub-out
overflow_sub-out c =
    let pre = c.requires in
    let n = rw c.in-Some.is at c.head.ensures.read in
    let line = c.args.line.now in
    omega (arith, part_some line pre.is_show _ c.in-Some.rest.now n, c.spell-len.ensures.value)

pub bounds-out-len : goal.bounds-out-len
bounds-out-len c =
    let pre = c.requires in
    let n = rw c.in-Some.is at c.head.ensures.read in
    let line = c.args.line.now in
    omega (arith, part_some line pre.is_show _ c.in-Some.rest.now n, part_fits_lem line pre.is_show _ c.in-Some.rest.now n pre.room.0, pre.room.1, c.spell-len.ensures.value, c.spell-len.auto.out)

pub returns : goal.returns
returns c =
    let s = c.spell-len in
    let pre = c.requires in
    let n = rw c.in-Some.is at c.head.ensures.read in
    let line = c.args.line.now in
    let out = c.args.out.now in
    let e = part_spelled line pre.is_show _ c.in-Some.rest.now n in
    record { value = s.ensures.value ∙ part_long line pre.is_show _ c.in-Some.rest.now n; out_after = rw (s.ensures.out_after, s.ensures.value, e) (newline_last (spell (form_inside (tokens line))) out) }
