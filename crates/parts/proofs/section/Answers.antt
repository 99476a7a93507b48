-- `section`: `LENGTH CELL ..)`.
use Rattle.std.proofs.Common.{rules}
use Rattle.text.specs.Token.{tokens}
use Rattle.text.proofs.Tails.{tail_tail}
use Rattle.items.proofs.Walks.{kept}
use Rattle.parts.specs.Shape.{cell?}
use Rattle.parts.specs.Carried.{carried_cell}
use Rattle.parts.proofs.Records.{section_none, section_read}
use Rattle.parts.proofs.section.Goals as goal

pub returns-in_err-count-clause-read : goal.returns-in_err-count-clause-read
returns-in_err-count-clause-read c =
    let l = c.in_ok-length in
    let e = rw c.no_part-part.ensures at c.in_err-count.ensures.filled (kept carried_cell cell?) (λ s r p. search rules) in
    rw c.from_residual-in_err-count.ensures (section_none (tokens c.args.s.now) l.length (tokens l.rest.now) l.ensures.read e)

pub returns-clause-read : goal.returns-clause-read
returns-clause-read c =
    let l = c.in_ok-length in
    let r = c.in_ok-count in
    let e = rw c.no_part-part.ensures at r.ensures.filled (kept carried_cell cell?) (λ s r p. search rules) in
    let h = rw c.no_part-part.ensures at r.ensures.count in
    rw c.no_part-part.ensures (section_read (tokens c.args.s.now) l.length (tokens l.rest.now) l.ensures.read r.count c.several.new.places r.rest h (rw c.no_part-part.ensures at c.several.auto.places) e)

pub returns-clause-tail : goal.returns-clause-tail
returns-clause-tail c =
    tail_tail c.args.s.now c.in_ok-length.rest.now c.in_ok-count.rest.now c.in_ok-length.ensures.tail (c.in_ok-count.ensures.tail (λ s r p. search rules))
