-- `parts`: `SF PART ..)`.
use Rattle.std.proofs.Common.{rules}
use Rattle.text.specs.Token.{tokens}
use Rattle.text.proofs.Tails.{tail_tail}
use Rattle.items.proofs.Walks.{kept}
use Rattle.parts.specs.Shape.{part?}
use Rattle.parts.specs.Carried.{carried_part}
use Rattle.forms.proofs.Records.{parts_none, parts_read}
use Rattle.forms.proofs.parts.Goals as goal

pub returns-in_err-count-clause-read : goal.returns-in_err-count-clause-read
returns-in_err-count-clause-read c =
    let args = c.args in
    let f = c.in_ok-factor in
    let e = rw c.no_hold-hold.ensures at c.in_err-count.ensures.filled (kept carried_part (part? args.mode)) (λ s r p. search rules) in
    rw c.from_residual-in_err-count.ensures (parts_none args.n args.mode (tokens args.s.now) f.factor (tokens f.rest.now) f.ensures.read e)

pub returns-clause-read : goal.returns-clause-read
returns-clause-read c =
    let args = c.args in
    let f = c.in_ok-factor in
    let r = c.in_ok-count in
    let e = rw c.no_hold-hold.ensures at r.ensures.filled (kept carried_part (part? args.mode)) (λ s r p. search rules) in
    let h = rw c.no_hold-hold.ensures at r.ensures.count in
    let l = rw c.no_hold-hold.ensures at c.several.auto.places in
    parts_read args.n args.mode (tokens args.s.now) f.factor (tokens f.rest.now) f.ensures.read r.count c.several.new.places r.rest h l e

pub returns-clause-tail : goal.returns-clause-tail
returns-clause-tail c =
    tail_tail c.args.s.now c.in_ok-factor.rest.now c.in_ok-count.rest.now c.in_ok-factor.ensures.tail (c.in_ok-count.ensures.tail (λ s r p. search rules))
