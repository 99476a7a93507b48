-- `weighed`: `FS)`.
use mathlib.Core.List.{map}
use mathlib.Core.Path.{refl}
use Rattle.record.specs.declared.Weighing.TheVariants.{Weighed}
use Rattle.text.specs.Token.{tokens}
use Rattle.items.specs.Grammar.{nth, last_numbers?}
use Rattle.items.specs.Carried.{carried}
use Rattle.items.proofs.Walks.{built, nth_kept}
use Rattle.forms.specs.declared.Request.TheVariants.{WeighingLine}
use Rattle.forms.specs.Carried.{carried_request}
use Rattle.request.proofs.weighed.Goals as goal

pub returns-clause-read : goal.returns-clause-read
unfolding carried_request
returns-clause-read c =
    let r = c.in_ok-fs in
    built carried_request (λ x. WeighingLine (Weighed (nth x 0))) (map carried) (last_numbers? 1 (tokens c.args.s.now)) r.field-0-0 (tokens r.rest.now) _ r.ensures.read
    (λ x e. rw (nth_kept r.field-0-0 x 0 e) refl)
