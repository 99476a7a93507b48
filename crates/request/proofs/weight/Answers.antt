-- `weight`: `T H)`.
use mathlib.Core.List.{map}
use mathlib.Core.Path.{refl}
use Rattle.record.specs.declared.Weighing.TheVariants.{Weight}
use Rattle.text.specs.Token.{tokens}
use Rattle.items.specs.Grammar.{nth, last_numbers?}
use Rattle.items.specs.Carried.{carried}
use Rattle.items.proofs.Walks.{built, nth_kept}
use Rattle.forms.specs.declared.Request.TheVariants.{WeighingLine}
use Rattle.forms.specs.Carried.{carried_request}
use Rattle.request.proofs.weight.Goals as goal

pub returns-clause-read : goal.returns-clause-read
unfolding carried_request
returns-clause-read c =
    let r = c.in_ok-tonnes in
    let v = c.in_ok-height.field-0-0 in
    rw r.ensures.read (built carried_request (λ x. WeighingLine (Weight (record { tonnes = r.tonnes; height = nth x 0 }))) (map carried) (last_numbers? 1 (tokens r.rest.now)) v (tokens c.in_ok-height.rest.now) _ c.in_ok-height.ensures.read
    (λ x e. rw (nth_kept v x 0 e) refl))
