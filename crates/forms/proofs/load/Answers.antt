-- `load`: `D KG FS)`.
use Rattle.forms.specs.Carried.{carried_request}
use mathlib.Core.List.{map}
use mathlib.Core.Path.{refl}
use Rattle.text.specs.Token.{tokens}
use Rattle.items.specs.Grammar.{last_numbers?, nth}
use Rattle.items.specs.Carried.{carried}
use Rattle.items.proofs.Walks.{built, nth_kept}
use Rattle.forms.specs.declared.Request.TheVariants.{LoadLine}
use Rattle.forms.proofs.load.Goals as goal

pub returns-clause-read : goal.returns-clause-read
unfolding carried_request
returns-clause-read c =
    let r = c.in_ok-d in
    let v = c.in_ok-kg.field-0-0 in
    rw r.ensures.read (built carried_request (λ x. LoadLine (record { d = r.d; kg = nth x 0; fs = nth x 1 })) (map carried) (last_numbers? 2 (tokens r.rest.now)) v (tokens c.in_ok-kg.rest.now) _ c.in_ok-kg.ensures.read
    (λ x e. rw (nth_kept v x 0 e, nth_kept v x 1 e) refl))
