-- `ship`: `RULE EDGE FLOOD)`.
use Rattle.forms.specs.Carried.{carried_request}
use mathlib.Core.List.{map}
use mathlib.Core.Path.{◌≡◌, refl, sym, ◌∙◌}
use Rattle.std.specs.Prelude.{Some}
use Rattle.text.specs.Token.{tokens}
use Rattle.items.specs.Grammar.{last_numbers?, nth}
use Rattle.items.specs.Carried.{carried}
use Rattle.items.proofs.Walks.{built, nth_kept}
use Rattle.forms.proofs.Records.{rule_kept}
use Rattle.forms.specs.Shape.{rule_named, ship_request}
use Rattle.forms.proofs.ship.Goals as goal

pub returns-clause-read : goal.returns-clause-read
unfolding carried_request
returns-clause-read c =
    let r = c.in_ok-word in
    let w = c.in_ok-word-2.word in
    let v = c.in_ok-edge.field-0-0 in
    let n : rule_named r.word.now ≡ Some w = sym c.rule_named.ensures ∙ c.in_ok-word-2.was in
    rw (r.ensures.read, n) (built carried_request (ship_request w) (map carried) (last_numbers? 2 (tokens r.rest.now)) v (tokens c.in_ok-edge.rest.now) _ c.in_ok-edge.ensures.read
    (λ x e. rw (c.rule_of.ensures, rule_kept w (nth x 0), nth_kept v x 0 e, nth_kept v x 1 e) refl))
