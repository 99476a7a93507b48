-- Demand 1: every line is answered with a printed code; a line that is turned down changes nothing; a clear starts anew.
use mathlib.Core.Path.{◌≡◌, refl, ap, ◌∙◌}
use mathlib.Core.List.{List, [], ◌∷◌, ◌++◌}
use Prim.Native.Nat.{ℕ}
use Rattle.whole.specs.Lists.{all, is_one_of}
use Rattle.whole.proofs.Lists.{among}
use Rattle.forms.specs.declared.Request.TheVariants.{ClearLine}
use Rattle.condition.specs.declared.Condition.{Condition}
use Rattle.condition.specs.Condition.{empty}
use Rattle.std.specs.Prelude.{Some}
use Rattle.panel.specs.Step.{Outcome, outcome_of, step_of, Sent, condition_after, outcomes}
use Rattle.panel.proofs.Codes.{every, right}
use Rattle.demands.specs.Codes.{request}
use Rattle.demands.specs.Demands.{printed, CodesArePrinted, RefusalsChangeNothing, ClearStartsAnew}
use Rattle.demands.proofs.Asked.{taken_as}

pub codes_are_printed_lem : CodesArePrinted
unfolding all is_one_of
codes_are_printed_lem c line lent = among every printed (step_of c line lent).code refl (right c line lent).listed

pub refusals_change_nothing_lem : RefusalsChangeNothing
refusals_change_nothing_lem c line lent = (right c line lent).unchanged

-- ---- a clear that is taken
cleared : (c : Condition) (line : List ℕ) (lent : ℕ) → request line ≡ Some ClearLine → (step_of c line lent).code ≡ 0 → (step_of c line lent).after ≡ empty
unfolding outcome_of
cleared c line lent k e = ap (λ (o : Outcome). o.after) (taken_as c line lent (Some ClearLine) k e)

-- lines after lines
outcomes_append : (c : Condition) (a b : List Sent) → outcomes c (a ++ b) ≡ outcomes c a ++ outcomes (condition_after c a) b
unfolding outcomes condition_after
outcomes_append c [] b = refl
outcomes_append c (l ∷ a) b = rw (outcomes_append (step_of c l.line l.lent).after a b)

pub clear_starts_anew_lem : ClearStartsAnew
unfolding outcomes
clear_starts_anew_lem c earlier line lent later k e =
    let z = cleared (condition_after c earlier) line lent k e in
    (z, outcomes_append c earlier (record { line = line; lent = lent } ∷ later) ∙ rw z)
