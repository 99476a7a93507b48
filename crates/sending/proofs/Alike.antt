-- Lines with the same tokens that are read alike are answered alike.
use mathlib.Core.Path.{◌≡◌, refl}
use mathlib.Core.List.{List}
use Prim.Native.Nat.{ℕ}
use Rattle.text.specs.Token.{tokens}
use Rattle.std.specs.Prelude.{Ok, Err}
use Rattle.line_codes.specs.Line.{Reading, reading_of}
use Rattle.line_codes.proofs.Alike.{reading_alike}
use Rattle.condition.specs.declared.Condition.{Condition}
use Rattle.panel.specs.Step.{outcome_after, step_of}
use Rattle.sending.specs.Laws.{SameTokensAnsweredAlike}

module _ (a b : List ℕ) (same : tokens a ≡ tokens b) (c : Condition) (lent : ℕ) where
  outcome_alike : (r : Reading) → outcome_after c a lent r ≡ outcome_after c b lent r
  outcome_alike (Ok u) = rw same
  outcome_alike (Err f) = refl

  pub step_alike : reading_of a ≡ reading_of b → step_of c a lent ≡ step_of c b lent
  unfolding step_of
  step_alike e = rw (e, outcome_alike (reading_of b))

pub same_tokens_answered_alike : SameTokensAnsweredAlike
same_tokens_answered_alike a b p q e c lent = step_alike a b e c lent (reading_alike a b p q e)
