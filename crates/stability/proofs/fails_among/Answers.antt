-- `fails_among`: whether DIFF is below zero at one of the ten angles above the heel limit and not above UPPER.
use mathlib.Core.Path.{refl, ◌∙◌}
use Rattle.std.proofs.Common.{rules}
use Rattle.std.proofs.lemmas.Iterator.{YieldsList-from_range}
use Rattle.std.proofs.lemmas.Iterator.Search.{any_from_yields_List}
use Rattle.stability.specs.Verdict.{fails_at}
use Rattle.stability.proofs.Peaks.{among_any}
use Rattle.stability.proofs.fails_among.Goals as goal

pub returns : goal.returns
returns c =
    any_from_yields_List (fails_at c.args.heel c.args.upper c.args.ds.values) _ _ _ c.any.ensures.ran
    (YieldsList-from_range 0 10 10 refl refl) (λ k b q h. search rules)
    ∙ among_any c.args.heel c.args.upper c.args.ds.values
