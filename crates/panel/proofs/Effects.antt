-- A request that is answered with 00 has its effect.
use mathlib.Core.Path.{◌≡◌, refl, sym}
use mathlib.Core.List.{List}
use Prim.Native.Nat.{ℕ}
use borrow.Author.Tests.{lt-leb}
use Rattle.record.specs.declared.Weighing.{Weighing}
use Rattle.record.specs.declared.Weighing.TheVariants.{Weight, Weighed, Unweigh}
use Rattle.record.specs.Held.{held}
use Rattle.forms.specs.declared.Request.{Request}
use Rattle.forms.specs.declared.Request.TheVariants.{ShipLine, ColumnLine, LoadLine, HoldLine, DropLine, JudgeLine, ClearLine, ShowLine, TotalLine, WeighingLine}
use Rattle.text.specs.Token.{Token}
use Rattle.condition.specs.declared.Condition.{Condition}
use Rattle.std.specs.Prelude.{Ok, Err}
use Rattle.judging.specs.Judge.{Judged, judged_of}
use Rattle.storing.proofs.Taking.{taken_is}
use Rattle.operations.specs.Operations.{weighing_operation}
use Rattle.operations.proofs.Effects.{ship_effect, load_effect, column_passed, column_effect, hold_passed, hold_effect, drop_passed, drop_effect, weight_passed, weight_effect, weighed_effect, unweigh_taken}
use Rattle.operations.proofs.Taking.{answer_moment}
use Rattle.panel.specs.Step.{verdict_given, outcome_of}
use Rattle.panel.specs.Handed.{moment_found}
use Rattle.effects.specs.Effect.{weighing_effect, effect_of}

module _ (c : Condition) where
  -- judge changes nothing
  pub judge_same : (j : Judged) → (verdict_given c j).after ≡ c
  judge_same (Err r) = refl
  judge_same (Ok v) = refl

  weighing_by : (w : Weighing) → (weighing_operation c w).code ≡ 0 → weighing_effect c w ≡ (weighing_operation c w).after
  weighing_by (Weight i) e = rw (weight_passed c i e).1 (weight_effect c i e)
  weighing_by (Weighed fs) e = weighed_effect c fs e
  weighing_by Unweigh e = rw (unweigh_taken c)

  module _ (ts : List Token) (n : ℕ) where
    pub effect_is : (r : Request) → (outcome_of c ts n r).code ≡ 0 → effect_of c r (moment_found r) ≡ (outcome_of c ts n r).after
    unfolding outcome_of effect_of
    effect_is (ShipLine s) e = ship_effect c s e
    effect_is (ColumnLine k) e =
        rw (lt-leb 20 _ (taken_is (held c.columns) k (column_passed c k e)).below) (column_effect c k e)
    effect_is (LoadLine l) e = load_effect c l e
    effect_is (HoldLine m h) e = let p = hold_passed c m h e in rw (p.place, answer_moment m h p) (hold_effect c m h e)
    effect_is (DropLine m) e = rw (drop_passed c m e).0 (drop_effect c m e)
    effect_is JudgeLine e = sym (judge_same (judged_of c))
    effect_is ClearLine e = refl
    effect_is ShowLine e = refl
    effect_is TotalLine e = refl
    effect_is (WeighingLine w) e = weighing_by w e
