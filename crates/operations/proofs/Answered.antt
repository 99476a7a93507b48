-- The code of what an operation answers is that of the operation.
use mathlib.Core.Path.{◌≡◌, refl}
use mathlib.Core.Bool.{Bool, true, false, cond}
use Prim.Native.Nat.{ℕ}
use Rattle.record.specs.declared.WeightItem.{WeightItem}
use Rattle.record.specs.declared.ItemSums.{ItemSums}
use Rattle.record.specs.declared.Weighing.TheVariants.{Weight, Weighed}
use Rattle.limits.specs.Limits.{rise, item_limits}
use Rattle.weights.specs.Weights.{has_room, makes_load}
use Rattle.condition.specs.declared.Condition.{Condition}
use Rattle.operations.specs.declared.Refusal.{Refusal}
use Rattle.operations.specs.declared.Refusal.TheVariants.{TooHeavy, TooLight}
use Rattle.operations.specs.Answers.{refusal_code, answer_code, tested, tested_within}
use Rattle.operations.specs.Operations.{taken, refused_with, weighing_operation}

module _ (c after : Condition) (why : Refusal) where
  pub one_answered : (x : Bool) → answer_code (tested why x) ≡ (cond x (taken after) (refused_with (refusal_code why) c)).code
  one_answered true = refl
  one_answered false = refl

  both_answered : (x y : Bool) → answer_code (tested_within x y why) ≡ (cond x (cond y (taken after) (refused_with (refusal_code why) c)) (refused_with 20 c)).code
  both_answered true y = one_answered y
  both_answered false y = refl

-- a line of weights, as the tests find it where the sums are these
module _ (c : Condition) (s : ItemSums) (e : c.sums ≡ s) (x y : Bool) where
  pub weight_answered : (i : WeightItem) → x ≡ item_limits i → y ≡ has_room s i → answer_code (tested_within x y TooHeavy) ≡ (weighing_operation c (Weight i)).code
  unfolding weighing_operation
  weight_answered i p q = rw (p, q, ← e) (both_answered c _ TooHeavy (item_limits i) (has_room c.sums i))

  pub weighed_answered : (fs : ℕ) → x ≡ rise fs → y ≡ makes_load s → answer_code (tested_within x y TooLight) ≡ (weighing_operation c (Weighed fs)).code
  unfolding weighing_operation
  weighed_answered fs p q = rw (p, q, ← e) (both_answered c _ TooLight (rise fs) (makes_load c.sums))
