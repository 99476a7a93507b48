-- Laws of the answers of a hold, as the operations use them.
use mathlib.Core.Path.{◌≡◌, refl, sym, ◌∙◌, ap}
use mathlib.Core.Bool.{Bool, true, false, cond}
use mathlib.Core.List.{List}
use Prim.Native.Nat.{ℕ, ◌-◌, ◌≤◌}
use lib.ListN.{length, get_or}
use Rattle.record.specs.declared.Hold.{Hold}
use Rattle.record.specs.Filler.{no_hold}
use Rattle.record.proofs.Taken.{past_hold}
use Rattle.limits.specs.Limits.{hold_limits, place_limits}
use Rattle.std.specs.Prelude.{Result, Ok, Err}
use Rattle.grain.specs.declared.NotWeighed.{NotWeighed}
use Rattle.grain.specs.declared.NotWeighed.TheVariants.{NoFit, Limits as Outside}
use Rattle.grain.specs.Sum.{hold_fits, weight_moment, weighed_of, weighed_code, weighed_moment}
use Rattle.condition.specs.declared.Condition.{Condition}
use Rattle.storing.proofs.Taking.{place_any}
use Rattle.operations.specs.Operations.{Change, refused_with, hold_operation, hold_answer}
use Rattle.operations.proofs.Effects.{HoldPassed}

-- a hold's tests are its weighing
abbrev chosen : {A : Type 0} → Result ℕ NotWeighed → (fits no_fit outside : A) → A
chosen (Ok w) a b d = a
chosen (Err NoFit) a b d = b
chosen (Err Outside) a b d = d

chosen_by : {A : Type 0} (x y : Bool) (w : ℕ) (a b d : A) → cond x (cond y a b) d ≡ chosen (cond x (cond y (Ok w) (Err NoFit)) (Err Outside)) a b d
chosen_by true true w a b d = refl
chosen_by true false w a b d = refl
chosen_by false y w a b d = refl

weighed_chooses : {A : Type 0} (h : Hold) (r : Result ℕ NotWeighed) (a b d : A) → weighed_of h ≡ r → cond (hold_limits h) (cond (hold_fits h) a b) d ≡ chosen r a b d
unfolding weighed_of
weighed_chooses h r a b d e = chosen_by (hold_limits h) (hold_fits h) (weight_moment h) a b d ∙ ap (λ (r : Result ℕ NotWeighed). chosen r a b d) e

hold_coded : (c : Condition) (t : Change) (r : Result ℕ NotWeighed) → t.code ≡ 0 → (chosen r t (refused_with 21 c) (refused_with 20 c)).code ≡ weighed_code r
hold_coded c t (Ok w) e = e
hold_coded c t (Err NoFit) e = refl
hold_coded c t (Err Outside) e = refl

-- its code is that of the operation, and its moment, where the hold is taken, the hold's
module _ (n : ℕ) (h : Hold) where
  answered_by : (c : Condition) (x : Bool) → place_limits n ≡ x → weighed_code (cond x (weighed_of h) (Err Outside)) ≡ (hold_operation c n h).code
  unfolding hold_operation
  answered_by c true e = rw (e, weighed_chooses h (weighed_of h) _ _ _ refl) (sym (hold_coded c _ (weighed_of h) refl))
  answered_by c false e = rw e refl

  pub hold_answered : (c : Condition) → weighed_code (hold_answer n h) ≡ (hold_operation c n h).code
  unfolding hold_answer
  hold_answered c = answered_by c (place_limits n) refl

  pub answer_moment : HoldPassed n h → weighed_moment (hold_answer n h) ≡ weight_moment h
  unfolding hold_answer weighed_of
  answer_moment p = rw (p.place, p.limits, p.fits) refl

-- the count of hold n, by its place
pub count_at : (hs : List Hold) (n : ℕ) → length hs ≡ 16 → (1 ≤ n) × (n ≤ 16) → (get_or hs (n - 1) no_hold).head.count ≡ (get_or hs (n - 1) past_hold).head.count
count_at hs n l w = ap (λ (h : Hold). h.head.count) (place_any hs n l w)
