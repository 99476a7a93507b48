-- The codes of each operation, and that every one but 00 leaves the condition as it was.
use mathlib.Core.Path.{◌≡◌, refl}
use mathlib.Core.Bool.{Bool, true, false, cond, ◌&&◌}
use mathlib.Core.List.{List, [], ◌∷◌}
use Prim.Native.Nat.{ℕ}
use Rattle.whole.specs.Lists.{is_one_of}
use Rattle.record.specs.declared.Ship.{Ship}
use Rattle.record.specs.declared.Load.{Load}
use Rattle.record.specs.declared.Column.{Column}
use Rattle.record.specs.declared.Hold.{Hold}
use Rattle.record.specs.declared.Weighing.{Weighing}
use Rattle.record.specs.declared.Weighing.TheVariants.{Weight, Weighed, Unweigh}
use Rattle.record.specs.Held.{held}
use Rattle.limits.specs.Limits.{rise, ship_limits, load_limits, hold_limits, place_limits, item_limits}
use Rattle.std.specs.Prelude.{Result, Ok, Err}
use Rattle.columns.specs.declared.NotAdded.{NotAdded}
use Rattle.columns.specs.declared.NotAdded.TheVariants.{Limits, Full, NotAbove}
use Rattle.columns.specs.Columns.{column_answer}
use Rattle.grain.specs.Sum.{hold_fits}
use Rattle.weights.specs.Weights.{has_room, makes_load}
use Rattle.condition.specs.declared.Condition.{Condition}
use Rattle.condition.specs.Condition.{is_held}
use Rattle.storing.specs.Storing.{hold_at}
use Rattle.operations.specs.Operations.{Change, taken, refused_with, ship_operation, load_operation, column_change, column_operation, hold_operation, drop_operation, weighing_operation}

-- it has one of these codes, and unless that is 00 the condition is as it was
pub record Right (codes : List ℕ) (c : Condition) (t : Change) : Type 0 where
  pub listed : is_one_of codes t.code ≡ true
  pub unchanged : (t.code ≡ 0 → ⊥) → t.after ≡ c

module _ {codes : List ℕ} (c : Condition) where
  pub right_taken : (a : Condition) → is_one_of codes 0 ≡ true → Right codes c (taken a)
  right_taken a e = record { listed = e; unchanged = λ f. absurd (f refl) }

  pub right_same : (code : ℕ) → is_one_of codes code ≡ true → Right codes c (refused_with code c)
  right_same code e = record { listed = e; unchanged = λ f. refl }

  pub right_if : {A : Type 0} (f : A → Change) (x : Bool) {a b : A} → Right codes c (f a) → Right codes c (f b) → Right codes c (f (cond x a b))
  right_if f true p q = p
  right_if f false p q = q

  -- one test, or two
  one_test : (x : Bool) (after : Condition) → is_one_of codes 0 ≡ true → is_one_of codes 20 ≡ true → Right codes c (cond x (taken after) (refused_with 20 c))
  one_test x after z e = right_if (λ t. t) x (right_taken after z) (right_same 20 e)

  two_tests : (x y : Bool) (after : Condition) (n : ℕ) → is_one_of codes 0 ≡ true → is_one_of codes 20 ≡ true → is_one_of codes n ≡ true → Right codes c (cond x (cond y (taken after) (refused_with n c)) (refused_with 20 c))
  two_tests x y after n z e f = right_if (λ t. t) x (right_if (λ t. t) y (right_taken after z) (right_same n f)) (right_same 20 e)

-- the codes of each line of weights
abbrev pub weighing_codes : Weighing → List ℕ
weighing_codes (Weight i) = 0 ∷ 20 ∷ 26 ∷ []
weighing_codes (Weighed fs) = 0 ∷ 20 ∷ 27 ∷ []
weighing_codes Unweigh = 0 ∷ []

module _ (c : Condition) where
  pub ship_right : (s : Ship) → Right (0 ∷ 20 ∷ []) c (ship_operation c s)
  unfolding is_one_of ship_operation
  ship_right s = one_test c (ship_limits s) _ refl refl

  pub load_right : (l : Load) → Right (0 ∷ 20 ∷ []) c (load_operation c l)
  unfolding is_one_of load_operation
  load_right l = one_test c (load_limits l) _ refl refl

  right_change : (k : Column) (a : Result (Unit {0}) NotAdded) → Right (0 ∷ 20 ∷ 22 ∷ 23 ∷ []) c (column_change c k a)
  unfolding is_one_of
  right_change k (Ok done) = right_taken c _ refl
  right_change k (Err Limits) = right_same c _ refl
  right_change k (Err Full) = right_same c _ refl
  right_change k (Err NotAbove) = right_same c _ refl

  pub column_right : (k : Column) → Right (0 ∷ 20 ∷ 22 ∷ 23 ∷ []) c (column_operation c k)
  unfolding column_operation
  column_right k = right_change k (column_answer (held c.columns) k)

  pub hold_right : (n : ℕ) (h : Hold) → Right (0 ∷ 20 ∷ 21 ∷ []) c (hold_operation c n h)
  unfolding is_one_of hold_operation
  hold_right n h = two_tests c (place_limits n && hold_limits h) (hold_fits h) _ 21 refl refl refl

  pub drop_right : (n : ℕ) → Right (0 ∷ 20 ∷ 24 ∷ []) c (drop_operation c n)
  unfolding is_one_of drop_operation
  drop_right n = two_tests c (place_limits n) (is_held (hold_at c n)) _ 24 refl refl refl

  pub weighing_right : (w : Weighing) → Right (weighing_codes w) c (weighing_operation c w)
  unfolding is_one_of weighing_operation
  weighing_right (Weight i) = two_tests c (item_limits i) (has_room c.sums i) _ 26 refl refl refl
  weighing_right (Weighed fs) = two_tests c (rise fs) (makes_load c.sums) _ 27 refl refl refl
  weighing_right Unweigh = right_taken c _ refl
