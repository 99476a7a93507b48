-- What 00 says of each operation, and what it does: the tests passed, and the record is in the condition after.
use mathlib.Core.Path.{◌≡◌, refl, sym, ap, ◌∙◌}
use mathlib.Core.Bool.{Bool, true, false, cond, ◌&&◌}
use Prim.Native.Nat.{ℕ, ◌<◌}
use native.Mathlib.Omega.{arith}
use Rattle.whole.proofs.Lists.{and_true}
use Rattle.record.specs.declared.Ship.{Ship}
use Rattle.record.specs.declared.Load.{Load}
use Rattle.record.specs.declared.Column.{Column}
use Rattle.record.specs.declared.Hold.{Hold}
use Rattle.record.specs.declared.WeightItem.{WeightItem}
use Rattle.record.specs.declared.Weighing.TheVariants.{Weight, Weighed, Unweigh}
use Rattle.record.specs.Held.{held}
use Rattle.record.specs.Filler.{no_hold, no_sums}
use Rattle.limits.specs.Limits.{rise, ship_limits, load_limits, hold_limits, place_limits, item_limits}
use Rattle.std.specs.Prelude.{Result, Ok, Err}
use Rattle.columns.specs.declared.NotAdded.{NotAdded}
use Rattle.columns.specs.declared.NotAdded.TheVariants.{Limits, Full, NotAbove}
use Rattle.columns.specs.Columns.{column_answer, added_code, with_column}
use Rattle.grain.specs.Sum.{hold_fits, weight_moment}
use Rattle.weights.specs.Weights.{has_room, with_item, makes_load, weighed_load}
use Rattle.condition.specs.declared.Condition.{Condition}
use Rattle.condition.specs.Condition.{is_held}
use Rattle.storing.specs.Storing.{with_ship, with_load, with_columns, with_hold, hold_at, with_sums}
use Rattle.operations.specs.Operations.{Change, taken, refused_with}
use Rattle.operations.specs.Operations.{ship_operation, load_operation, column_change, column_operation, hold_operation, drop_operation, weighing_operation}

-- a test chooses between two changes as it does between their codes
pub by_cond : (x : Bool) (a b : Change) → (cond x a b).code ≡ cond x a.code b.code
by_cond true a b = refl
by_cond false a b = refl

-- a test that answers with 00 passed: the other answer has another code
passed : (x : Bool) (a b : Change) → 0 < b.code → (cond x a b).code ≡ 0 → (x ≡ true) × (a.code ≡ 0)
passed true a b h e = (refl, e)
passed false a b h e = absurd (omega arith)

-- two tests, one behind the other: their codes, and what 00 says of them
module _ (c : Condition) (x y : Bool) (after : Condition) (b : ℕ) where
  pub two_coded : (cond x (cond y (taken after) (refused_with b c)) (refused_with 20 c)).code ≡ cond x (cond y 0 b) 20
  two_coded = by_cond x (cond y (taken after) (refused_with b c)) (refused_with 20 c) ∙ ap (λ n. cond x n 20) (by_cond y (taken after) (refused_with b c))

  two_passed : 0 < b → (cond x (cond y (taken after) (refused_with b c)) (refused_with 20 c)).code ≡ 0 → (x ≡ true) × (y ≡ true)
  two_passed h e =
      let t = passed x (cond y (taken after) (refused_with b c)) (refused_with 20 c) (omega arith) e in
      (t.0, (passed y (taken after) (refused_with b c) h t.1).0)

-- of the answers to a column one has the code 00
taken_code : (a : Result (Unit {0}) NotAdded) → added_code a ≡ 0 → a ≡ Ok tt
taken_code (Ok done) e = refl
taken_code (Err Limits) e = absurd (omega arith)
taken_code (Err Full) e = absurd (omega arith)
taken_code (Err NotAbove) e = absurd (omega arith)

-- the tests of a hold
pub record HoldPassed (n : ℕ) (h : Hold) : Type 0 where
  pub place : place_limits n ≡ true
  pub limits : hold_limits h ≡ true
  pub fits : hold_fits h ≡ true

module _ (c : Condition) where
  pub ship_passed : (s : Ship) → (ship_operation c s).code ≡ 0 → ship_limits s ≡ true
  unfolding ship_operation
  ship_passed s e = (passed (ship_limits s) (taken (with_ship c s)) (refused_with 20 c) (omega arith) e).0

  pub ship_taken : (s : Ship) → ship_limits s ≡ true → ship_operation c s ≡ taken (with_ship c s)
  unfolding ship_operation
  ship_taken s e = rw e

  pub load_passed : (l : Load) → (load_operation c l).code ≡ 0 → load_limits l ≡ true
  unfolding load_operation
  load_passed l e = (passed (load_limits l) (taken (with_load c l)) (refused_with 20 c) (omega arith) e).0

  pub load_taken : (l : Load) → load_limits l ≡ true → load_operation c l ≡ taken (with_load c l)
  unfolding load_operation
  load_taken l e = rw e

  module _ (k : Column) where
    pub change_code : (a : Result (Unit {0}) NotAdded) → (column_change c k a).code ≡ added_code a
    change_code (Ok done) = refl
    change_code (Err Limits) = refl
    change_code (Err Full) = refl
    change_code (Err NotAbove) = refl

    pub column_passed : (column_operation c k).code ≡ 0 → column_answer (held c.columns) k ≡ Ok tt
    unfolding column_operation
    column_passed e = taken_code _ (sym (change_code (column_answer (held c.columns) k)) ∙ e)

    pub column_taken : column_answer (held c.columns) k ≡ Ok tt → column_operation c k ≡ taken (with_columns c (with_column c.columns k))
    unfolding column_operation
    column_taken e = ap (column_change c k) e

  module _ (n : ℕ) (h : Hold) where
    pub hold_passed : (hold_operation c n h).code ≡ 0 → HoldPassed n h
    unfolding hold_operation
    hold_passed e =
        let t = two_passed c (place_limits n && hold_limits h) (hold_fits h) _ 21 (omega arith) e in
        let u = and_true (place_limits n) (hold_limits h) t.0 in
        record { place = u.0; limits = u.1; fits = t.1 }

    pub hold_taken : HoldPassed n h → hold_operation c n h ≡ taken (with_hold c n h (weight_moment h))
    unfolding hold_operation
    hold_taken p = rw (p.place, p.limits, p.fits)

  pub drop_passed : (n : ℕ) → (drop_operation c n).code ≡ 0 → (place_limits n ≡ true) × (is_held (hold_at c n) ≡ true)
  unfolding drop_operation
  drop_passed n e = two_passed c (place_limits n) (is_held (hold_at c n)) _ 24 (omega arith) e

  pub drop_taken : (n : ℕ) → place_limits n ≡ true → is_held (hold_at c n) ≡ true → drop_operation c n ≡ taken (with_hold c n no_hold 0)
  unfolding drop_operation
  drop_taken n p h = rw (p, h)

  module _ (i : WeightItem) where
    pub weight_passed : (weighing_operation c (Weight i)).code ≡ 0 → (item_limits i ≡ true) × (has_room c.sums i ≡ true)
    unfolding weighing_operation
    weight_passed e = two_passed c (item_limits i) (has_room c.sums i) _ 26 (omega arith) e

    pub weight_taken : item_limits i ≡ true → has_room c.sums i ≡ true → weighing_operation c (Weight i) ≡ taken (with_sums c (with_item c.sums i))
    unfolding weighing_operation
    weight_taken p h = rw (p, h)

  module _ (fs : ℕ) where
    pub weighed_passed : (weighing_operation c (Weighed fs)).code ≡ 0 → (rise fs ≡ true) × (makes_load c.sums ≡ true)
    unfolding weighing_operation
    weighed_passed e = two_passed c (rise fs) (makes_load c.sums) _ 27 (omega arith) e

    pub weighed_taken : rise fs ≡ true → makes_load c.sums ≡ true → weighing_operation c (Weighed fs) ≡ taken (with_load c (weighed_load c.sums fs))
    unfolding weighing_operation
    weighed_taken p h = rw (p, h)

  pub unweigh_taken : weighing_operation c Unweigh ≡ taken (with_sums c no_sums)
  unfolding weighing_operation
  unweigh_taken = refl

  -- an operation that is answered with 00 has its effect
  after : {a b : Change} → a ≡ b → b.after ≡ a.after
  after e = ap (λ (t : Change). t.after) (sym e)

  pub ship_effect : (s : Ship) → (ship_operation c s).code ≡ 0 → with_ship c s ≡ (ship_operation c s).after
  ship_effect s e = after (ship_taken s (ship_passed s e))

  pub load_effect : (l : Load) → (load_operation c l).code ≡ 0 → with_load c l ≡ (load_operation c l).after
  load_effect l e = after (load_taken l (load_passed l e))

  pub column_effect : (k : Column) → (column_operation c k).code ≡ 0 → with_columns c (with_column c.columns k) ≡ (column_operation c k).after
  column_effect k e = after (column_taken k (column_passed k e))

  pub hold_effect : (n : ℕ) (h : Hold) → (hold_operation c n h).code ≡ 0 → with_hold c n h (weight_moment h) ≡ (hold_operation c n h).after
  hold_effect n h e = after (hold_taken n h (hold_passed n h e))

  pub drop_effect : (n : ℕ) → (drop_operation c n).code ≡ 0 → with_hold c n no_hold 0 ≡ (drop_operation c n).after
  drop_effect n e = let t = drop_passed n e in after (drop_taken n t.0 t.1)

  pub weight_effect : (i : WeightItem) → (weighing_operation c (Weight i)).code ≡ 0 → with_sums c (with_item c.sums i) ≡ (weighing_operation c (Weight i)).after
  weight_effect i e = let t = weight_passed i e in after (weight_taken i t.0 t.1)

  pub weighed_effect : (fs : ℕ) → (weighing_operation c (Weighed fs)).code ≡ 0 → with_load c (weighed_load c.sums fs) ≡ (weighing_operation c (Weighed fs)).after
  weighed_effect fs e = let t = weighed_passed fs e in after (weighed_taken fs t.0 t.1)
