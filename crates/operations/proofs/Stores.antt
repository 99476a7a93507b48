-- What an operation that is taken leaves behind, field by field.
use mathlib.Core.Path.{◌≡◌}
use Prim.Native.Nat.{ℕ}
use Rattle.record.specs.declared.Ship.{Ship}
use Rattle.record.specs.declared.Load.{Load}
use Rattle.record.specs.declared.Column.{Column}
use Rattle.record.specs.declared.Hold.{Hold}
use Rattle.record.specs.declared.WeightItem.{WeightItem}
use Rattle.record.specs.declared.Weighing.TheVariants.{Weight, Weighed, Unweigh}
use Rattle.grain.specs.Sum.{weight_moment}
use Rattle.condition.specs.declared.Condition.{Condition}
use Rattle.storing.specs.Stores.{ShipStored, LoadStored, ColumnStored, HoldStored, HoldDropped, ItemStored, WeighedStored, ItemsRemoved}
use Rattle.storing.proofs.Taking.{place_within}
use Rattle.storing.proofs.Stores.{ship_put, load_put, column_put, hold_put, drop_put, item_put, weighed_put, none_put}
use Rattle.operations.specs.Operations.{ship_operation, load_operation, column_operation, hold_operation, drop_operation, weighing_operation}
use Rattle.operations.proofs.Effects.{ship_effect, load_effect, column_passed, column_effect, hold_passed, hold_effect, drop_passed, drop_effect, weight_effect, weighed_effect, unweigh_taken}

module _ (c : Condition) where
  pub ship_stored : (s : Ship) → (ship_operation c s).code ≡ 0 → ShipStored c s (ship_operation c s).after
  ship_stored s e = rw (← ship_effect c s e) (ship_put c s)

  pub load_stored : (l : Load) → (load_operation c l).code ≡ 0 → LoadStored c l (load_operation c l).after
  load_stored l e = rw (← load_effect c l e) (load_put c l)

  pub column_stored : (k : Column) → (column_operation c k).code ≡ 0 → ColumnStored c k (column_operation c k).after
  column_stored k e = rw (← column_effect c k e) (column_put c k (column_passed c k e))

  pub hold_stored : (n : ℕ) (h : Hold) → (hold_operation c n h).code ≡ 0 → HoldStored c n h (hold_operation c n h).after
  hold_stored n h e = rw (← hold_effect c n h e) (hold_put c n h (weight_moment h) (place_within n (hold_passed c n h e).place))

  pub hold_dropped : (n : ℕ) → (drop_operation c n).code ≡ 0 → HoldDropped c n (drop_operation c n).after
  hold_dropped n e = rw (← drop_effect c n e) (drop_put c n (place_within n (drop_passed c n e).0))

  pub item_stored : (i : WeightItem) → (weighing_operation c (Weight i)).code ≡ 0 → ItemStored c i (weighing_operation c (Weight i)).after
  item_stored i e = rw (← weight_effect c i e) (item_put c i)

  pub weighed_stored : (fs : ℕ) → (weighing_operation c (Weighed fs)).code ≡ 0 → WeighedStored c fs (weighing_operation c (Weighed fs)).after
  weighed_stored fs e = rw (← weighed_effect c fs e) (weighed_put c fs)

  pub items_removed : ItemsRemoved c (weighing_operation c Unweigh).after
  items_removed = rw (unweigh_taken c) (none_put c)
