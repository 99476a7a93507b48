-- What a record put into the condition leaves behind, field by field.
use mathlib.Core.Path.{◌≡◌, refl, ap}
use Prim.Native.Nat.{ℕ, ◌-◌, ◌≤◌}
use native.Mathlib.Omega.{arith}
use lib.ListN.{length, get_or, length-take}
use lib.Seq.{get_or-set_same, get_or-set_other}
use Rattle.record.specs.declared.Ship.{Ship}
use Rattle.record.specs.declared.Load.{Load}
use Rattle.record.specs.declared.Column.{Column}
use Rattle.record.specs.declared.Hold.{Hold}
use Rattle.record.specs.declared.WeightItem.{WeightItem}
use Rattle.record.specs.Held.{held}
use Rattle.record.specs.Filler.{no_hold, no_sums}
use Rattle.std.specs.Prelude.{Ok}
use Rattle.columns.specs.Columns.{column_answer, with_column}
use Rattle.weights.specs.Weights.{with_item, weighed_load}
use Rattle.weights.proofs.Items.{kg_of_sums}
use Rattle.condition.specs.declared.Condition.{Condition}
use Rattle.storing.specs.Storing.{with_ship, with_load, with_columns, with_hold, with_sums}
use Rattle.storing.specs.Stores.{OtherPlaces, ShipStored, LoadStored, ColumnStored, HoldStored, HoldDropped, ItemStored, WeighedStored, ItemsRemoved}
use Rattle.storing.proofs.Taking.{taken_is}
use Rattle.storing.proofs.Columns.{held_more}

module _ (c : Condition) where
  pub ship_put : (s : Ship) → ShipStored c s (with_ship c s)
  ship_put s = (refl, refl, refl, (refl, refl), (refl, refl))

  pub load_put : (l : Load) → LoadStored c l (with_load c l)
  load_put l = (refl, refl, refl, (refl, refl), (refl, refl))

  -- a column taken in twenty places is the last one held
  pub column_put : (k : Column) → column_answer (held c.columns) k ≡ Ok tt → ColumnStored c k (with_columns c (with_column c.columns k))
  column_put k t long =
      let b = (taken_is (held c.columns) k t).below in
      let n = length-take c.columns.count c.columns.places in
      (held_more c.columns k (record { places = long; count = omega arith }) t, refl, refl, (refl, refl), (refl, refl))

  -- a hold put in a place of the sixteen
  module _ (n : ℕ) (h : Hold) (w : ℕ) (p : (1 ≤ n) × (n ≤ 16)) where
    at_place : length c.holds ≡ 16 → get_or (with_hold c n h w).holds (n - 1) no_hold ≡ h
    at_place long = get_or-set_same c.holds (n - 1) h no_hold (omega (arith, p.0, p.1))

    other_places : OtherPlaces n c (with_hold c n h w)
    other_places m low high other =
        get_or-set_other c.holds (n - 1) (m - 1) h no_hold (λ e. other (omega (arith, p.0)))

    pub hold_put : HoldStored c n h (with_hold c n h w)
    hold_put long = (at_place long, other_places, refl, refl, refl, (refl, refl))

  -- a drop puts an empty one there
  pub drop_put : (n : ℕ) → (1 ≤ n) × (n ≤ 16) → HoldDropped c n (with_hold c n no_hold 0)
  drop_put n p long =
      (ap (λ (h : Hold). h.head.count) (at_place n no_hold 0 p long), other_places n no_hold 0 p, refl, refl, refl, (refl, refl))

  -- ---- weight items: one more, the load that they make, none
  pub item_put : (i : WeightItem) → ItemStored c i (with_sums c (with_item c.sums i))
  unfolding with_item
  item_put i = (refl, λ fits. omega (arith, fits), refl, (refl, refl, (refl, refl)))

  pub weighed_put : (fs : ℕ) → WeighedStored c fs (with_load c (weighed_load c.sums fs))
  weighed_put fs = ((weighed_load c.sums fs, refl, refl, kg_of_sums c.sums, refl), (refl, refl), (refl, refl, (refl, refl)))

  pub none_put : ItemsRemoved c (with_sums c no_sums)
  none_put = (refl, refl, refl, (refl, refl, (refl, refl)))
