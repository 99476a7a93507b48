-- How a record is put into the condition.
use Rattle.std.specs.Prelude.{Some, ℕ, ◌-◌, get_or, set}
use Rattle.record.specs.declared.Ship.{Ship}
use Rattle.record.specs.declared.Load.{Load}
use Rattle.record.specs.declared.Columns.{Columns}
use Rattle.record.specs.declared.Hold.{Hold}
use Rattle.record.specs.declared.ItemSums.{ItemSums}
use Rattle.record.specs.Filler.{no_hold}
use Rattle.condition.specs.declared.Condition.{Condition}
use Rattle.total.specs.Total.{exchanged}

-- a new ship or load replaces the former one
abbrev pub with_ship : Condition → Ship → Condition
with_ship c s =
    record { ship = Some s; load = c.load; columns = c.columns; holds = c.holds; total = c.total; sums = c.sums }

abbrev pub with_load : Condition → Load → Condition
with_load c l =
    record { ship = c.ship; load = Some l; columns = c.columns; holds = c.holds; total = c.total; sums = c.sums }

abbrev pub with_columns : Condition → Columns → Condition
with_columns c ks =
    record { ship = c.ship; load = c.load; columns = ks; holds = c.holds; total = c.total; sums = c.sums }

-- hold N, from 1 on, stands in the place N − 1
abbrev pub hold_at : Condition → ℕ → Hold
hold_at c n = get_or c.holds (n - 1) no_hold

-- a new hold replaces the former one, and its moment w the former one's in the stored figure; a drop puts an empty one there, with 0
abbrev pub with_hold : Condition → (n : ℕ) → Hold → (w : ℕ) → Condition
with_hold c n h w =
    record {
      ship = c.ship;
      load = c.load;
      columns = c.columns;
      holds = set c.holds (n - 1) h;
      total = exchanged c.total (hold_at c n) w;
      sums = c.sums;
    }

-- the weight items are kept by their sums
abbrev pub with_sums : Condition → ItemSums → Condition
with_sums c s =
    record {
      ship = c.ship;
      load = c.load;
      columns = c.columns;
      holds = c.holds;
      total = c.total;
      sums = s;
    }
