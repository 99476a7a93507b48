-- Document 01, Codes, by operation, and document 02, P5: the code and the condition after. Every code but 00 leaves the condition unchanged.
use Rattle.std.specs.Prelude.{cond, ◌&&◌, Result, Ok, Err, ℕ}
use Rattle.record.specs.declared.Ship.{Ship}
use Rattle.record.specs.declared.Load.{Load}
use Rattle.record.specs.declared.Column.{Column}
use Rattle.record.specs.declared.Hold.{Hold}
use Rattle.record.specs.declared.Weighing.{Weighing}
use Rattle.record.specs.declared.Weighing.TheVariants.{Weight, Weighed, Unweigh}
use Rattle.record.specs.Held.{held}
use Rattle.record.specs.Filler.{no_hold, no_sums}
use Rattle.limits.specs.Limits.{rise, ship_limits, load_limits, hold_limits, place_limits, item_limits}
use Rattle.columns.specs.declared.NotAdded.{NotAdded}
use Rattle.columns.specs.Columns.{column_answer, not_added_code, with_column}
use Rattle.grain.specs.declared.NotWeighed.{NotWeighed}
use Rattle.grain.specs.declared.NotWeighed.TheVariants.{Limits as Outside}
use Rattle.grain.specs.Sum.{hold_fits, weight_moment, weighed_of}
use Rattle.weights.specs.Weights.{has_room, with_item, makes_load, weighed_load}
use Rattle.condition.specs.declared.Condition.{Condition}
use Rattle.condition.specs.Condition.{is_held}
use Rattle.storing.specs.Storing.{with_ship, with_load, with_columns, with_hold, hold_at, with_sums}

-- an operation's code, and the condition after it
pub record Change : Type 0 where
  pub code : ℕ
  pub after : Condition

-- taken with 00; refused with a code
abbrev pub taken : Condition → Change
taken c = record { code = 0; after = c }

abbrev pub refused_with : ℕ → Condition → Change
refused_with code c = record { code = code; after = c }

-- Ship, load: 20
unfoldable pub ship_operation : Condition → Ship → Change
ship_operation c s = cond (ship_limits s) (taken (with_ship c s)) (refused_with 20 c)

unfoldable pub load_operation : Condition → Load → Change
load_operation c l = cond (load_limits l) (taken (with_load c l)) (refused_with 20 c)

-- Column: 20, 23, 22
abbrev pub column_change : Condition → Column → Result (Unit {0}) NotAdded → Change
column_change c k (Ok done) = taken (with_columns c (with_column c.columns k))
column_change c k (Err why) = refused_with (not_added_code why) c

unfoldable pub column_operation : Condition → Column → Change
column_operation c k = column_change c k (column_answer (held c.columns) k)

-- Hold: 20, 21
unfoldable pub hold_operation : Condition → ℕ → Hold → Change
hold_operation c n h =
    cond (place_limits n && hold_limits h) (cond (hold_fits h) (taken (with_hold c n h (weight_moment h))) (refused_with 21 c)) (refused_with 20 c)

-- the same as the program finds it: the answer of the hold's weighing, whose code is this one and whose moment goes into the figure
-- (proofs/Taking.antt, hold_answered)
unfoldable pub hold_answer : ℕ → Hold → Result ℕ NotWeighed
hold_answer n h = cond (place_limits n) (weighed_of h) (Err Outside)

-- Drop: 20, 24
unfoldable pub drop_operation : Condition → ℕ → Change
drop_operation c n =
    cond (place_limits n) (cond (is_held (hold_at c n)) (taken (with_hold c n no_hold 0)) (refused_with 24 c)) (refused_with 20 c)

-- Weight: 20, 26; weighed: 20, 27; unweigh
unfoldable pub weighing_operation : Condition → Weighing → Change
weighing_operation c (Weight i) =
    cond (item_limits i) (cond (has_room c.sums i) (taken (with_sums c (with_item c.sums i))) (refused_with 26 c)) (refused_with 20 c)
weighing_operation c (Weighed fs) =
    cond (rise fs) (cond (makes_load c.sums) (taken (with_load c (weighed_load c.sums fs))) (refused_with 27 c)) (refused_with 20 c)
weighing_operation c Unweigh = taken (with_sums c no_sums)
