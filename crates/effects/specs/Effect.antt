-- The effect that the program takes last. The laws of `panel` lead from this to its `step_of`; no reader has to believe it.
use Rattle.std.specs.Prelude.{cond, ℕ, leb, length}
use Rattle.record.specs.declared.Weighing.{Weighing}
use Rattle.record.specs.declared.Weighing.TheVariants.{Weight, Weighed, Unweigh}
use Rattle.record.specs.Held.{held}
use Rattle.record.specs.Filler.{no_hold, no_sums}
use Rattle.limits.specs.Limits.{place_limits}
use Rattle.columns.specs.Columns.{with_column}
use Rattle.weights.specs.Weights.{has_room, with_item, weighed_load}
use Rattle.forms.specs.declared.Request.TheVariants.{ShipLine, ColumnLine, LoadLine, HoldLine, DropLine, JudgeLine, ClearLine, ShowLine, TotalLine, WeighingLine}
use Rattle.forms.specs.declared.Request.{Request}
use Rattle.condition.specs.declared.Condition.{Condition}
use Rattle.condition.specs.Condition.{empty}
use Rattle.storing.specs.Storing.{with_ship, with_load, with_columns, with_hold, with_sums}

-- what a line of weights puts into the condition
abbrev pub weighing_effect : Condition → Weighing → Condition
weighing_effect c (Weight i) = with_sums c (cond (has_room c.sums i) (with_item c.sums i) c.sums)
weighing_effect c (Weighed fs) = with_load c (weighed_load c.sums fs)
weighing_effect c Unweigh = with_sums c no_sums

-- what a request puts into the condition, w being the moment of its hold. It is taken only where the request is answered with 00; elsewhere its value is free,
-- and these are the simplest
unfoldable pub effect_of : Condition → Request → (w : ℕ) → Condition
effect_of c (ShipLine s) w = with_ship c s
effect_of c (ColumnLine k) w = cond (leb 20 (length (held c.columns))) c (with_columns c (with_column c.columns k))
effect_of c (LoadLine l) w = with_load c l
effect_of c (HoldLine n h) w = cond (place_limits n) (with_hold c n h w) c
effect_of c (DropLine n) w = cond (place_limits n) (with_hold c n no_hold 0) c
effect_of c JudgeLine w = c
effect_of c ClearLine w = empty
effect_of c ShowLine w = c
effect_of c TotalLine w = c
effect_of c (WeighingLine u) w = weighing_effect c u
