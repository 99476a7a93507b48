-- A request as it is carried has the outcome of the request as it was read.
use mathlib.Core.Path.{◌≡◌, refl, ◌∙◌, ap}
use mathlib.Core.Bool.{Bool, true, false}
use mathlib.Core.List.{List}
use Prim.Native.Nat.{ℕ}
use native.Mathlib.Omega.{arith}
use Rattle.std.specs.Prelude.{Option, Some, None, option_map}
use Rattle.whole.proofs.Lists.{and_false}
use Rattle.text.specs.Token.{Token}
use Rattle.record.specs.declared.Ship.{Ship}
use Rattle.record.specs.declared.Load.{Load}
use Rattle.record.specs.declared.Column.{Column}
use Rattle.record.specs.declared.Hold.{Hold}
use Rattle.record.specs.declared.WeightItem.{WeightItem}
use Rattle.record.specs.declared.Weighing.{Weighing}
use Rattle.record.specs.declared.Weighing.TheVariants.{Weight, Weighed, Unweigh}
use Rattle.limits.specs.Limits.{rise, ship_limits, load_limits, column_limits, hold_limits, place_limits, item_limits}
use Rattle.columns.specs.Columns.{column_answer}
use Rattle.items.specs.Carried.{carried}
use Rattle.items.proofs.Kept.{same_within, kept_within}
use Rattle.forms.specs.declared.Request.{Request}
use Rattle.forms.specs.declared.Request.TheVariants.{ShipLine, ColumnLine, LoadLine, HoldLine, DropLine, JudgeLine, ClearLine, ShowLine, TotalLine, WeighingLine}
use Rattle.forms.specs.Carried.{carried_ship, carried_load, carried_column, carried_hold, carried_item, carried_weighing, carried_request}
use Rattle.forms.proofs.Kept.{same_ship, same_load, same_column, same_hold, same_item, kept_ship, kept_load, kept_column, kept_item}
use Rattle.request.specs.Shape.{request_of}
use Rattle.request.proofs.Tidy.{kept_hold}
use Rattle.condition.specs.declared.Condition.{Condition}
use Rattle.operations.specs.Operations.{ship_operation, load_operation, column_operation, hold_operation, weighing_operation}
use Rattle.panel.specs.Step.{outcome_of}

module _ (c : Condition) where
  ship_by_lem : (s : Ship) (x : Bool) → ship_limits s ≡ x → ship_operation c (carried_ship s) ≡ ship_operation c s
  unfolding ship_operation
  ship_by_lem s true e = rw (kept_ship s e)
  ship_by_lem s false e = rw (same_ship s, e)

  load_by : (l : Load) (x : Bool) → load_limits l ≡ x → load_operation c (carried_load l) ≡ load_operation c l
  unfolding load_operation
  load_by l true e = rw (kept_load l e)
  load_by l false e = rw (same_load l, e)

  column_by : (k : Column) (x : Bool) → column_limits k ≡ x → column_operation c (carried_column k) ≡ column_operation c k
  unfolding column_operation column_answer
  column_by k true e = rw (kept_column k e)
  column_by k false e = rw (same_column k, e)

  hold_by : (n : ℕ) (h : Hold) (x : Bool) → hold_limits h ≡ x → (hold_limits h ≡ true → carried_hold h ≡ h) → hold_operation c n (carried_hold h) ≡ hold_operation c n h
  unfolding hold_operation
  hold_by n h true e k = rw (k e)
  hold_by n h false e k = rw (same_hold h, e, and_false (place_limits n))

  weight_by : (i : WeightItem) (x : Bool) → item_limits i ≡ x → weighing_operation c (Weight (carried_item i)) ≡ weighing_operation c (Weight i)
  unfolding weighing_operation
  weight_by i true e = rw (kept_item i e)
  weight_by i false e = rw (same_item i, e)

  weighed_by : (fs : ℕ) (x : Bool) → rise fs ≡ x → weighing_operation c (Weighed (carried fs)) ≡ weighing_operation c (Weighed fs)
  unfolding weighing_operation
  weighed_by fs true e = rw (kept_within 0 10000 fs (omega arith) e)
  weighed_by fs false e = rw (same_within 0 10000 fs (omega arith), e)

  weighing_by : (w : Weighing) → weighing_operation c (carried_weighing w) ≡ weighing_operation c w
  weighing_by (Weight i) = weight_by i (item_limits i) refl
  weighing_by (Weighed fs) = weighed_by fs (rise fs) refl
  weighing_by Unweigh = refl

  module _ (ts : List Token) (n : ℕ) where
    pub carried_outcome : (r : Request) → request_of ts ≡ Some r → outcome_of c ts n (carried_request r) ≡ outcome_of c ts n r
    unfolding outcome_of carried_request
    carried_outcome (ShipLine s) e = rw (ship_by_lem s (ship_limits s) refl)
    carried_outcome (ColumnLine k) e = rw (column_by k (column_limits k) refl)
    carried_outcome (LoadLine l) e = rw (load_by l (load_limits l) refl)
    carried_outcome (HoldLine m h) e = rw (hold_by m h (hold_limits h) refl (kept_hold ts m h e))
    carried_outcome (DropLine m) e = refl
    carried_outcome JudgeLine e = refl
    carried_outcome ClearLine e = refl
    carried_outcome ShowLine e = refl
    carried_outcome TotalLine e = refl
    carried_outcome (WeighingLine w) e = rw (weighing_by w)

-- a show that is carried was read
carried_by : (o : Option Request) → option_map carried_request o ≡ Some ShowLine → o ≡ Some ShowLine
unfolding carried_request
carried_by None e = cc
carried_by (Some (ShipLine s)) e = cc
carried_by (Some (ColumnLine k)) e = cc
carried_by (Some (LoadLine l)) e = cc
carried_by (Some (HoldLine n h)) e = cc
carried_by (Some (DropLine n)) e = cc
carried_by (Some JudgeLine) e = cc
carried_by (Some ClearLine) e = cc
carried_by (Some ShowLine) e = refl
carried_by (Some TotalLine) e = cc
carried_by (Some (WeighingLine w)) e = cc

pub carried_show : (ts : List Token) (r : Request) → option_map carried_request (request_of ts) ≡ Some r → r ≡ ShowLine → request_of ts ≡ Some ShowLine
carried_show ts r e k = carried_by (request_of ts) (e ∙ ap Some k)
