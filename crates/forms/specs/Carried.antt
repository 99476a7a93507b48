-- Requests as they are carried (items/specs/Carried.antt). Any ship, load, column or weight item within its limits is carried as it is (proofs/Kept.antt); a hold
-- within its limits only where it was read, since its limits do not test what the grammar leaves unused (request/proofs/Tidy.antt, kept_hold).
use Rattle.std.specs.Prelude.{map}
use Rattle.record.specs.declared.Rule.{Rule}
use Rattle.record.specs.declared.Rule.TheVariants.{New, Old}
use Rattle.record.specs.declared.Ship.{Ship}
use Rattle.record.specs.declared.Load.{Load}
use Rattle.record.specs.declared.Column.{Column}
use Rattle.record.specs.declared.Hold.{Hold}
use Rattle.record.specs.declared.WeightItem.{WeightItem}
use Rattle.record.specs.declared.Weighing.{Weighing}
use Rattle.record.specs.declared.Weighing.TheVariants.{Weight, Weighed, Unweigh}
use Rattle.items.specs.Carried.{carried}
use Rattle.parts.specs.Carried.{carried_part}
use Rattle.forms.specs.declared.Request.{Request}
use Rattle.forms.specs.declared.Request.TheVariants.{ShipLine, ColumnLine, LoadLine, HoldLine, DropLine, JudgeLine, ClearLine, ShowLine, TotalLine, WeighingLine}

abbrev pub carried_rule : Rule → Rule
carried_rule (New e) = New (carried e)
carried_rule (Old e) = Old (carried e)

abbrev pub carried_ship : Ship → Ship
carried_ship s = record { rule = carried_rule s.rule; flood = carried s.flood }

abbrev pub carried_load : Load → Load
carried_load l = record { d = l.d; kg = carried l.kg; fs = carried l.fs }

abbrev pub carried_column : Column → Column
carried_column k = record { d = k.d; km = carried k.km; kn = map carried k.kn }

abbrev pub carried_hold : Hold → Hold
carried_hold h =
    record {
      head = record { mode = h.head.mode; factor = carried h.head.factor; count = h.head.count };
      parts = map carried_part h.parts;
    }

abbrev pub carried_item : WeightItem → WeightItem
carried_item i = record { tonnes = i.tonnes; height = carried i.height }

abbrev pub carried_weighing : Weighing → Weighing
carried_weighing (Weight i) = Weight (carried_item i)
carried_weighing (Weighed fs) = Weighed (carried fs)
carried_weighing Unweigh = Unweigh

-- a request as it is carried
unfoldable pub carried_request : Request → Request
carried_request (ShipLine s) = ShipLine (carried_ship s)
carried_request (ColumnLine k) = ColumnLine (carried_column k)
carried_request (LoadLine l) = LoadLine (carried_load l)
carried_request (HoldLine n h) = HoldLine n (carried_hold h)
carried_request (DropLine n) = DropLine n
carried_request JudgeLine = JudgeLine
carried_request ClearLine = ClearLine
carried_request ShowLine = ShowLine
carried_request TotalLine = TotalLine
carried_request (WeighingLine w) = WeighingLine (carried_weighing w)
