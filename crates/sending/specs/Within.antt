-- Documents 01 and 02: a condition that is within its limits. The same in the paper's numbers: `InRanges` (judging/specs/Complete.antt).
use Rattle.std.specs.Prelude.{◌≡◌, true, Some, List, [], ◌∷◌, ℕ, ◌+◌, ◌<◌, get_or}
use Rattle.record.specs.declared.Ship.{Ship}
use Rattle.record.specs.declared.Load.{Load}
use Rattle.record.specs.declared.Column.{Column}
use Rattle.record.specs.Held.{held}
use Rattle.record.specs.Filler.{no_hold}
use Rattle.weights.specs.Items.{ItemsGive}
use Rattle.condition.specs.declared.Condition.{Condition}
use Rattle.condition.specs.Condition.{empty, is_held}
use Rattle.total.specs.Total.{weight}
use Rattle.judging.specs.Complete.{Places}
use Rattle.operations.specs.Operations.{ship_operation, load_operation, column_operation, hold_operation}

-- the columns, sent one after the other, are each taken with 00
abbrev pub ColumnsTaken : Condition → List Column → Type 0
ColumnsTaken c [] = Unit {0}
ColumnsTaken c (k ∷ ks) = ((column_operation c k).code ≡ 0) × ColumnsTaken (column_operation c k).after ks

-- within its limits: each record, the columns in their order, sent to the empty condition, is taken with 00; the stored figure is the sum
-- of the weight moments over the holds; and the two sums are ones that taken weight items, or none, give
pub record Within (c : Condition) : Type 0 where
  pub places : Places c
  pub ship : (s : Ship) → c.ship ≡ Some s → (ship_operation empty s).code ≡ 0
  pub load : (l : Load) → c.load ≡ Some l → (load_operation empty l).code ≡ 0
  pub columns : ColumnsTaken empty (held c.columns)
  pub holds : (n : ℕ) → n < 16 → is_held (get_or c.holds n no_hold) ≡ true → (hold_operation empty (n + 1) (get_or c.holds n no_hold)).code ≡ 0
  pub total : c.total ≡ weight c
  pub sums : ItemsGive c.sums
