-- The condition that the panel keeps.
use Rattle.std.specs.Prelude.{◌≡◌, Bool, Option, Some, None, ltb, replicate}
use Rattle.record.specs.declared.Hold.{Hold}
use Rattle.record.specs.Filler.{no_columns, no_hold, no_sums}
use Rattle.condition.specs.declared.Condition.{Condition}

-- the condition at the start and after a clear: everything empty
abbrev pub empty : Condition
empty =
    record {
      ship = None;
      load = None;
      columns = no_columns;
      holds = replicate 16 no_hold;
      total = 0;
      sums = no_sums;
    }

-- there is a ship, or a load
abbrev pub There : {A : Type 0} → Option A → Type 0
There {A} o = (x : A) × (o ≡ Some x)

-- whether a place holds a hold
abbrev pub is_held : Hold → Bool
is_held h = ltb 0 h.head.count
