-- The condition at the start holds nothing.
use mathlib.Core.Path.{refl, ap}
use Prim.Native.Nat.{◌-◌}
use native.Mathlib.Omega.{arith}
use lib.ListN.{get_or-replicate}
use Rattle.record.specs.declared.Hold.{Hold}
use Rattle.record.specs.Filler.{no_hold}
use Rattle.condition.specs.Condition.{empty}
use Rattle.condition.specs.Empty.{Nothing}

pub starts_empty_lem : Nothing empty
starts_empty_lem =
    record {
      ship = refl;
      load = refl;
      columns = refl;
      holds = λ n p q. ap (λ (h : Hold). h.head.count) (get_or-replicate 16 (n - 1) no_hold no_hold (omega arith));
      total = refl;
      tonnes = refl;
      products = refl;
    }
