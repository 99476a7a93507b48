-- A condition within its limits, as judge and the weight moments use it.
use mathlib.Core.Path.{◌≡◌, refl}
use mathlib.Core.Bool.{true}
use Prim.Native.Nat.{ℕ, ◌+◌, ◌<◌}
use native.Mathlib.Omega.{arith}
use lib.ListN.{get_or}
use Rattle.record.specs.Held.{held}
use Rattle.record.specs.Filler.{no_hold}
use Rattle.columns.specs.Columns.{in_order}
use Rattle.condition.specs.declared.Condition.{Condition}
use Rattle.condition.specs.Condition.{empty, is_held}
use Rattle.judging.proofs.Judging.{LimitsMet}
use Rattle.operations.proofs.Effects.{HoldPassed, ship_passed, load_passed, hold_passed}
use Rattle.sending.specs.Within.{Within}
use Rattle.demands.proofs.Sequence.{taken_order}

module _ (c : Condition) (w : Within c) where
  pub hold_sound : (n : ℕ) → n < 16 → is_held (get_or c.holds n no_hold) ≡ true → HoldPassed (n + 1) (get_or c.holds n no_hold)
  hold_sound n p e = hold_passed empty (n + 1) (get_or c.holds n no_hold) (w.holds n p e)

  pub within_sound : LimitsMet c
  unfolding in_order
  within_sound =
      record {
        ship = λ s e. ship_passed empty s (w.ship s e);
        load = λ l e. load_passed empty l (w.load l e);
        columns = taken_order empty (held c.columns) (record { places = refl; count = omega arith }) refl w.columns;
        total = w.total;
      }
