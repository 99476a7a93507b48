-- Judge on a condition whose records are within their limits: with a ship, two columns, a load and D between the first and the last
-- column it comes to the columns around D.
use mathlib.Core.Path.{◌≡◌, refl}
use mathlib.Core.Bool.{true}
use Rattle.record.specs.declared.Ship.{Ship}
use Rattle.record.specs.declared.Load.{Load}
use mathlib.Core.List.{List, [], ◌∷◌}
use Prim.Native.Nat.{ℕ, ◌+◌, ◌≤◌, ◌<◌}
use native.Mathlib.Omega.{arith}
use native.Mathlib.Numerals.{add-one}
use lib.ListN.{length, get_or}
use borrow.Author.Tests.{le-leb, lt-ltb}
use Rattle.record.specs.declared.Column.{Column}
use Rattle.record.specs.Filler.{no_column}
use Rattle.limits.specs.Limits.{ship_limits, load_limits, column_limits}
use Rattle.limits.proofs.Ranges.{ship_range, load_range, column_range}
use Rattle.record.specs.Held.{held, last_d}
use Rattle.columns.specs.Columns.{in_order}
use Rattle.std.specs.Prelude.{Option, Some, None}
use Rattle.columns.specs.Search.{columns_around}
use Rattle.columns.proofs.Standing.{between_found}
use Rattle.condition.specs.declared.Condition.{Condition}
use Rattle.total.specs.Total.{weight}
use Rattle.judging.specs.Judge.{judged_at, judged_of}
use Rattle.judging.specs.Complete.{InRanges, Ready}

-- ---- of two columns or more, with D between the first and the last, two neighbours stand around it
some_place : (d : ℕ) (ks : List Column) (x : Option ℕ) → 2 ≤ length ks → (get_or ks 0 no_column).d ≤ d → d ≤ last_d ks → columns_around d ks ≡ x → (i : ℕ) × (columns_around d ks ≡ Some i)
some_place d [] x n f l e = absurd (omega arith)
some_place d (a ∷ []) x n f l e = absurd (omega arith)
some_place d (a ∷ b ∷ ks) (Some i) n f l e = (i, e)
some_place d (a ∷ b ∷ ks) None n f l e = absurd (between_found d a b ks f l e)

-- ---- columns in their ranges, each D above the one before
in_order_lem : (ks : List Column) → ((i : ℕ) → i < length ks → column_limits (get_or ks i no_column) ≡ true) → ((i : ℕ) → i + 1 < length ks → (get_or ks i no_column).d < (get_or ks (i + 1) no_column).d) → in_order ks ≡ true
unfolding in_order
in_order_lem [] l r = refl
in_order_lem (a ∷ []) l r = l 0 (omega arith)
in_order_lem (a ∷ b ∷ ks) l r =
    let more = in_order_lem (b ∷ ks) (λ i h. rw add-one at (l (i + 1) (omega arith))) (λ i h. rw add-one (rw (add-one, add-one) at (r (i + 1) (omega arith)))) in
    rw (l 0 (omega arith), lt-ltb a.d b.d (r 0 (omega arith)), more)

-- ---- a condition whose records are within their limits
pub record LimitsMet (c : Condition) : Type 0 where
  pub ship : (s : Ship) → c.ship ≡ Some s → ship_limits s ≡ true
  pub load : (l : Load) → c.load ≡ Some l → load_limits l ≡ true
  pub columns : in_order (held c.columns) ≡ true
  pub total : c.total ≡ weight c

pub ranges_sound : (c : Condition) → InRanges c → LimitsMet c
ranges_sound c r =
    let ks = held c.columns in
    record {
      ship = λ s e. (ship_range s).1 (r.ship s e);
      load = λ l e. (load_range l).1 (r.load l e);
      columns = in_order_lem ks (λ i h. (column_range (get_or ks i no_column)).1 (r.columns i h)) r.rising;
      total = r.total;
    }

-- judge comes to the columns around D
module _ (c : Condition) (w : LimitsMet c) (r : Ready c) where
  pub ready_around : (i : ℕ) × (columns_around r.load.d (held c.columns) ≡ Some i)
  ready_around = some_place r.load.d (held c.columns) _ r.columns r.from_first r.to_last refl

  pub ready_judged : judged_of c ≡ judged_at c r.ship r.load (columns_around r.load.d (held c.columns))
  unfolding judged_of
  ready_judged =
      rw (r.shipped, w.ship r.ship r.shipped, le-leb 2 (length (held c.columns)) r.columns, w.columns, r.loaded, w.load r.load r.loaded)
