-- Laws of a column that is taken, and of the places of the holds.
use mathlib.Core.Path.{◌≡◌, refl}
use mathlib.Core.Bool.{Bool, true, false, cond, not}
use mathlib.Core.List.{List}
use Prim.Native.Nat.{ℕ, ◌-◌, ◌≤◌, ◌<◌}
use native.Mathlib.Omega.{arith}
use lib.Dec.{leb}
use lib.ListN.{length, get_or}
use borrow.Author.Tests.{leb-false}
use Rattle.whole.proofs.Lists.{within_true, get_d_any}
use Rattle.record.specs.declared.Column.{Column}
use Rattle.record.specs.declared.Hold.{Hold}
use Rattle.record.specs.Filler.{no_hold}
use Rattle.record.proofs.Taken.{past_hold}
use Rattle.limits.specs.Limits.{column_limits, place_limits}
use Rattle.std.specs.Prelude.{Result, Ok, Err}
use Rattle.columns.specs.declared.NotAdded.{NotAdded}
use Rattle.columns.specs.declared.NotAdded.TheVariants.{Limits, Full, NotAbove}
use Rattle.columns.specs.Columns.{is_above, column_answer}

-- what the answer 00 says of the three tests of a column: of its limits, of twenty held, of its D
abbrev Says : (inside full above : Bool) → Result (Unit {0}) NotAdded → Type 0
Says x y z (Ok done) = (x ≡ true) × (y ≡ false) × (z ≡ true)
Says x y z (Err why) = Unit {0}

says : (x y z : Bool) → Says x y z (cond (not x) (Err Limits) (cond y (Err Full) (cond z (Ok tt) (Err NotAbove))))
says true true z = tt
says true false true = (refl, refl, refl)
says true false false = tt
says false y z = tt

module _ (ks : List Column) (k : Column) where
  pub record ColumnPassed : Type 0 where
    pub limits : column_limits k ≡ true
    pub below : length ks < 20
    pub above : is_above k.d ks ≡ true

  answer_says : (a : Result (Unit {0}) NotAdded) → column_answer ks k ≡ a → Says (column_limits k) (leb 20 (length ks)) (is_above k.d ks) a
  unfolding column_answer
  answer_says a e = rw e at (says (column_limits k) (leb 20 (length ks)) (is_above k.d ks))

  pub taken_is : column_answer ks k ≡ Ok tt → ColumnPassed
  taken_is e = let t = answer_says (Ok tt) e in record { limits = t.0; below = leb-false 20 (length ks) t.1; above = t.2 }

pub place_within : (n : ℕ) → place_limits n ≡ true → (1 ≤ n) × (n ≤ 16)
place_within n e =
    let w = within_true 1 16 n e in (w.low, w.high)

-- hold n, by its place
pub place_any : (hs : List Hold) (n : ℕ) → length hs ≡ 16 → (1 ≤ n) × (n ≤ 16) → get_or hs (n - 1) no_hold ≡ get_or hs (n - 1) past_hold
place_any hs n l w = get_d_any hs (n - 1) no_hold past_hold (omega (arith, w.0, w.1))
