-- Laws of the columns held, in their places.
use mathlib.Core.Path.{◌≡◌, refl, sym, ◌∙◌, ap}
use mathlib.Core.Bool.{Bool, true, false}
use Prim.Native.Nat.{ℕ, ◌+◌, ◌<◌, min}
use native.Mathlib.Omega.{arith}
use lib.Dec.{leb}
use lib.ListN.{length, get_or, length-take}
use borrow.Author.Tests.{le-leb, lt-leb, leb-true, leb-false}
use lib.Seq.{get_or-take}
use Rattle.whole.proofs.Lists.{get_d_any}
use Rattle.record.proofs.Taken.{past_column}
use Rattle.record.specs.declared.Load.{Load}
use Rattle.record.specs.declared.Columns.{Columns}
use Rattle.record.specs.Held.{held}
use Rattle.record.specs.Filler.{no_column}
use Rattle.columns.proofs.Standing.{Standing, around_at}
use Rattle.condition.specs.declared.Condition.{Condition}
use Rattle.judging.specs.Judge.{Between}

-- two are held where two are counted
two_by : (n m : ℕ) (x : Bool) → leb 2 n ≡ x → m ≡ min n 20 → x ≡ leb 2 m
two_by n m true e l = sym (le-leb 2 m (omega (arith, leb-true 2 n e)))
two_by n m false e l = sym (lt-leb 2 m (omega (arith, leb-false 2 n e)))

pub two_held : (cs : Columns) → length cs.places ≡ 20 → leb 2 cs.count ≡ leb 2 (length (held cs))
two_held cs l = two_by cs.count (length (held cs)) (leb 2 cs.count) refl (length-take cs.count cs.places ∙ ap (min cs.count) l)

-- the two columns around D, in their places
pub record InPlaces (cs : Columns) (i : ℕ) : Type 0 where
  pub below : i + 1 < 20
  pub low : get_or (held cs) i no_column ≡ get_or cs.places i past_column
  pub high : get_or (held cs) (i + 1) no_column ≡ get_or cs.places (i + 1) past_column

in_places : (cs : Columns) (i : ℕ) → length cs.places ≡ 20 → i + 1 < length (held cs) → InPlaces cs i
in_places cs i l h =
    let n = length-take cs.count cs.places in
    record {
      below = omega arith;
      low = get_or-take cs.count cs.places i no_column (omega arith) ∙ get_d_any cs.places i no_column past_column (omega arith);
      high = get_or-take cs.count cs.places (i + 1) no_column (omega arith) ∙ get_d_any cs.places (i + 1) no_column past_column (omega arith);
    }

-- what judge knows of them before it weighs
module _ (c : Condition) (l : Load) (i : ℕ) (b : Between c l i) where
  pub between_standing : Standing l.d (held c.columns) i
  between_standing = around_at l.d (held c.columns) i b.ordered b.around

  pub between_places : InPlaces c.columns i
  between_places = in_places c.columns i b.places between_standing.place

  pub between_below : i + 1 < 20
  between_below = between_places.below
