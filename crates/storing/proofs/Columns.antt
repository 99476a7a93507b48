-- Columns in their twenty places, and one more of them.
use mathlib.Core.Path.{◌≡◌, refl, sym, ◌∙◌, ap}
use mathlib.Core.Bool.{Bool, true, false}
use mathlib.Core.List.{[], ◌∷◌, ◌++◌}
use Prim.Native.Nat.{ℕ, ◌≤◌, ◌<◌, min}
use native.Mathlib.Omega.{arith}
use native.Mathlib.Numerals.{add-one}
use lib.Dec.{leb}
use lib.ListN.{length, length-set, length-take}
use borrow.Author.Tests.{lt-leb, le-leb, leb-true, leb-false}
use lib.Seq.{length-take-le, take-suc-set}
use Rattle.record.specs.declared.Column.{Column}
use Rattle.record.specs.declared.Columns.{Columns}
use Rattle.record.specs.Held.{held}
use Rattle.std.specs.Prelude.{Ok}
use Rattle.columns.specs.Columns.{column_answer, with_column}
use Rattle.storing.proofs.Taking.{taken_is}

pub record Fitting (cs : Columns) : Type 0 where
  pub places : length cs.places ≡ 20
  pub count : cs.count ≤ 20

pub held_length : (cs : Columns) → Fitting cs → length (held cs) ≡ cs.count
held_length cs f = length-take-le cs.count cs.places (omega (arith, f.places, f.count))

-- twenty are held where twenty are counted
full_by : (n m : ℕ) (x : Bool) → leb 20 n ≡ x → m ≡ min n 20 → x ≡ leb 20 m
full_by n m true e l = sym (le-leb 20 m (omega (arith, leb-true 20 n e)))
full_by n m false e l = sym (lt-leb 20 m (omega (arith, leb-false 20 n e)))

pub full_held : (cs : Columns) → length cs.places ≡ 20 → leb 20 cs.count ≡ leb 20 (length (held cs))
full_held cs l = full_by cs.count (length (held cs)) (leb 20 cs.count) refl (length-take cs.count cs.places ∙ ap (min cs.count) l)

module _ (cs : Columns) (k : Column) (f : Fitting cs) (e : column_answer (held cs) k ≡ Ok tt) where
  pub below_twenty : cs.count < 20
  below_twenty = omega (arith, (taken_is (held cs) k e).below, held_length cs f)

  pub fitting_more : Fitting (with_column cs k)
  fitting_more = record { places = length-set cs.places cs.count k ∙ f.places; count = omega (arith, below_twenty) }

  pub held_more : held (with_column cs k) ≡ held cs ++ (k ∷ [])
  held_more = rw add-one (take-suc-set cs.places cs.count k (omega (arith, below_twenty, f.places)))
