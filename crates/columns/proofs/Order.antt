-- Columns within their limits, each below the one behind it, are in their order.
use mathlib.Core.Path.{◌≡◌, refl, sym, ◌∙◌}
use mathlib.Core.Bool.{Bool, true, false, ◌&&◌}
use mathlib.Core.List.{List, [], ◌∷◌}
use Prim.Native.Nat.{ℕ, zero, suc, ◌+◌, ◌<◌}
use native.Mathlib.Omega.{arith}
use lib.Dec.{ltb}
use lib.ListN.{length}
use Rattle.std.specs.List.{list_all}
use Rattle.whole.proofs.Lists.{and_true}
use Rattle.record.specs.declared.Column.{Column}
use Rattle.limits.specs.Limits.{column_limits}
use Rattle.columns.specs.Columns.{in_order, rises, Rising}

-- behind the first column the places are one less
beyond : (a : Column) (ks : List Column) (i : ℕ) → rises (a ∷ ks) (suc i) ≡ rises ks i
beyond a ks i =
    let q : suc i + 1 ≡ suc (i + 1) = omega arith in rw q refl

-- what two columns at the front say
module _ (a b : Column) (ks : List Column) where
  apart : in_order (a ∷ b ∷ ks) ≡ true → (column_limits a ≡ true) × (ltb a.d b.d ≡ true) × (in_order (b ∷ ks) ≡ true)
  unfolding in_order
  apart e =
      let t = and_true (column_limits a && ltb a.d b.d) (in_order (b ∷ ks)) e in
      let u = and_true (column_limits a) (ltb a.d b.d) t.0 in
      (u.0, u.1, t.1)

  together : column_limits a ≡ true → ltb a.d b.d ≡ true → in_order (b ∷ ks) ≡ true → in_order (a ∷ b ∷ ks) ≡ true
  unfolding in_order
  together l u e = rw (l, u, e) refl

-- columns in their order are within their limits, and each is below the one behind it
each_within : (ks : List Column) → in_order ks ≡ true → list_all column_limits ks ≡ true
unfolding in_order
each_within [] e = refl
each_within (a ∷ []) e = rw e refl
each_within (a ∷ b ∷ ks) e =
    let t = apart a b ks e in rw (t.0, each_within (b ∷ ks) t.2) refl

each_rises : (ks : List Column) → in_order ks ≡ true → (i : ℕ) → i + 1 < length ks → rises ks i ≡ true
each_rises [] e i h = absurd (omega arith)
each_rises (a ∷ []) e i h = absurd (omega arith)
each_rises (a ∷ b ∷ ks) e zero h = (apart a b ks e).1
each_rises (a ∷ b ∷ ks) e (suc i) h =
    beyond a (b ∷ ks) i ∙ each_rises (b ∷ ks) (apart a b ks e).2 i (omega arith)

-- and the other way
all_rising : (ks : List Column) → list_all column_limits ks ≡ true → ((i : ℕ) → i + 1 < length ks → rises ks i ≡ true) → in_order ks ≡ true
unfolding in_order
all_rising [] e f = refl
all_rising (a ∷ []) e f = (and_true (column_limits a) true e).0
all_rising (a ∷ b ∷ ks) e f =
    let t = and_true (column_limits a) (list_all column_limits (b ∷ ks)) e in
    together a b ks t.0 (f 0 (omega arith)) (all_rising (b ∷ ks) t.1 (λ i h. sym (beyond a (b ∷ ks) i) ∙ f (suc i) (omega arith)))

-- a test that would be true only with one that is not
refused : (t : Bool) → (t ≡ true → false ≡ true) → false ≡ t
refused true f = f refl
refused false f = refl

pub order_limits : (ks : List Column) → list_all column_limits ks ≡ false → false ≡ in_order ks
order_limits ks e = refused (in_order ks) (λ o. sym e ∙ each_within ks o)

pub order_rising : (ks : List Column) (r : Bool) → list_all column_limits ks ≡ true → Rising ks r → r ≡ in_order ks
order_rising ks true e f = sym (all_rising ks e (f.0 refl))
order_rising ks false e f = refused (in_order ks) (λ o. f.1 (each_rises ks o))
