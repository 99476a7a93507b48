-- Of two or more columns in their order, a displacement is outside all pairs exactly where it lies below the first or above the last; and
-- the two columns at a place found stand around it.
use mathlib.Core.Path.{◌≡◌, refl, sym, ap, subst, ◌∙◌}
use mathlib.Core.Bool.{Bool, true, false, ◌&&◌}
use mathlib.Core.List.{List, [], ◌∷◌}
use Prim.Native.Nat.{ℕ, suc, ◌+◌, ◌-◌, ◌≤◌, ◌<◌}
use native.Mathlib.Omega.{arith}
use native.Mathlib.Nat.{le_of_lt, lt_of_not-le}
use native.Mathlib.Decide.{dec_le}
use lib.Dec.{leb, ltb}
use lib.ListN.{length, get_or}
use borrow.Author.Tests.{le-leb, lt-leb, leb-true, ltb-true}
use Rattle.whole.proofs.Lists.{and_true}
use Rattle.record.specs.declared.Column.{Column}
use Rattle.record.specs.Held.{last_d}
use Rattle.record.specs.Filler.{no_column}
use Rattle.limits.specs.Limits.{column_limits}
use Rattle.std.specs.Prelude.{Option, Some, None}
use Rattle.columns.specs.Columns.{in_order}
use Rattle.columns.specs.Search.{next, columns_around}

last_more : (a b : Column) (ks : List Column) → last_d (a ∷ b ∷ ks) ≡ last_d (b ∷ ks)
last_more a b ks = ap (λ n. (get_or (a ∷ b ∷ ks) n no_column).d) (less (length ks))
  where
    less : (n : ℕ) → suc (suc n) - 1 ≡ suc (suc n - 1)
    less n = omega arith

rising : (a b : Column) (ks : List Column) → in_order (a ∷ b ∷ ks) ≡ true → (a.d < b.d) × (in_order (b ∷ ks) ≡ true)
unfolding in_order
rising a b ks e =
    let t = and_true (column_limits a && ltb a.d b.d) (in_order (b ∷ ks)) e in
    (ltb-true a.d b.d (and_true (column_limits a) (ltb a.d b.d) t.0).1, t.1)

first_le : (a : Column) (ks : List Column) → in_order (a ∷ ks) ≡ true → a.d ≤ last_d (a ∷ ks)
first_le a [] e = omega arith
first_le a (b ∷ ks) e =
    let t = rising a b ks e in
    omega (arith, t.0, first_le b ks t.1, last_more a b ks)

next_outside : (x : Option ℕ) → next x ≡ None → x ≡ None
next_outside (Some i) e =
    let z : ◌≡◌ {A = ℕ} 0 1 = cc in absurd (omega arith)
next_outside None e = refl

-- inside the first pair; or what the rest answers
module _ (d : ℕ) (a b : Column) (ks : List Column) where
  skipped : (leb a.d d && leb d b.d) ≡ false → columns_around d (a ∷ b ∷ ks) ≡ next (columns_around d (b ∷ ks))
  unfolding columns_around
  skipped e = rw e refl

  found : (leb a.d d && leb d b.d) ≡ true → columns_around d (a ∷ b ∷ ks) ≡ Some 0
  unfolding columns_around
  found e = rw e refl

  -- not in the first pair, though not below it: beyond it, and outside the rest
  apart : a.d ≤ d → columns_around d (a ∷ b ∷ ks) ≡ None → (b.d < d) × (columns_around d (b ∷ ks) ≡ None)
  apart f o = go (dec_le d b.d)
    where
      clash : ◌≡◌ {A = Option ℕ} (Some 0) None → ⊥
      clash z = let y : ◌≡◌ {A = ℕ} 0 1 = cc in omega arith

      go : Dec (d ≤ b.d) → (b.d < d) × (columns_around d (b ∷ ks) ≡ None)
      go (yes h) = absurd (clash (sym (found (rw (le-leb a.d d f, le-leb d b.d h) refl)) ∙ o))
      go (no h) =
          let w : b.d < d = lt_of_not-le h in
          (w, next_outside _ (sym (skipped (rw (le-leb a.d d f, lt-leb d b.d w) refl)) ∙ o))

pub below_outside : (d : ℕ) (a : Column) (ks : List Column) → in_order (a ∷ ks) ≡ true → d < a.d → columns_around d (a ∷ ks) ≡ None
unfolding columns_around
below_outside d a [] e h = refl
below_outside d a (b ∷ ks) e h =
    let t = rising a b ks e in
    rw (lt-leb a.d d h) (ap next (below_outside d b ks t.1 (omega (arith, t.0))))

pub above_outside : (d : ℕ) (a : Column) (ks : List Column) → in_order (a ∷ ks) ≡ true → last_d (a ∷ ks) < d → columns_around d (a ∷ ks) ≡ None
unfolding columns_around
above_outside d a [] e h = refl
above_outside d a (b ∷ ks) e h =
    let t = rising a b ks e in
    let l : last_d (b ∷ ks) < d = omega (arith, last_more a b ks) in
    let m : b.d < d = omega (arith, first_le b ks t.1) in
    rw (le-leb a.d d (omega (arith, t.0)), lt-leb d b.d m) (ap next (above_outside d b ks t.1 l))

pub between_found : (d : ℕ) (a b : Column) (ks : List Column) → a.d ≤ d → d ≤ last_d (a ∷ b ∷ ks) → columns_around d (a ∷ b ∷ ks) ≡ None → ⊥
between_found d a b [] f t o = omega (arith, (apart d a b [] f o).0, last_more a b [])
between_found d a b (c ∷ ks) f t o =
    let p = apart d a b (c ∷ ks) f o in
    between_found d b c ks (le_of_lt p.0) (omega (arith, last_more a b (c ∷ ks))) p.1

-- ---- what a place found says: the two columns there stand around D
moved_at : (x : Option ℕ) (i : ℕ) → next x ≡ Some i → (j : ℕ) × (i ≡ suc j) × (x ≡ Some j)
moved_at (Some j) i e = (j, cc, refl)
moved_at None i e =
    let z : ◌≡◌ {A = ℕ} 0 1 = cc in absurd (omega arith)

pub record Standing (d : ℕ) (ks : List Column) (i : ℕ) : Type 0 where
  pub place : i + 1 < length ks
  pub low : (get_or ks i no_column).d ≤ d
  pub high : d ≤ (get_or ks (i + 1) no_column).d
  pub low_limits : column_limits (get_or ks i no_column) ≡ true
  pub high_limits : column_limits (get_or ks (i + 1) no_column) ≡ true
  pub apart : (get_or ks i no_column).d < (get_or ks (i + 1) no_column).d

one_more : (d : ℕ) (a : Column) (ks : List Column) (j : ℕ) → Standing d ks j → Standing d (a ∷ ks) (suc j)
one_more d a ks j r =
    let q : suc j + 1 ≡ suc (j + 1) = omega arith in
    record {
      place = omega (arith, r.place);
      low = r.low;
      high = rw q r.high;
      low_limits = r.low_limits;
      high_limits = rw q r.high_limits;
      apart = rw q r.apart;
    }

limits_first : (a : Column) (ks : List Column) → in_order (a ∷ ks) ≡ true → column_limits a ≡ true
unfolding in_order
limits_first a [] e = e
limits_first a (b ∷ ks) e =
    (and_true (column_limits a) (ltb a.d b.d) (and_true (column_limits a && ltb a.d b.d) (in_order (b ∷ ks)) e).0).0

pub around_at : (d : ℕ) (ks : List Column) (i : ℕ) → in_order ks ≡ true → columns_around d ks ≡ Some i → Standing d ks i
unfolding columns_around
around_at d [] i o e =
    let z : ◌≡◌ {A = ℕ} 0 1 = cc in absurd (omega arith)
around_at d (a ∷ []) i o e =
    let z : ◌≡◌ {A = ℕ} 0 1 = cc in absurd (omega arith)
around_at d (a ∷ b ∷ ks) i o e =
    go (leb a.d d && leb d b.d) refl (λ j f. around_at d (b ∷ ks) j (rising a b ks o).1 f)
  where
    go : (t : Bool) → (leb a.d d && leb d b.d) ≡ t → ((j : ℕ) → columns_around d (b ∷ ks) ≡ Some j → Standing d (b ∷ ks) j) → Standing d (a ∷ b ∷ ks) i
    go true f more =
        let z : ◌≡◌ {A = Option ℕ} (Some 0) (Some i) = sym (found d a b ks f) ∙ e in
        let q : 0 ≡ i = cc in
        let t = and_true (leb a.d d) (leb d b.d) f in
        let r = rising a b ks o in
        subst (λ (n : ℕ). Standing d (a ∷ b ∷ ks) n) q
        (record {
          place = omega arith;
          low = leb-true a.d d t.0;
          high = leb-true d b.d t.1;
          low_limits = limits_first a (b ∷ ks) o;
          high_limits = limits_first b ks r.1;
          apart = r.0;
        })
    go false f more =
        let m = moved_at (columns_around d (b ∷ ks)) i (sym (skipped d a b ks f) ∙ e) in
        subst (λ (n : ℕ). Standing d (a ∷ b ∷ ks) n) (sym m.1) (one_more d a (b ∷ ks) m.0 (more m.0 m.2))
