-- What a field carries serves the limits: no test sees the difference, and a number within its limits is carried as it is.
use mathlib.Core.Path.{◌≡◌, refl, sym, ap, ◌∙◌}
use mathlib.Core.Bool.{Bool, true, false, ◌&&◌}
use mathlib.Core.List.{List, [], ◌∷◌, map}
use Prim.Native.Nat.{ℕ, ◌≤◌, ◌<◌}
use native.Mathlib.Omega.{arith}
use lib.Dec.{leb, ltb}
use borrow.Author.Tests.{lt-leb, leb-true, leb-false, ltb-true}
use Rattle.whole.specs.Lists.{within, all}
use Rattle.whole.proofs.Lists.{and_true, and_false, within_true}
use Rattle.items.specs.Carried.{carried}

-- a number that fits its field is carried as it is; any other is above every limit, and so is 65,535
above : (lo hi v : ℕ) → hi < v → within lo hi v ≡ false
unfolding within
above lo hi v h = rw (lt-leb v hi h) (and_false (leb lo v))

pub kept : (v : ℕ) → v ≤ 65535 → carried v ≡ v
kept v h = omega arith

pub same_within : (lo hi v : ℕ) → hi < 65535 → within lo hi (carried v) ≡ within lo hi v
same_within lo hi v h = by (leb v 65535) refl
  where
    by : (x : Bool) → leb v 65535 ≡ x → within lo hi (carried v) ≡ within lo hi v
    by true e = ap (within lo hi) (kept v (leb-true v 65535 e))
    by false e =
        let k = leb-false v 65535 e in
        above lo hi (carried v) (omega arith) ∙ sym (above lo hi v (omega arith))

pub kept_within : (lo hi v : ℕ) → hi < 65535 → within lo hi v ≡ true → carried v ≡ v
kept_within lo hi v h e = kept v (omega (arith, (within_true lo hi v e).high))

-- the same with a condition that computes, so that each use sees for itself that its limit is below 65,535; and the last of a
-- row of tests, with what the tests before it say
pub same_test : (lo hi v : ℕ) → ltb hi 65535 ≡ true → within lo hi (carried v) ≡ within lo hi v
same_test lo hi v h = same_within lo hi v (ltb-true hi 65535 h)

pub kept_last : (b : Bool) (lo hi v : ℕ) → ltb hi 65535 ≡ true → (b && within lo hi v) ≡ true → (b ≡ true) × (carried v ≡ v)
kept_last b lo hi v h e =
    let t = and_true b (within lo hi v) e in
    (t.0, kept_within lo hi v (ltb-true hi 65535 h) t.1)

-- entries that are tested alike are alike together, and entries that are kept are kept together
module _ {A : Type 0} (f : A → Bool) (g : A → A) where
  pub same_all : ((x : A) → f (g x) ≡ f x) → (l : List A) → all f (map g l) ≡ all f l
  unfolding all
  same_all h [] = refl
  same_all h (x ∷ l) = rw (h x, same_all h l)

  pub kept_more : (x : A) (l : List A) → (f x ≡ true → g x ≡ x) → (all f l ≡ true → map g l ≡ l) → all f (x ∷ l) ≡ true → map g (x ∷ l) ≡ x ∷ l
  unfolding all
  kept_more x l h ih e =
      let t = and_true (f x) (all f l) e in
      rw (h t.0, ih t.1)

  pub kept_all : ((x : A) → f x ≡ true → g x ≡ x) → (l : List A) → all f l ≡ true → map g l ≡ l
  kept_all h [] e = refl
  kept_all h (x ∷ l) e = kept_more x l (h x) (kept_all h l) e
