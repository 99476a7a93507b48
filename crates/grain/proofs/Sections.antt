-- Laws of bases, of first moments and of kept areas.
use mathlib.Core.Path.{◌≡◌, refl, ap}
use mathlib.Core.Bool.{true, ◌&&◌}
use mathlib.Core.List.{List, [], ◌∷◌}
use Prim.Native.Nat.{ℕ, suc, ◌+◌, ◌*◌, ◌-◌, ◌/◌, ◌≤◌, ◌<◌, min}
use native.Mathlib.Omega.{arith}
use native.Mathlib.Nat.{mul-le-mul_left, le_of_lt, lt_of_not-le}
use native.Mathlib.Decide.{dec_le}
use lib.ListN.{length}
use borrow.Author.Tests.{le-leb, lt-leb}
use Rattle.whole.specs.Root.{IsRoot}
use Rattle.whole.specs.Lists.{within, all, sum_of}
use Rattle.whole.proofs.Lists.{and_true, within_true}
use Rattle.whole.proofs.Roots.{root_is, root_less}
use Rattle.record.specs.declared.Cell.{Cell}
use Rattle.record.specs.declared.Cell.TheVariants.{Wing, Hatch, Void}
use Rattle.record.specs.Held.{cell_width}
use Rattle.limits.specs.Limits.{cell_limits}
use Rattle.cells.specs.Depth.{cell_depth, cell_area}
use Rattle.cells.specs.Sizes.{cell_most}
use Rattle.cells.proofs.Sizes.{wing_le, area_le}
use Rattle.grain.specs.Section.{kept, kept_from, base, trapezium, first_moment, high_moment, old_twice}

-- ---- the two cases of a first moment
module _ (w a : ℕ) where
  pub first_triangle : 200000 * a ≤ 26795 * (w * w) → a * base a / 3 ≡ first_moment (kept w a)
  unfolding first_moment
  first_triangle h = rw (le-leb (200000 * a) (26795 * (w * w)) h) refl

  pub first_trapezium : 26795 * (w * w) < 200000 * a → trapezium (kept w a) / 1200000 ≡ first_moment (kept w a)
  unfolding first_moment
  first_trapezium h = rw (lt-leb (200000 * a) (26795 * (w * w)) h) refl

  pub trapezium_taken : 26795 * (w * w) < 200000 * a → 26795 * (w * (w * w)) ≤ 600000 * (a * w)
  trapezium_taken h = omega (arith, mul-le-mul_left w (le_of_lt h))

-- ---- bases, of areas for which the root is one
module _ (a : ℕ) (small : a ≤ 200000000) where
  pub base_is : IsRoot (200000 * a / 26795) (base a)
  base_is = root_is (200000 * a / 26795) (omega arith)

  pub base_small : base a < 40000
  base_small = root_less (base a) 40000 (omega (arith, base_is.low))

  -- a triangle's base lies within its cell
  pub base_within : (w : ℕ) → 200000 * a ≤ 26795 * (w * w) → base a ≤ w
  base_within w h = omega (arith, root_less (base a) (w + 1) (omega (arith, base_is.low)))

-- ---- a first moment is at most half of area × width: the kept area lies in the upper half of its cell
pub first_half : (w a : ℕ) → a ≤ 200000000 → 2 * first_moment (kept w a) ≤ a * w
first_half w a small = go (dec_le (200000 * a) (26795 * (w * w)))
  where
    go : Dec (200000 * a ≤ 26795 * (w * w)) → 2 * first_moment (kept w a) ≤ a * w
    go (yes h) = omega (arith, first_triangle w a h, mul-le-mul_left a (base_within a small w h))
    go (no f) = omega (arith, first_trapezium w a (lt_of_not-le f))

-- ---- areas within their limits
pub record CellBounds (c : Cell) : Type 0 where
  pub width : cell_width c ≤ 40000
  pub area : cell_area c ≤ 5000 * cell_width c

pub cell_bounds : (c : Cell) → cell_limits c ≡ true → CellBounds c
unfolding cell_limits cell_depth
cell_bounds (Wing w d g l) e =
    let wdg = (and_true (within 1 40000 w && within 0 20000 d && within 0 3000 g) (within 0 10000 l) e).0 in
    let wd = and_true (within 1 40000 w && within 0 20000 d) (within 0 3000 g) wdg in
    let t = and_true (within 1 40000 w) (within 0 20000 d) wd.0 in
    record {
      width = (within_true 1 40000 w t.0).high;
      area = area_le (Wing w d g l) (omega (arith, wing_le d g (within_true 0 20000 d t.1).high (within_true 0 3000 g wd.1).high));
    }
cell_bounds (Hatch w o l) e =
    let t = and_true (within 1 40000 w) (within 0 3000 o) (and_true (within 1 40000 w && within 0 3000 o) (within 0 10000 l) e).0 in
    record {
      width = (within_true 1 40000 w t.0).high;
      area = area_le (Hatch w o l) (omega (arith, (within_true 0 3000 o t.1).high));
    }
cell_bounds (Void w d l) e =
    let t = and_true (within 1 40000 w) (within 0 5000 d) (and_true (within 1 40000 w && within 0 5000 d) (within 0 10000 l) e).0 in
    record {
      width = (within_true 1 40000 w t.0).high;
      area = area_le (Void w d l) (omega (arith, (within_true 0 5000 d t.1).high));
    }

-- the void area of a section within its limits
pub areas_le : (cs : List Cell) → all cell_limits cs ≡ true → sum_of cell_area cs ≤ 5000 * sum_of cell_width cs
unfolding all sum_of
areas_le [] e = omega arith
areas_le (c ∷ cs) e =
    let t = and_true (cell_limits c) (all cell_limits cs) e in
    omega (arith, (cell_bounds c t.0).area, areas_le cs t.1)

-- ---- kept areas, one cell at a time
pub kept_last : (e : ℕ) (c : Cell) → kept_from e (c ∷ []) ≡ kept (cell_width c) (cell_area c + e) ∷ []
unfolding kept_from
kept_last e c = refl

pub kept_inner : (e : ℕ) (c d : Cell) (cs : List Cell) → kept_from e (c ∷ d ∷ cs) ≡ kept (cell_width c) (min (cell_area c) (cell_most c)) ∷ kept_from (e + (cell_area c - cell_most c)) (d ∷ cs)
unfolding kept_from
kept_inner e c d cs = refl

-- kept areas add up to the areas before
pub kept_sum : (e : ℕ) (c : Cell) (cs : List Cell) → sum_of (λ k. k.area) (kept_from e (c ∷ cs)) ≡ e + sum_of cell_area (c ∷ cs)
unfolding sum_of kept_from
kept_sum e c [] = omega arith
kept_sum e c (d ∷ cs) = omega (arith, kept_sum (e + (cell_area c - cell_most c)) d cs)

-- one kept area for each cell
pub kept_length : (e : ℕ) (cs : List Cell) → length (kept_from e cs) ≡ length cs
unfolding kept_from
kept_length e [] = refl
kept_length e (c ∷ []) = refl
kept_length e (c ∷ d ∷ cs) = ap suc (kept_length (e + (cell_area c - cell_most c)) (d ∷ cs))

-- ---- the section moment is never negative: what is kept lies in the upper half of its cell, and what moves on moves up
one_cell : (A e a x w F : ℕ) → a ≡ A + e → 2 * F ≤ a * w → 2 * (F + 0) + (A * (2 * x + w) + 0) + 2 * (e * x) ≤ 2 * (a * (x + w) + 0)
one_cell A e a x w F p h = rw p (omega (arith, rw p at h))

one_more : (A a r e x w F S O H : ℕ) → A ≡ a + r → 2 * F ≤ a * w → 2 * S + O + 2 * ((e + r) * (x + w)) ≤ 2 * H → 2 * (F + S) + (A * (2 * x + w) + O) + 2 * (e * x) ≤ 2 * (a * (x + w) + H)
one_more A a r e x w F S O H p h k = rw p (omega arith)

pub never_negative : (x e : ℕ) (c : Cell) (cs : List Cell) → e + sum_of cell_area (c ∷ cs) ≤ 200000000 → 2 * sum_of first_moment (kept_from e (c ∷ cs)) + old_twice x (c ∷ cs) + 2 * (e * x) ≤ 2 * high_moment x (kept_from e (c ∷ cs))
unfolding sum_of kept_from old_twice high_moment
never_negative x e c [] h =
    one_cell (cell_area c) e (cell_area c + e) x (cell_width c) (first_moment (kept (cell_width c) (cell_area c + e))) refl
    (first_half (cell_width c) (cell_area c + e) (omega arith))
never_negative x e c (d ∷ cs) h =
    one_more (cell_area c) (min (cell_area c) (cell_most c)) (cell_area c - cell_most c) e x (cell_width c) _ _ _ _ (omega arith)
    (first_half (cell_width c) (min (cell_area c) (cell_most c)) (omega arith))
    (never_negative (x + cell_width c) (e + (cell_area c - cell_most c)) d cs (omega arith))
