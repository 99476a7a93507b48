-- The definitions give the figures of a cell that the paper's words ask for.
use mathlib.Core.Path.{◌≡◌, sym, ap, ◌∙◌}
use Prim.Native.Nat.{ℕ, ◌+◌, ◌*◌, ◌-◌, ◌/◌, ◌%◌, ◌≤◌, ◌<◌}
use native.Mathlib.Nat.{lt_of_not-le, le_antisymm, lt_of_mul-lt-mul_right}
use native.Mathlib.Decide.{dec_le}
use native.Mathlib.Omega.{arith}
use lib.ListN.{get_or}
use Rattle.whole.specs.Divide.{ceil_div}
use Rattle.whole.proofs.Dividing.{ceil_low, ceil_high}
use Rattle.record.specs.declared.Cell.{Cell}
use Rattle.record.specs.declared.Cell.TheVariants.{Wing, Hatch, Void}
use Rattle.cells.specs.Depth.{standard_depth, wing_unrounded, wing_depth, cell_depth, cell_area}
use Rattle.cells.specs.Sizes.{most_held}
use Rattle.cells.specs.Figures.{RoundedUp, printed_distances, StandardDepth, WingUnrounded, WingDepth, CellArea, MostHeld}
use Rattle.cells.proofs.Rounding.{whole_mm}
use Rattle.cells.proofs.Depths.{distance_is, below_first, above_last, interpolates}
use Rattle.cells.proofs.Sizes.{most_triangle, most_trapezium, most_taken}

pub rounded_up : (n d : ℕ) → 0 < d → RoundedUp n d (ceil_div n d)
rounded_up n d p = (ceil_low n d p, ceil_high n d p)

-- ---- depths and areas
standard : (x : ℕ) → StandardDepth x (standard_depth x)
standard x =
    record {
      below = λ h. sym (below_first x h);
      between = λ k t h l e. rw e (interpolates k t h l);
      above = λ t e. omega (arith, above_last x (omega arith));
    }

pub unrounded : (dist girder : ℕ) → WingUnrounded dist girder (wing_unrounded dist girder)
unrounded dist girder =
    record {
      standard = standard_depth dist;
      is = standard dist;
      least = omega arith;
      not_below = omega arith;
      not_above = λ h. omega arith;
    }

wing : (dist girder : ℕ) → WingDepth dist girder (wing_depth dist girder)
unfolding wing_depth
wing dist girder =
    let e = wing_unrounded dist girder in
    (e, unrounded dist girder, rounded_up e 50 (omega arith))

pub area_is : (c : Cell) → CellArea c (cell_area c)
unfolding cell_area cell_depth
area_is (Wing w d g l) = (wing_depth d g, wing d g, rounded_up (w * wing_depth d g) 10 (omega arith))
area_is (Hatch w o l) = whole_mm w (o + 150)
area_is (Void w d l) = whole_mm w d

-- ---- what a cell can hold
pub most_is : (w g : ℕ) → MostHeld w g (most_held w g)
most_is w g =
    record {
      low = λ h. let e = most_triangle w g h in (omega arith, omega arith);
      high = λ h. let e = most_trapezium w g h in let t = most_taken w g h in (omega arith, omega arith);
    }

-- ---- and no other figures meet the paper's words
standard_only : (x d : ℕ) → StandardDepth x d → d ≡ standard_depth x
standard_only x d s = by (dec_le 500 x) (dec_le 8000 x)
  where
    by : Dec (500 ≤ x) → Dec (8000 ≤ x) → d ≡ standard_depth x
    by (no f) e = let h : x < 500 = lt_of_not-le f in s.below h ∙ below_first x h
    by (yes f) (yes e) = omega (arith, s.above (x - 8000) (omega arith), above_last x e)
    by (yes f) (no e) =
        let k : x / 500 - 1 < 15 = omega (arith, lt_of_not-le e) in
        let p : x ≡ get_or printed_distances (x / 500 - 1) 0 + x % 500 = omega (arith, distance_is (x / 500 - 1) (omega arith)) in
        s.between (x / 500 - 1) (x % 500) k (omega arith) p ∙ sym (ap standard_depth p ∙ interpolates (x / 500 - 1) (x % 500) k (omega arith))

pub unrounded_only : (dist girder e : ℕ) → WingUnrounded dist girder e → e ≡ wing_unrounded dist girder
unrounded_only dist girder e u = by (dec_le e (500 * 100)) (standard_only dist u.standard u.is)
  where
    by : Dec (e ≤ 500 * 100) → u.standard ≡ standard_depth dist → e ≡ wing_unrounded dist girder
    by (yes l) s = omega (arith, u.least, u.not_below)
    by (no n) s = omega (arith, u.not_below, u.not_above (lt_of_not-le n))

-- rounded up, there is one figure
up_only : (n d m : ℕ) → 0 < d → RoundedUp n d m → m ≡ ceil_div n d
up_only n d m p (low, high) = le_antisymm (below (ceil_div n d) m (omega (arith, ceil_low n d p)) high) (below m (ceil_div n d) low (ceil_high n d p))
  where
    below : (a b : ℕ) → n ≤ d * a → d * b < n + d → b ≤ a
    below a b h k = let s : b < a + 1 = lt_of_mul-lt-mul_right d (omega arith) in omega arith

wing_only : (dist girder depth : ℕ) → WingDepth dist girder depth → depth ≡ wing_depth dist girder
unfolding wing_depth
wing_only dist girder depth (e, u, up) =
    up_only e 50 depth (omega arith) up ∙ ap (λ (n : ℕ). ceil_div n 50) (unrounded_only dist girder e u)

pub area_only : (c : Cell) (a : ℕ) → CellArea c a → a ≡ cell_area c
unfolding cell_area cell_depth
area_only (Wing w d g l) a (depth, is, up) =
    up_only (w * depth) 10 a (omega arith) up ∙ ap (λ (n : ℕ). ceil_div (w * n) 10) (wing_only d g depth is)
area_only (Hatch w o l) a e = e ∙ sym (whole_mm w (o + 150))
area_only (Void w d l) a e = e ∙ sym (whole_mm w d)

pub most_only : (w g m : ℕ) → MostHeld w g m → m ≡ most_held w g
most_only w g m s = by (dec_le (100000 * g) (26795 * w))
  where
    by : Dec (100000 * g ≤ 26795 * w) → m ≡ most_held w g
    by (yes h) = let t = s.low h in omega (arith, t.0, t.1, most_triangle w g h)
    by (no f) =
        let h = lt_of_not-le f in
        let t = s.high h in
        omega (arith, t.0, t.1, most_trapezium w g h, most_taken w g h)
