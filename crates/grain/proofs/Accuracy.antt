-- Demand 2: a trimmed section's moment is never below the exact value, and exceeds it by less than a third of its void area plus
-- its number of cells plus one.
use mathlib.Core.Path.{◌≡◌, ap}
use mathlib.Core.Bool.{cond}
use mathlib.Core.List.{List, [], ◌∷◌}
use Prim.Native.Nat.{ℕ, suc, ◌+◌, ◌*◌, ◌-◌, ◌/◌, ◌≤◌, ◌<◌}
use native.Mathlib.Omega.{arith}
use native.Mathlib.Nat.{mul-le-mul, mul-le-mul_left, mul-lt-mul_of_pos_left, lt_of_not-le, div-mul-le_self, lt-div-mul-add, mul-pos, div-lt_iff_lt-mul}
use native.Mathlib.Decide.{dec_le}
use lib.Dec.{leb}
use lib.ListN.{length, get_or}
use borrow.Author.Tests.{le-leb, lt-leb}
use Rattle.whole.specs.Root.{IsRoot, RootAt}
use Rattle.whole.proofs.Roots.{Rooted, every_root}
use Rattle.whole.specs.Lists.{sum_of}
use Rattle.record.specs.declared.Cell.{Cell}
use Rattle.record.specs.Held.{cell_width}
use Rattle.cells.specs.Depth.{cell_area}
use Rattle.grain.specs.Section.{Kept, kept, kept_of, base, trapezium, first_moment, high_moment, old_twice, section_moment}
use Rattle.grain.specs.Within.{SectionWithin}
use Rattle.grain.specs.Figures.{total, cell, FirstMoment}
use Rattle.grain.proofs.Sections.{first_triangle, first_trapezium, trapezium_taken, base_is, areas_le, kept_sum, kept_length}
use Rattle.grain.proofs.Walks.{section_not_negative}
use Rattle.grain.proofs.Totals.{kept_at, width_at}

-- ---- the whole base r, and the whole part s of k × base
abbrev pub Base : (area k r : ℕ) → Type 0
Base area k r = RootAt (200000 * area) 26795 k r

pub base_one : (a r : ℕ) → IsRoot (200000 * a / 26795) r → Base a 1 r
base_one a r h = record { low = omega (arith, h.low); high = omega (arith, h.high) }

module _ (a k r s : ℕ) (pk : 0 < k) (b : Base a 1 r) (c : Base a k s) where
  scale_low : k * r ≤ s
  scale_low = either (dec_le (k * r) s)
    where
      clash : s + 1 ≤ k * r → ⊥
      clash h = omega (arith, mul-le-mul h h, mul-le-mul_left (k * k) b.low, c.high)

      either : Dec (k * r ≤ s) → k * r ≤ s
      either (yes h) = h
      either (no f) = absurd (clash (omega (arith, lt_of_not-le f)))

  scale_high : s < k * (r + 1)
  scale_high = either (dec_le (s + 1) (k * (r + 1)))
    where
      clash : k * (r + 1) ≤ s → ⊥
      clash h = omega (arith, mul-le-mul h h, mul-lt-mul_of_pos_left b.high (mul-pos pk pk), c.low)

      either : Dec (s + 1 ≤ k * (r + 1)) → s < k * (r + 1)
      either (yes h) = omega arith
      either (no f) = absurd (clash (omega (arith, lt_of_not-le f)))

-- ---- one kept area: its rounded first moment f, and the ends lo and hi of the exact one, over 1,200,000 × k
record Bracket (k a f lo hi : ℕ) : Type 0 where
  low : 1200000 * (k * f) ≤ lo
  high : hi ≤ 1200000 * (k * (f + 1)) + 400000 * (k * a)

triangle : (a k r s : ℕ) → 0 < k → Base a 1 r → Base a k s → Bracket k a (a * r / 3) (400000 * (a * s)) (400000 * (a * (s + 1)))
triangle a k r s pk b c =
    record {
      low = omega (arith, mul-le-mul_left k three, mul-le-mul_left a (scale_low a k r s pk b c));
      high = omega (arith, mul-le-mul_left k three', mul-le-mul_left a (scale_high a k r s pk b c));
    }
  where
    three : a * r / 3 * 3 ≤ a * r
    three = div-mul-le_self (a * r) 3

    three' : a * r + 1 ≤ a * r / 3 * 3 + 3
    three' = omega (arith, lt-div-mul-add {a = a * r} {b = 3} (omega arith))

flat : (a k x : ℕ) → 0 < k → Bracket k a (x / 1200000) (k * x) (k * x)
flat a k x pk =
    record {
      low = omega (arith, mul-le-mul_left k (div-mul-le_self x 1200000));
      high = omega (arith, mul-lt-mul_of_pos_left (lt-div-mul-add {a = x} {b = 1200000} (omega arith)) pk);
    }

-- a trapezium's exact first moment
slab : (k w a : ℕ) → 26795 * (w * w) < 200000 * a → k * trapezium (kept w a) + k * (26795 * (w * w * w)) ≡ k * (600000 * (a * w))
slab k w a h = joined k (600000 * (a * w)) (26795 * (w * (w * w))) (26795 * (w * w * w)) (omega arith) (trapezium_taken w a h)
  where
    joined : (k x y z : ℕ) → y ≡ z → y ≤ x → k * (x - y) + k * z ≡ k * x
    joined k x y z e h = let d : x - y + z ≡ x = omega arith in omega (arith, ap (λ n. k * n) d)

one_kept : (k : ℕ) → 0 < k → (w a lo hi : ℕ) → FirstMoment k w a lo hi → a ≤ 200000000 → Bracket k a (first_moment (kept w a)) lo hi
one_kept k pk w a lo hi f small = go (dec_le (200000 * a) (26795 * (w * w)))
  where
    go : Dec (200000 * a ≤ 26795 * (w * w)) → Bracket k a (first_moment (kept w a)) lo hi
    go (yes h) =
        let t = f.triangle h in
        rw (← first_triangle w a h, t.2, t.3) (triangle a k (base a) t.0 pk (base_one a (base a) (base_is a small)) t.1)
    go (no h) =
        let n = lt_of_not-le h in
        let t = f.trapezium n in
        let e : lo ≡ k * trapezium (kept w a) = omega (arith, t.0, slab k w a n) in
        rw (← first_trapezium w a n, t.1, e) (flat a k (trapezium (kept w a)) pk)

-- ---- all kept areas
record Sides (k : ℕ) (bs : List Kept) (lo hi : ℕ → ℕ) : Type 0 where
  low : 1200000 * (k * sum_of first_moment bs) ≤ total (length bs) lo
  high : total (length bs) hi ≤ 1200000 * (k * (sum_of first_moment bs + length bs)) + 400000 * (k * sum_of (λ a. a.area) bs)

sides : (k : ℕ) → 0 < k → (bs : List Kept) (lo hi : ℕ → ℕ) → ((i : ℕ) → i < length bs → FirstMoment k (get_or bs i (kept 0 0)).width (kept_at bs i) (lo i) (hi i)) →
    sum_of (λ a. a.area) bs ≤ 200000000 → Sides k bs lo hi
unfolding sum_of total
sides k pk [] lo hi f small = record { low = omega arith; high = omega arith }
sides k pk (a ∷ bs) lo hi f small =
    let h = one_kept k pk a.width a.area (lo 0) (hi 0) (f 0 (omega arith)) (omega arith) in
    let t = sides k pk bs (λ i. lo (suc i)) (λ i. hi (suc i)) (λ i l. f (suc i) (omega arith)) (omega arith) in
    record { low = omega (arith, h.low, t.low); high = omega (arith, h.high, t.high) }

-- ---- the section; the sums are variables here
below : (k S M F O lo : ℕ) → M + F + O / 2 ≡ S → 1200000 * (k * F) ≤ lo → 1200000 * (k * S) ≤ 1200000 * (k * M) + lo + 600000 * (k * O)
below k S M F O lo e h = omega (arith, ap (λ x. k * x) e, mul-le-mul_left k (div-mul-le_self O 2))

far : (k n A S M F O hi : ℕ) → 0 < k → M + F + O / 2 ≡ S → hi ≤ 1200000 * (k * (F + n)) + 400000 * (k * A) → 1200000 * (k * M) + hi + 600000 * (k * O) < 1200000 * (k * S) + 400000 * (k * A) + 1200000 * (k * (n + 1))
far k n A S M F O hi pk e h = omega (arith, ap (λ x. k * x) e, mul-lt-mul_of_pos_left (lt-div-mul-add {a = O} {b = 2} (omega arith)) pk)

pub made : (cs : List Cell) → SectionWithin cs → section_moment cs + sum_of first_moment (kept_of cs) + old_twice 0 cs / 2 ≡ high_moment 0 (kept_of cs)
unfolding section_moment
made cs w = omega (arith, section_not_negative cs w)

-- the two bounds at the scale k, with the sums of the definitions
pub record Bounds (cs : List Cell) (k : ℕ) (lo hi : ℕ → ℕ) : Type 0 where
  pub low : 1200000 * (k * high_moment 0 (kept_of cs)) ≤ 1200000 * (k * section_moment cs) + total (length cs) lo + 600000 * (k * old_twice 0 cs)
  pub high :
      1200000 * (k * section_moment cs) + total (length cs) hi + 600000 * (k * old_twice 0 cs)
      < 1200000 * (k * high_moment 0 (kept_of cs)) + 400000 * (k * sum_of cell_area cs) + 1200000 * (k * (length cs + 1))

pub bounds :
    (cs : List Cell) → SectionWithin cs → (k : ℕ) → 0 < k → (lo hi : ℕ → ℕ) →
    ((i : ℕ) → i < length cs → FirstMoment k (cell_width (cell cs i)) (kept_at (kept_of cs) i) (lo i) (hi i)) → Bounds cs k lo hi
bounds [] w k pk lo hi f = absurd (omega (arith, w.some))
bounds (c ∷ cs) w k pk lo hi f =
    let area : sum_of (λ a. a.area) (kept_of (c ∷ cs)) ≡ sum_of cell_area (c ∷ cs) = omega (arith, kept_sum 0 c cs) in
    let n = kept_length 0 (c ∷ cs) in
    let t = sides k pk (kept_of (c ∷ cs)) lo hi
    (λ i h. let l : i < length (c ∷ cs) = omega (arith, n) in rw (width_at 0 (c ∷ cs) i l) (f i l))
    (omega (arith, area, areas_le (c ∷ cs) w.cells, w.widths)) in
    let e = made (c ∷ cs) w in
    record {
      low = below k _ _ _ _ _ e (rw n at t.low);
      high = far k (length (c ∷ cs)) (sum_of cell_area (c ∷ cs)) _ _ _ _ _ pk e (rw (n, area) at t.high);
    }

-- ---- at every scale there are such first moments
-- the root of n/d at the scale k is the whole root of n·k²/d
root_at : (n d k : ℕ) → 0 < d → (r : Rooted (n * (k * k) / d)) → RootAt n d k r.whole
root_at n d k p r =
    record {
      low = omega (arith, mul-le-mul_left d r.is.low, div-mul-le_self (n * (k * k)) d);
      high = omega (arith, (div-lt_iff_lt-mul {k = d} {x = n * (k * k)} {y = (r.whole + 1) * (r.whole + 1)} p).0 r.is.high);
    }

whole_base : (k a : ℕ) → ℕ
whole_base k a = (every_root (200000 * a * (k * k) / 26795)).whole

pub first_from : (k w a : ℕ) → ℕ
first_from k w a = cond (leb (200000 * a) (26795 * (w * w))) (400000 * (a * whole_base k a)) (k * trapezium (kept w a))

pub first_to : (k w a : ℕ) → ℕ
first_to k w a = cond (leb (200000 * a) (26795 * (w * w))) (400000 * (a * (whole_base k a + 1))) (k * trapezium (kept w a))

pub every_scale : (k w a : ℕ) → FirstMoment k w a (first_from k w a) (first_to k w a)
unfolding whole_base first_from first_to
every_scale k w a =
    record {
      triangle = λ h.
          let t = le-leb (200000 * a) (26795 * (w * w)) h in
          (whole_base k a, root_at (200000 * a) 26795 k (omega arith) (every_root (200000 * a * (k * k) / 26795)), rw t, rw t);
      trapezium = λ h.
          let t = lt-leb (200000 * a) (26795 * (w * w)) h in
          (rw t (slab k w a h), rw t);
    }
