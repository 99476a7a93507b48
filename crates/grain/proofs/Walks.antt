-- From the sums of a walk along a section's cells to the definitions of the paper.
use mathlib.Core.Path.{◌≡◌, refl, ap, ◌∙◌}
use mathlib.Core.Bool.{true, ◌&&◌}
use mathlib.Core.List.{List, [], ◌∷◌}
use Prim.Native.Nat.{ℕ, ◌+◌, ◌*◌, ◌/◌, ◌^◌, ◌≤◌, ◌<◌, min}
use native.Mathlib.Omega.{arith}
use native.Mathlib.Nat.{mul-le-mul}
use lib.Dec.{leb}
use lib.ListN.{length, drop, get_or, length-take}
use borrow.Author.Tests.{leb-true}
use Rattle.whole.specs.Lists.{within, all, sum_of}
use Rattle.whole.proofs.Lists.{and_true, within_true, all_at, drop_next, drop_end}
use Rattle.record.proofs.Taken.{past_cell, cells_length}
use Rattle.record.specs.declared.Part.{Part}
use Rattle.record.specs.declared.Cell.{Cell}
use Rattle.record.specs.Held.{cell_width, cells_of}
use Rattle.limits.specs.Limits.{cell_limits, section_limits}
use Rattle.cells.specs.Depth.{cell_area}
use Rattle.cells.specs.Sizes.{cell_most, sizes_of}
use Rattle.grain.specs.declared.Sums.{Sums}
use Rattle.grain.specs.Section.{kept_from, kept_of, fits_from, fits, first_moment, high_moment, old_twice, section_moment}
use Rattle.grain.specs.Within.{SectionWithin}
use Rattle.grain.specs.Walk.{with_kept, inner_cell, last_cell, last_answer, section_answer, SumsFit}
use Rattle.grain.proofs.Sections.{CellBounds, cell_bounds, areas_le, kept_inner, kept_last, first_half, never_negative}

-- After i cells of l: what the sums have, and what is still ahead, make up the whole; and the sums are small.
pub record Ahead (l : List Cell) (i : ℕ) (s : Sums) : Type 0 where
  pub widths : s.x + sum_of cell_width (drop i l) ≡ sum_of cell_width l
  pub highs : s.high + high_moment s.x (kept_from s.excess (drop i l)) ≡ high_moment 0 (kept_of l)
  pub firsts : s.first + sum_of first_moment (kept_from s.excess (drop i l)) ≡ sum_of first_moment (kept_of l)
  pub olds : s.old + old_twice s.x (drop i l) ≡ old_twice 0 l
  pub fit : fits_from s.excess (drop i l) ≡ fits l
  pub excess : s.excess ≤ 5000 * s.x
  pub high : s.high ≤ i * 2 ^ 44
  pub first : s.first ≤ i * 2 ^ 44
  pub old : s.old ≤ i * 2 ^ 44

-- one cell further
sum_cons : {X : Type 0} (f : X → ℕ) (x : X) (xs : List X) → sum_of f (x ∷ xs) ≡ f x + sum_of f xs
unfolding sum_of
sum_cons f x xs = refl

module _ (l : List Cell) (i : ℕ) (s : Sums) (c : Cell) (within : sum_of cell_width l ≤ 40000) (b : CellBounds c) (a : Ahead l i s) where
  -- there is room for a cell that is next
  pub room_next : (cs : List Cell) → drop i l ≡ c ∷ cs → i ≤ 8 → SumsFit s (sizes_of c)
  room_next cs e h =
      let w = rw (e, sum_cons cell_width c cs) at a.widths in
      record {
        width = omega arith;
        area = omega (arith, b.area, a.excess);
        high = omega (arith, a.high);
        first = omega (arith, a.first);
        old = omega (arith, a.old);
      }

  pub ahead_next : (d : Cell) (ds : List Cell) → drop i l ≡ c ∷ d ∷ ds → drop (i + 1) l ≡ d ∷ ds → Ahead l (i + 1) (inner_cell s (sizes_of c))
  unfolding with_kept high_moment old_twice fits_from
  ahead_next d ds e f =
      let w = rw (e, sum_cons cell_width c (d ∷ ds)) at a.widths in
      let k : min (cell_area c) (cell_most c) ≤ 200000000 = omega (arith, b.area) in
      let x : s.x + cell_width c ≤ 40000 = omega arith in
      let A : cell_area c ≤ 200000000 = omega (arith, b.area) in
      let y : 2 * s.x + cell_width c ≤ 80000 = omega arith in
      record {
        widths = rw f (omega arith);
        highs = rw f (omega (arith, rw (e, kept_inner) at a.highs));
        firsts = rw f (omega (arith, rw (e, kept_inner, sum_cons) at a.firsts));
        olds = rw f (omega (arith, rw e at a.olds));
        fit = rw f (rw e at a.fit);
        excess = omega (arith, a.excess, b.area);
        high = omega (arith, a.high, mul-le-mul k x);
        first = omega (arith, a.first, first_half (cell_width c) (min (cell_area c) (cell_most c)) k, mul-le-mul k b.width);
        old = omega (arith, a.old, mul-le-mul A y);
      }

  -- at the last cell the sums are the paper's
  module _ (e : drop i l ≡ c ∷ []) where
    last_high : (last_cell s (sizes_of c)).high ≡ high_moment 0 (kept_of l)
    unfolding with_kept high_moment
    last_high = omega (arith, rw (e, kept_last) at a.highs)

    last_first : (last_cell s (sizes_of c)).first ≡ sum_of first_moment (kept_of l)
    unfolding with_kept sum_of
    last_first = omega (arith, rw (e, kept_last) at a.firsts)

    last_old : (last_cell s (sizes_of c)).old ≡ old_twice 0 l
    unfolding with_kept old_twice
    last_old = omega (arith, rw e at a.olds)

    last_fit : leb (cell_area c + s.excess) (cell_most c) ≡ fits l
    unfolding fits_from
    last_fit = rw e at a.fit

    pub last_is : last_answer s (sizes_of c) ≡ section_answer l
    unfolding last_answer section_answer section_moment
    last_is = rw (last_fit, last_high, last_first, last_old) refl

    pub last_not_negative : sum_of first_moment (kept_of l) + old_twice 0 l / 2 ≤ high_moment 0 (kept_of l) → (last_cell s (sizes_of c)).first + (last_cell s (sizes_of c)).old / 2 ≤ (last_cell s (sizes_of c)).high
    last_not_negative h = rw (last_high, last_first, last_old) h

-- the section moment of a section within its limits is not cut at zero
pub section_not_negative : (cs : List Cell) → SectionWithin cs → sum_of first_moment (kept_of cs) + old_twice 0 cs / 2 ≤ high_moment 0 (kept_of cs)
section_not_negative [] w = absurd (omega (arith, w.some))
section_not_negative (c ∷ cs) w =
    omega (arith, never_negative 0 0 c cs (omega (arith, areas_le (c ∷ cs) w.cells, w.widths)))

-- a part within its limits has a section within its limits
pub record PartWithin (p : Part) : Type 0 where
  pub low : 1 ≤ p.count
  pub count : p.count ≤ 8
  pub length : within 1 60000 p.length ≡ true
  pub cells : all cell_limits (cells_of p) ≡ true
  pub widths : sum_of cell_width (cells_of p) ≤ 40000

pub part_within : (p : Part) → section_limits p ≡ true → PartWithin p
unfolding section_limits
part_within p e =
    let t = and_true (within 1 8 p.count) _ e in
    let u = and_true (within 1 60000 p.length && all cell_limits (cells_of p)) (leb (sum_of cell_width (cells_of p)) 40000) t.1 in
    let v = and_true (within 1 60000 p.length) (all cell_limits (cells_of p)) u.0 in
    let n = within_true 1 8 p.count t.0 in
    record {
      low = n.low;
      count = n.high;
      length = v.0;
      cells = v.1;
      widths = leb-true (sum_of cell_width (cells_of p)) 40000 u.1;
    }

pub cells_section : (p : Part) → PartWithin p → length p.cells ≡ 8 → SectionWithin (cells_of p)
cells_section p w e =
    record {
      some = omega (arith, cells_length p (omega (arith, w.count)), w.low);
      cells = w.cells;
      widths = w.widths;
    }

pub part_section_within : (p : Part) → section_limits p ≡ true → length p.cells ≡ 8 → SectionWithin (cells_of p)
part_section_within p h e = cells_section p (part_within p h) e

pub few_cells : (p : Part) → section_limits p ≡ true → length (cells_of p) ≤ 8
few_cells p h = omega (arith, (part_within p h).count, length-take p.count p.cells)

-- the walk along the cells of a section
module _ (l : List Cell) (w : SectionWithin l) (few : length l ≤ 8) (i : ℕ) (s : Sums) (a : Ahead l i s) where
  module _ (h : i < length l) where
    next : drop i l ≡ get_or l i past_cell ∷ drop (i + 1) l
    next = drop_next l i past_cell h

    bounds : CellBounds (get_or l i past_cell)
    bounds = cell_bounds _ (all_at cell_limits l i past_cell w.cells h)

    pub section_room : SumsFit s (sizes_of (get_or l i past_cell))
    section_room = room_next l i s _ w.widths bounds a (drop (i + 1) l) next (omega arith)

    pub section_next : i + 1 < length l → Ahead l (i + 1) (inner_cell s (sizes_of (get_or l i past_cell)))
    section_next k =
        let f = drop_next l (i + 1) past_cell k in
        ahead_next l i s _ w.widths bounds a _ _ (next ∙ ap (λ (xs : List Cell). get_or l i past_cell ∷ xs) f) f

    module _ (end : length l ≤ i + 1) where
      alone : drop i l ≡ get_or l i past_cell ∷ []
      alone = next ∙ ap (λ (xs : List Cell). get_or l i past_cell ∷ xs) (drop_end l (i + 1) past_cell end)

      pub section_last : last_answer s (sizes_of (get_or l i past_cell)) ≡ section_answer l
      section_last = last_is l i s _ w.widths bounds a alone

      pub last_above : (last_cell s (sizes_of (get_or l i past_cell))).first + (last_cell s (sizes_of (get_or l i past_cell))).old / 2 ≤ (last_cell s (sizes_of (get_or l i past_cell))).high
      last_above = last_not_negative l i s _ w.widths bounds a alone (section_not_negative l w)
