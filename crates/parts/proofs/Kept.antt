-- No test of a cell's or a part's limits sees how its numbers are carried, and a cell within its limits is carried as it is.
use mathlib.Core.Path.{◌≡◌, refl, ap}
use mathlib.Core.Bool.{Bool, true, false, ◌&&◌}
use mathlib.Core.List.{map}
use Prim.Native.Nat.{ℕ, ◌+◌, ◌≤◌}
use native.Mathlib.Omega.{arith}
use lib.Dec.{leb}
use borrow.Author.Tests.{leb-true, leb-false, le-leb, lt-leb}
use Rattle.std.proofs.lemmas.List.{take-map}
use Rattle.whole.specs.Lists.{within, all, sum_of}
use Rattle.whole.proofs.Lists.{and_true, within_true}
use Rattle.record.specs.declared.Cell.{Cell}
use Rattle.record.specs.declared.Cell.TheVariants.{Wing, Hatch, Void}
use Rattle.record.specs.declared.Mode.{Mode}
use Rattle.record.specs.declared.Mode.TheVariants.{Trimmed, Voided, Partial}
use Rattle.record.specs.declared.Slack.{Slack}
use Rattle.record.specs.declared.Slack.TheVariants.{Undivided, Split}
use Rattle.record.specs.declared.Part.{Part}
use Rattle.record.specs.Held.{cell_width, cells_of}
use Rattle.limits.specs.Limits.{cell_limits, section_limits, size_limits, slack_limits, part_limits}
use Rattle.limits.specs.Ranges.{SizeRange}
use Rattle.limits.proofs.Ranges.{slack_range}
use Rattle.items.specs.Carried.{carried}
use Rattle.items.proofs.Kept.{kept, kept_within, same_within, same_test, kept_last, same_all, kept_all}
use Rattle.parts.specs.Carried.{carried_cell, carried_slack, carried_part}

-- ---- a cell
pub same_cell : (c : Cell) → cell_limits (carried_cell c) ≡ cell_limits c
unfolding cell_limits
same_cell (Wing w d g l) = simp same_test
same_cell (Hatch w o l) = simp same_test
same_cell (Void w d l) = simp same_test

pub kept_cell : (c : Cell) → cell_limits c ≡ true → carried_cell c ≡ c
unfolding cell_limits
kept_cell (Wing w d g l) e =
    let lip = kept_last _ _ _ _ refl e in
    let girder = kept_last _ _ _ _ refl lip.0 in
    let dist = kept_last _ _ _ _ refl girder.0 in
    let width = kept_last true _ _ _ refl dist.0 in
    cc
kept_cell (Hatch w o l) e =
    let lip = kept_last _ _ _ _ refl e in
    let opening = kept_last _ _ _ _ refl lip.0 in
    let width = kept_last true _ _ _ refl opening.0 in
    cc
kept_cell (Void w d l) e =
    let lip = kept_last _ _ _ _ refl e in
    let depth = kept_last _ _ _ _ refl lip.0 in
    let width = kept_last true _ _ _ refl depth.0 in
    cc

-- ---- a part: the sum of its widths is tested only where each width is within its limits, and so carried as it is
carried_cells : (p : Part) → cells_of (carried_part p) ≡ map carried_cell (cells_of p)
carried_cells p = take-map carried_cell p.count p.cells

guarded : (a b c d : Bool) → (b ≡ true → c ≡ d) → (a && b && c) ≡ (a && b && d)
guarded true true c d h = h refl
guarded true false c d h = refl
guarded false b c d h = refl

pub same_section : (p : Part) → section_limits (carried_part p) ≡ section_limits p
unfolding section_limits
same_section p =
    let cs = cells_of p in
    simp (same_test, carried_cells, same_all cell_limits carried_cell same_cell cs)
    (ap (λ b. within 1 8 p.count && b)
    (guarded (within 1 60000 p.length) (all cell_limits cs) _ _
    (λ e. rw (kept_all cell_limits carried_cell kept_cell cs e))))

-- beside a board: RUN is tested against LENGTH where that is within its own limits, and so carried as it is; of LEFT and RIGHT one that is not
-- carried as it is makes the sum too great with either number
same_least : (v : ℕ) → leb 1 (carried v) ≡ leb 1 v
same_least v = by (leb 1 v) refl
  where
    by : (x : Bool) → leb 1 v ≡ x → leb 1 (carried v) ≡ x
    by true e = le-leb 1 (carried v) (omega (arith, leb-true 1 v e))
    by false e = lt-leb 1 (carried v) (omega (arith, leb-false 1 v e))

same_together : (l r : ℕ) → leb (carried l + carried r) 40000 ≡ leb (l + r) 40000
same_together l r = by (leb (l + r) 40000) refl
  where
    by : (x : Bool) → leb (l + r) 40000 ≡ x → leb (carried l + carried r) 40000 ≡ x
    by true e = le-leb (carried l + carried r) 40000 (omega (arith, leb-true (l + r) 40000 e))
    by false e = lt-leb (carried l + carried r) 40000 (omega (arith, leb-false (l + r) 40000 e))

same_sizes : (length : ℕ) (s : Slack) → length ≤ 60000 → size_limits length (carried_slack s) ≡ size_limits length s
same_sizes length (Undivided b v g) h = simp same_test
same_sizes length (Split run l r) h = rw (same_within 1 length run (omega arith), same_least l, same_least r, same_together l r)

pub same_slack : (p : Part) → slack_limits (carried_part p) ≡ slack_limits p
unfolding slack_limits
same_slack p =
    rw (same_test 1 60000 p.length refl)
    (guarded true (within 1 60000 p.length) _ _
    (λ e. rw (kept_within 1 60000 p.length (omega arith) e) (same_sizes p.length p.slack (within_true 1 60000 p.length e).high)))

-- of a part within its limits the numbers that they test are carried as they are; the grammar's parts have no others (Tidy.antt)
pub kept_section : (p : Part) → section_limits p ≡ true → (carried p.length ≡ p.length) × (map carried_cell (cells_of p) ≡ cells_of p)
unfolding section_limits
kept_section p e =
    let sizes = within 1 60000 p.length && all cell_limits (cells_of p) in
    let tested = and_true (within 1 8 p.count) (sizes && leb (sum_of cell_width (cells_of p)) 40000) e in
    let inside = and_true sizes _ tested.1 in
    let each = and_true (within 1 60000 p.length) (all cell_limits (cells_of p)) inside.0 in
    (kept_within 1 60000 p.length (omega arith) each.0, kept_all cell_limits carried_cell kept_cell (cells_of p) each.1)

kept_sizes : (length : ℕ) (s : Slack) → length ≤ 60000 → SizeRange length s → carried_slack s ≡ s
kept_sizes length (Undivided b v g) h r = rw (kept b (omega arith), kept v (omega arith), kept g (omega arith))
kept_sizes length (Split run left right) h r = rw (kept run (omega arith), kept left (omega arith), kept right (omega arith))

pub kept_slack : (p : Part) → slack_limits p ≡ true → map carried_cell p.cells ≡ p.cells → carried_part p ≡ p
kept_slack p e cells =
    let r = (slack_range p).0 e in
    rw (kept p.length (omega arith), kept_sizes p.length p.slack r.1 r.2, cells)

pub same_part : (m : Mode) (p : Part) → part_limits m (carried_part p) ≡ part_limits m p
same_part Trimmed p = same_section p
same_part Voided p = same_section p
same_part Partial p = same_slack p
