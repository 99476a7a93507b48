-- The tests of limits pass exactly where a record's numbers are in the paper's ranges.
use mathlib.Core.Path.{◌≡◌}
use mathlib.Core.Bool.{true, ◌&&◌}
use mathlib.Core.Logic.{◌↔◌}
use Prim.Native.Nat.{ℕ, ◌+◌, ◌≤◌}
use native.Mathlib.Omega.{arith}
use lib.Dec.{leb, eqb}
use lib.ListN.{get_or}
use borrow.Author.Tests.{leb-true, le-leb, eqb-true, eq-eqb}
use Rattle.whole.specs.Lists.{within, all, sum_of}
use Rattle.whole.proofs.Lists.{and_true, within_true, within_by, all_at, all_from}
use Rattle.record.specs.declared.Rule.{Rule}
use Rattle.record.specs.declared.Rule.TheVariants.{New, Old}
use Rattle.record.specs.declared.Ship.{Ship}
use Rattle.record.specs.declared.Load.{Load}
use Rattle.record.specs.declared.Column.{Column}
use Rattle.record.specs.declared.Mode.{Mode}
use Rattle.record.specs.declared.Mode.TheVariants.{Trimmed, Voided, Partial}
use Rattle.record.specs.declared.Cell.{Cell}
use Rattle.record.specs.declared.Cell.TheVariants.{Wing, Hatch, Void}
use Rattle.record.specs.declared.Slack.{Slack}
use Rattle.record.specs.declared.Slack.TheVariants.{Undivided, Split}
use Rattle.record.specs.declared.Part.{Part}
use Rattle.record.specs.declared.Hold.{Hold}
use Rattle.record.specs.declared.WeightItem.{WeightItem}
use Rattle.record.specs.Filler.{no_part}
use Rattle.record.specs.Held.{cell_width, cells_of, parts_of}
use Rattle.record.specs.Held.{edge}
use Rattle.limits.specs.Limits.{ship_limits, displacement, rise, load_limits, column_limits, cell_limits, section_limits, size_limits, slack_limits, part_limits, hold_limits, place_limits, item_limits}
use Rattle.limits.specs.Ranges.{EdgeRange, ShipRange, LoadRange, ColumnRange, CellRange, SectionRange, SizeRange, SlackRange, PartRange, HoldRange, PlaceRange, ItemRange, RiseRange}

-- ---- ship
edge_range : (r : Rule) → (within 1 9000 (edge r) ≡ true) ↔ EdgeRange r
edge_range (New e) = (λ p. let t = within_true 1 9000 e p in (t.low, t.high), λ (a, b). within_by 1 9000 e a b)
edge_range (Old e) = (λ p. let t = within_true 1 9000 e p in (t.low, t.high), λ (a, b). within_by 1 9000 e a b)

pub ship_range : (s : Ship) → (ship_limits s ≡ true) ↔ ShipRange s
unfolding ship_limits
ship_range s = (
  λ e. let t = and_true (within 1 9000 (edge s.rule)) (within 1 9000 s.flood) e in
      let f = within_true 1 9000 s.flood t.1 in ((edge_range s.rule).0 t.0, f.low, f.high),
  λ (r, a, b). rw ((edge_range s.rule).1 r, within_by 1 9000 s.flood a b),
)

-- ---- load
pub load_range : (l : Load) → (load_limits l ≡ true) ↔ LoadRange l
unfolding load_limits
load_range l = (
  λ e. let t = and_true (displacement l.d && within 1 50000 l.kg) (within 0 10000 l.fs) e in
      let u = and_true (displacement l.d) (within 1 50000 l.kg) t.0 in
      let d = within_true 100 400000 l.d u.0 in
      let k = within_true 1 50000 l.kg u.1 in
      (d.low, d.high, k.low, k.high, (within_true 0 10000 l.fs t.1).high),
  λ (a, b, c, d, f). rw (within_by 100 400000 l.d a b, within_by 1 50000 l.kg c d, within_by 0 10000 l.fs (omega arith) f),
)

-- ---- column
pub column_range : (k : Column) → (column_limits k ≡ true) ↔ ColumnRange k
unfolding column_limits
column_range k = (
  λ e. let t = and_true (displacement k.d && within 1 50000 k.km && eqb (get_or k.kn 0 0) 0) (all (within 0 50000) k.kn) e in
      let u = and_true (displacement k.d && within 1 50000 k.km) (eqb (get_or k.kn 0 0) 0) t.0 in
      let v = and_true (displacement k.d) (within 1 50000 k.km) u.0 in
      let d = within_true 100 400000 k.d v.0 in
      let m = within_true 1 50000 k.km v.1 in
      (d.low, d.high, m.low, m.high, eqb-true (get_or k.kn 0 0) 0 u.1, λ i h. (within_true 0 50000 (get_or k.kn i 0) (all_at (within 0 50000) k.kn i 0 t.1 h)).high),
  λ (a, b, c, d, z, f).
      rw (within_by 100 400000 k.d a b, within_by 1 50000 k.km c d, eq-eqb (get_or k.kn 0 0) 0 z)
      (all_from (within 0 50000) k.kn 0 (λ i h. within_by 0 50000 (get_or k.kn i 0) (omega arith) (f i h))),
)

-- ---- cells
sizes_range : (w most x l : ℕ) → ((within 1 40000 w && within 0 most x && within 0 10000 l) ≡ true) ↔ ((1 ≤ w) × (w ≤ 40000) × (x ≤ most) × (l ≤ 10000))
sizes_range w most x l = (
  λ e. let t = and_true (within 1 40000 w && within 0 most x) (within 0 10000 l) e in
      let u = and_true (within 1 40000 w) (within 0 most x) t.0 in
      let v = within_true 1 40000 w u.0 in
      (v.low, v.high, (within_true 0 most x u.1).high, (within_true 0 10000 l t.1).high),
  λ (a, b, c, d). rw (within_by 1 40000 w a b, within_by 0 most x (omega arith) c, within_by 0 10000 l (omega arith) d),
)

pub cell_range : (c : Cell) → (cell_limits c ≡ true) ↔ CellRange c
unfolding cell_limits
cell_range (Wing w d g l) = (
  λ e. let t = and_true (within 1 40000 w && within 0 20000 d && within 0 3000 g) (within 0 10000 l) e in
      let u = and_true (within 1 40000 w && within 0 20000 d) (within 0 3000 g) t.0 in
      let v = and_true (within 1 40000 w) (within 0 20000 d) u.0 in
      let x = within_true 1 40000 w v.0 in
      (x.low, x.high, (within_true 0 20000 d v.1).high, (within_true 0 3000 g u.1).high, (within_true 0 10000 l t.1).high),
  λ (a, b, c, f, h). rw (within_by 1 40000 w a b, within_by 0 20000 d (omega arith) c, within_by 0 3000 g (omega arith) f, within_by 0 10000 l (omega arith) h),
)
cell_range (Hatch w o l) = sizes_range w 3000 o l
cell_range (Void w d l) = sizes_range w 5000 d l

-- ---- parts
section_range : (p : Part) → (section_limits p ≡ true) ↔ SectionRange p
unfolding section_limits
section_range p = (
  λ e. let t = and_true (within 1 8 p.count) _ e in
      let u = and_true (within 1 60000 p.length && all cell_limits (cells_of p)) (leb (sum_of cell_width (cells_of p)) 40000) t.1 in
      let v = and_true (within 1 60000 p.length) (all cell_limits (cells_of p)) u.0 in
      let n = within_true 1 8 p.count t.0 in
      let l = within_true 1 60000 p.length v.0 in (
        n.low,
        n.high,
        l.low,
        l.high,
        λ i h. (cell_range (get_or (cells_of p) i (Void 0 0 0))).0 (all_at cell_limits (cells_of p) i (Void 0 0 0) v.1 h),
        leb-true (sum_of cell_width (cells_of p)) 40000 u.1,
      ),
  λ (a, b, c, d, f, g).
      rw (
        within_by 1 8 p.count a b,
        within_by 1 60000 p.length c d,
        le-leb (sum_of cell_width (cells_of p)) 40000 g,
        all_from cell_limits (cells_of p) (Void 0 0 0) (λ i h. (cell_range (get_or (cells_of p) i (Void 0 0 0))).1 (f i h)),
      ),
)

size_range : (length : ℕ) (s : Slack) → (size_limits length s ≡ true) ↔ SizeRange length s
size_range length (Undivided breadth void grain) = (
  λ e. let t = and_true (within 1 40000 breadth && within 1 30000 void) (within 1 30000 grain) e in
      let u = and_true (within 1 40000 breadth) (within 1 30000 void) t.0 in
      let b = within_true 1 40000 breadth u.0 in
      let v = within_true 1 30000 void u.1 in
      let g = within_true 1 30000 grain t.1 in
      (b.low, b.high, v.low, v.high, g.low, g.high),
  λ (a, b, c, d, f, g). rw (within_by 1 40000 breadth a b, within_by 1 30000 void c d, within_by 1 30000 grain f g),
)
size_range length (Split run left right) = (
  λ e. let t = and_true _ (leb (left + right) 40000) e in
      let u = and_true _ (leb 1 right) t.0 in
      let v = and_true _ (leb 1 left) u.0 in
      let r = within_true _ _ run v.0 in
      (r.low, omega (arith, r.high), leb-true 1 left v.1, leb-true 1 right u.1, leb-true (left + right) 40000 t.1),
  λ (a, b, c, d, f). rw (within_by 1 length run a b, le-leb 1 left c, le-leb 1 right d, le-leb (left + right) 40000 f),
)

pub slack_range : (p : Part) → (slack_limits p ≡ true) ↔ SlackRange p
unfolding slack_limits
slack_range p = (
  λ e. let t = and_true (within 1 60000 p.length) (size_limits p.length p.slack) e in
      let l = within_true 1 60000 p.length t.0 in
      (l.low, l.high, (size_range p.length p.slack).0 t.1),
  λ (a, b, r). rw (within_by 1 60000 p.length a b, (size_range p.length p.slack).1 r),
)

part_range : (mode : Mode) (p : Part) → (part_limits mode p ≡ true) ↔ PartRange mode p
part_range Trimmed p = section_range p
part_range Voided p = section_range p
part_range Partial p = slack_range p

-- ---- holds
pub hold_range : (h : Hold) → (hold_limits h ≡ true) ↔ HoldRange h
unfolding hold_limits
hold_range h = (
  λ e. let t = and_true (within 1 6 h.head.count) _ e in
      let u = and_true (within 5000 40000 h.head.factor) (all (part_limits h.head.mode) (parts_of h)) t.1 in
      let n = within_true 1 6 h.head.count t.0 in
      let f = within_true 5000 40000 h.head.factor u.0 in (
        n.low,
        n.high,
        f.low,
        f.high,
        λ i l. (part_range h.head.mode (get_or (parts_of h) i no_part)).0 (all_at (part_limits h.head.mode) (parts_of h) i no_part u.1 l),
      ),
  λ (a, b, c, d, f).
      rw (within_by 1 6 h.head.count a b, within_by 5000 40000 h.head.factor c d)
      (all_from (part_limits h.head.mode) (parts_of h) no_part (λ i l. (part_range h.head.mode (get_or (parts_of h) i no_part)).1 (f i l))),
)

pub place_range : (n : ℕ) → (place_limits n ≡ true) ↔ PlaceRange n
place_range n = (λ e. let t = within_true 1 16 n e in (t.low, t.high), λ (a, b). within_by 1 16 n a b)

-- ---- weight items, and the rise of a load that they make
pub item_range : (i : WeightItem) → (item_limits i ≡ true) ↔ ItemRange i
unfolding item_limits
item_range i = (
  λ e. let t = and_true (within 1 400000 i.tonnes) (within 0 50000 i.height) e in
      let u = within_true 1 400000 i.tonnes t.0 in
      (u.low, u.high, (within_true 0 50000 i.height t.1).high),
  λ (a, b, c). rw (within_by 1 400000 i.tonnes a b, within_by 0 50000 i.height (omega arith) c),
)

pub rise_range : (fs : ℕ) → (rise fs ≡ true) ↔ RiseRange fs
rise_range fs = (λ e. (within_true 0 10000 fs e).high, λ h. within_by 0 10000 fs (omega arith) h)
