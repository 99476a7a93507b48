-- How the program adds a section up, cell by cell: sums so far, and what each cell adds. (The paper's definitions are those of
-- Section.antt; the laws in proofs/Walks.antt lead from these sums to them.)
use Rattle.std.specs.Prelude.{cond, Option, Some, None, List, ℕ, ◌+◌, ◌*◌, ◌-◌, ◌/◌, min, ◌≤◌, ◌^◌, leb}
use Rattle.record.specs.declared.Cell.{Cell}
use Rattle.whole.specs.Lists.{all, sum_of}
use Rattle.record.specs.declared.Mode.{Mode}
use Rattle.record.specs.declared.Part.{Part}
use Rattle.record.specs.Held.{cells_of}
use Rattle.cells.specs.declared.CellSizes.{CellSizes}
use Rattle.grain.specs.declared.Sums.{Sums}
use Rattle.grain.specs.Section.{kept, first_moment, fits, section_moment}
use Rattle.grain.specs.Sum.{part_fits, section_volume, part_volume, part_moment}

-- the sums with a cell that keeps the area a and leaves the excess e
unfoldable pub with_kept : Sums → CellSizes → (a e : ℕ) → Sums
with_kept s z a e =
    record {
      x = s.x + z.width;
      excess = e;
      high = s.high + a * (s.x + z.width);
      first = s.first + first_moment (kept z.width a);
      old = s.old + z.area * (2 * s.x + z.width);
    }

-- every cell but the last; the last
abbrev pub inner_cell : Sums → CellSizes → Sums
inner_cell s z = with_kept s z (min z.area z.most) (s.excess + (z.area - z.most))

abbrev pub last_cell : Sums → CellSizes → Sums
last_cell s z = with_kept s z (z.area + s.excess) 0

-- the section moment from the sums of all cells
abbrev pub moment_of : Sums → ℕ
moment_of s = s.high - s.first - s.old / 2

-- the answer at the last cell
unfoldable pub last_answer : Sums → CellSizes → Option ℕ
last_answer s z = cond (leb (z.area + s.excess) z.most) (Some (moment_of (last_cell s z))) None

-- the answer of a section: its moment, or none where its void does not fit
unfoldable pub section_answer : List Cell → Option ℕ
section_answer cs = cond (fits cs) (Some (section_moment cs)) None

-- The sums are small enough for one cell more: a section is at most 40,000 mm wide and 5,000 mm deep.
pub record SumsFit (s : Sums) (z : CellSizes) : Type 0 where
  pub width : s.x + z.width ≤ 40000
  pub area : z.area + s.excess ≤ 200000000
  pub high : s.high ≤ 2 ^ 60
  pub first : s.first ≤ 2 ^ 60
  pub old : s.old ≤ 2 ^ 60

-- the answer of a part of cells and of any part, in mm⁴; of any part in thousandths of m⁴; and of all parts of a hold together
unfoldable pub section_volume_answer : Part → Option ℕ
section_volume_answer p = cond (fits (cells_of p)) (Some (section_volume p)) None

unfoldable pub part_volume_answer : Mode → Part → Option ℕ
part_volume_answer mode p = cond (part_fits mode p) (Some (part_volume mode p)) None

unfoldable pub part_answer : Mode → Part → Option ℕ
part_answer mode p = cond (part_fits mode p) (Some (part_moment mode p)) None

unfoldable pub parts_answer : Mode → List Part → Option ℕ
parts_answer mode ps = cond (all (part_fits mode) ps) (Some (sum_of (part_moment mode) ps)) None
