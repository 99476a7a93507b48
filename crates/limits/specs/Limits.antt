-- Document 01, Lines of the panel, and document 02, P5 and P7: the limits of each record's numbers. A number outside them is code 20.
use Rattle.std.specs.Prelude.{Bool, ◌&&◌, ℕ, ◌+◌, leb, eqb, get_or}
use Rattle.whole.specs.Lists.{within, all, sum_of}
use Rattle.record.specs.declared.Ship.{Ship}
use Rattle.record.specs.declared.Load.{Load}
use Rattle.record.specs.declared.Column.{Column}
use Rattle.record.specs.declared.Mode.{Mode}
use Rattle.record.specs.declared.Mode.TheVariants.{Trimmed, Voided, Partial}
use Rattle.record.specs.declared.Cell.{Cell}
use Rattle.record.specs.declared.Cell.TheVariants.{Wing, Hatch, Void}
use Rattle.record.specs.declared.Slack.{Slack}
use Rattle.record.specs.declared.Slack.TheVariants.{Undivided, Split}
use Rattle.record.specs.declared.Part.{Part}
use Rattle.record.specs.declared.Hold.{Hold}
use Rattle.record.specs.declared.WeightItem.{WeightItem}
use Rattle.record.specs.Held.{edge, cell_width, cells_of, parts_of}

-- EDGE and FLOOD 1 to 9,000
unfoldable pub ship_limits : Ship → Bool
ship_limits s = within 1 9000 (edge s.rule) && within 1 9000 s.flood

-- displacement D, in tonnes: 100 to 400,000
abbrev pub displacement : ℕ → Bool
displacement d = within 100 400000 d

-- FS, the free-surface rise: 0 to 10,000
abbrev pub rise : ℕ → Bool
rise fs = within 0 10000 fs

-- D; KG 1 to 50,000; FS
unfoldable pub load_limits : Load → Bool
load_limits l = displacement l.d && within 1 50000 l.kg && rise l.fs

-- D; KM 1 to 50,000; ten KN 0 to 50,000, the first 0
unfoldable pub column_limits : Column → Bool
column_limits k =
    displacement k.d && within 1 50000 k.km && eqb (get_or k.kn 0 0) 0 && all (within 0 50000) k.kn

-- WIDTH 1 to 40,000; DIST 0 to 20,000; GIRDER and OPEN 0 to 3,000; DEPTH 0 to 5,000; LIP 0 to 10,000
unfoldable pub cell_limits : Cell → Bool
cell_limits (Wing w d g l) = within 1 40000 w && within 0 20000 d && within 0 3000 g && within 0 10000 l
cell_limits (Hatch w o l) = within 1 40000 w && within 0 3000 o && within 0 10000 l
cell_limits (Void w d l) = within 1 40000 w && within 0 5000 d && within 0 10000 l

-- a part of `trimmed` and of `voided`: one to eight cells; LENGTH 1 to 60,000; the widths together at most 40,000
unfoldable pub section_limits : Part → Bool
section_limits p =
    within 1 8 p.count && (within 1 60000 p.length && all cell_limits (cells_of p) && leb (sum_of cell_width (cells_of p)) 40000)

-- the sizes of a section from side to side: BREADTH 1 to 40,000; VOID and GRAIN 1 to 30,000
abbrev pub undivided_limits : (b v g : ℕ) → Bool
undivided_limits b v g = within 1 40000 b && within 1 30000 v && within 1 30000 g

-- beside a board: RUN at least 1 and at most LENGTH; LEFT and RIGHT at least 1, LEFT + RIGHT at most 40,000
abbrev pub split_limits : (length run l r : ℕ) → Bool
split_limits length run l r = within 1 length run && leb 1 l && leb 1 r && leb (l + r) 40000

abbrev pub size_limits : ℕ → Slack → Bool
size_limits length (Undivided b v g) = undivided_limits b v g
size_limits length (Split run l r) = split_limits length run l r

-- a part of `partial`: LENGTH 1 to 60,000, and its sizes
unfoldable pub slack_limits : Part → Bool
slack_limits p = within 1 60000 p.length && size_limits p.length p.slack

-- a part, by the hold's mode
abbrev pub part_limits : Mode → Part → Bool
part_limits Trimmed p = section_limits p
part_limits Voided p = section_limits p
part_limits Partial p = slack_limits p

-- one to six parts; SF 5,000 to 40,000; each part within its limits. (The numbers of parts and cells are the shape's, code 14,
-- and hold for every line that is a hold form; here they make the test serve for a stored record too.)
unfoldable pub hold_limits : Hold → Bool
hold_limits h =
    within 1 6 h.head.count && (within 5000 40000 h.head.factor && all (part_limits h.head.mode) (parts_of h))

-- N, the number of a hold: 1 to 16
abbrev pub place_limits : ℕ → Bool
place_limits n = within 1 16 n

-- a weight item: T 1 to 400,000 tonnes; H 0 to 50,000
unfoldable pub item_limits : WeightItem → Bool
item_limits i = within 1 400000 i.tonnes && within 0 50000 i.height
