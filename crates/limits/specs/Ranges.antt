-- Document 01, Lines of the panel, and document 02, P5 and P7, in their own numbers and of the records' fields: when a record is within its limits. Nothing here rests
-- on the tests by which the program is proved; proofs/Ranges.antt shows that those pass exactly there.
use Rattle.std.specs.Prelude.{◌≡◌, ℕ, ◌+◌, ◌≤◌, ◌<◌, length, get_or}
use Rattle.whole.specs.Lists.{sum_of}
use Rattle.record.specs.declared.Rule.{Rule}
use Rattle.record.specs.declared.Rule.TheVariants.{New, Old}
use Rattle.record.specs.declared.Ship.{Ship}
use Rattle.record.specs.declared.Load.{Load}
use Rattle.record.specs.declared.Column.{Column}
use Rattle.record.specs.declared.Mode.{Mode}
use Rattle.record.specs.declared.Mode.TheVariants.{Trimmed, Voided, Partial}
use Rattle.record.specs.declared.Cell.{Cell}
use Rattle.record.specs.declared.Cell.TheVariants.{Wing, Hatch, Void}
use Rattle.record.specs.declared.Slack.{Slack}
use Rattle.record.specs.declared.Slack.TheVariants.{Undivided, Split}
use Rattle.record.specs.declared.Part.{Part}
use Rattle.record.specs.declared.Hold.{Hold}
use Rattle.record.specs.declared.WeightItem.{WeightItem}
use Rattle.record.specs.Filler.{no_part}
use Rattle.record.specs.Held.{cell_width, cells_of, parts_of}

-- `(ship RULE EDGE FLOOD)`: EDGE, under either rule, and FLOOD each 1 to 9,000
abbrev pub EdgeRange : Rule → Type 0
EdgeRange (New edge) = (1 ≤ edge) × (edge ≤ 9000)
EdgeRange (Old edge) = (1 ≤ edge) × (edge ≤ 9000)

abbrev pub ShipRange : Ship → Type 0
ShipRange s = EdgeRange s.rule × (1 ≤ s.flood) × (s.flood ≤ 9000)

-- `(load D KG FS)`: D 100 to 400,000; KG 1 to 50,000; FS 0 to 10,000
abbrev pub LoadRange : Load → Type 0
LoadRange l = (100 ≤ l.d) × (l.d ≤ 400000) × (1 ≤ l.kg) × (l.kg ≤ 50000) × (l.fs ≤ 10000)

-- `(column D KM (K ..))`: D likewise; KM 1 to 50,000; each KN 0 to 50,000, the first 0
abbrev pub ColumnRange : Column → Type 0
ColumnRange k =
    (100 ≤ k.d) × (k.d ≤ 400000) × (1 ≤ k.km) × (k.km ≤ 50000) × (get_or k.kn 0 0 ≡ 0)
    × ((i : ℕ) → i < length k.kn → get_or k.kn i 0 ≤ 50000)

-- `(wing WIDTH DIST GIRDER LIP)`, `(hatch WIDTH OPEN LIP)`, `(void WIDTH DEPTH LIP)`
abbrev pub CellRange : Cell → Type 0
CellRange (Wing width dist girder lip) = (1 ≤ width) × (width ≤ 40000) × (dist ≤ 20000) × (girder ≤ 3000) × (lip ≤ 10000)
CellRange (Hatch width opening lip) = (1 ≤ width) × (width ≤ 40000) × (opening ≤ 3000) × (lip ≤ 10000)
CellRange (Void width depth lip) = (1 ≤ width) × (width ≤ 40000) × (depth ≤ 5000) × (lip ≤ 10000)

-- `(part LENGTH CELL ..)`: LENGTH 1 to 60,000, one to eight cells, the widths together at most 40,000
abbrev pub SectionRange : Part → Type 0
SectionRange p =
    (1 ≤ p.count) × (p.count ≤ 8) × (1 ≤ p.length) × (p.length ≤ 60000)
    × ((i : ℕ) → i < length (cells_of p) → CellRange (get_or (cells_of p) i (Void 0 0 0))) × (sum_of cell_width (cells_of p) ≤ 40000)

-- `(part LENGTH BREADTH VOID GRAIN)`, `(split LENGTH RUN LEFT RIGHT)`
abbrev pub SizeRange : ℕ → Slack → Type 0
SizeRange length (Undivided breadth void grain) =
    (1 ≤ breadth) × (breadth ≤ 40000) × (1 ≤ void) × (void ≤ 30000) × (1 ≤ grain) × (grain ≤ 30000)
SizeRange length (Split run left right) = (1 ≤ run) × (run ≤ length) × (1 ≤ left) × (1 ≤ right) × (left + right ≤ 40000)

abbrev pub SlackRange : Part → Type 0
SlackRange p = (1 ≤ p.length) × (p.length ≤ 60000) × SizeRange p.length p.slack

abbrev pub PartRange : Mode → Part → Type 0
PartRange Trimmed p = SectionRange p
PartRange Voided p = SectionRange p
PartRange Partial p = SlackRange p

-- `(hold N MODE SF PART ..)`: SF 5,000 to 40,000, one to six parts
abbrev pub HoldRange : Hold → Type 0
HoldRange h =
    (1 ≤ h.head.count) × (h.head.count ≤ 6) × (5000 ≤ h.head.factor) × (h.head.factor ≤ 40000)
    × ((i : ℕ) → i < length (parts_of h) → PartRange h.head.mode (get_or (parts_of h) i no_part))

-- N 1 to 16
abbrev pub PlaceRange : ℕ → Type 0
PlaceRange n = (1 ≤ n) × (n ≤ 16)

-- `(weight T H)`: T 1 to 400,000 tonnes; H 0 to 50,000
abbrev pub ItemRange : WeightItem → Type 0
ItemRange i = (1 ≤ i.tonnes) × (i.tonnes ≤ 400000) × (i.height ≤ 50000)

-- `(weighed FS)`: FS 0 to 10,000
abbrev pub RiseRange : ℕ → Type 0
RiseRange fs = fs ≤ 10000
