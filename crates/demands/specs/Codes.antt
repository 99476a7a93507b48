-- Documents 01 and 02, Codes, by operation, in their own words and numbers: where each code is given, both ways. What a code of an operation says
-- stands in operations/specs/Codes.antt and judging/specs/Codes.antt; demand 3 says the same of 00 and 40 to 43 for judge.
use Rattle.std.specs.Prelude.{◌≡◌, List, ◌↔◌, ℕ, ◌≤◌, ◌<◌, length, Option, Some, None}
use Rattle.record.specs.declared.Ship.{Ship}
use Rattle.record.specs.declared.Load.{Load}
use Rattle.record.specs.declared.Column.{Column}
use Rattle.record.specs.declared.Hold.{Hold}
use Rattle.record.specs.declared.WeightItem.{WeightItem}
use Rattle.record.specs.declared.Weighing.TheVariants.{Weight, Weighed, Unweigh}
use Rattle.record.specs.Held.{held}
use Rattle.limits.specs.Ranges.{ShipRange, LoadRange}
use Rattle.text.specs.Token.{tokens}
use Rattle.line_codes.specs.Codes.{OtherByte, AllAllowed, Nested, NoNumber}
use Rattle.forms.specs.declared.Request.{Request}
use Rattle.forms.specs.declared.Request.TheVariants.{ShipLine, ColumnLine, LoadLine, HoldLine, DropLine, JudgeLine, ClearLine, ShowLine, TotalLine, WeighingLine}
use Rattle.request.specs.Shape.{request_of}
use Rattle.condition.specs.declared.Condition.{Condition}
use Rattle.judging.specs.Codes.{JudgeCodes}
use Rattle.operations.specs.Codes.{LimitCodes, ColumnCodes, HoldCodes, DropCodes, WeightCodes, WeighedCodes}
use Rattle.sending.specs.Within.{Within}

-- ---- what a line asks for

-- the request of a line's form; none where it has no shape
abbrev pub request : List ℕ → Option Request
request line = request_of (tokens line)

-- none of 10 to 13 applies
abbrev pub SoundLine : List ℕ → Type 0
SoundLine line = (length line ≤ 2000) × AllAllowed line × Nested line × (NoNumber line → ⊥)

-- a line lent at least 96 bytes, to which none of 10 to 13 applies, asks for what its form says
pub record Asks (line : List ℕ) (lent : ℕ) (form : Option Request) : Type 0 where
  pub room : 96 ≤ lent
  pub sound : SoundLine line
  pub asked : request line ≡ form

-- ---- Every line: 15, 10, 11, 12, 13
pub record EveryLine (line : List ℕ) (lent code : ℕ) : Type 0 where
  pub fifteen : (code ≡ 15) ↔ (lent < 96)
  pub ten : (code ≡ 10) ↔ ((96 ≤ lent) × (2000 < length line))
  pub eleven : (code ≡ 11) ↔ ((96 ≤ lent) × ((length line ≤ 2000) × OtherByte line))
  pub twelve : (code ≡ 12) ↔ ((96 ≤ lent) × ((length line ≤ 2000) × AllAllowed line × (Nested line → ⊥)))
  pub thirteen : (code ≡ 13) ↔ ((96 ≤ lent) × ((length line ≤ 2000) × AllAllowed line × Nested line × NoNumber line))

-- ---- all of them
pub record ByOperation (c : Condition) (line : List ℕ) (lent code : ℕ) : Type 0 where
  pub every : EveryLine line lent code
  pub no_shape : (code ≡ 14) ↔ Asks line lent None
  pub ship : (s : Ship) → Asks line lent (Some (ShipLine s)) → LimitCodes (ShipRange s) code
  pub load : (l : Load) → Asks line lent (Some (LoadLine l)) → LimitCodes (LoadRange l) code
  pub column : (k : Column) → Asks line lent (Some (ColumnLine k)) → ColumnCodes (held c.columns) k code
  pub hold : (n : ℕ) (h : Hold) → Asks line lent (Some (HoldLine n h)) → HoldCodes n h code
  pub drop : (n : ℕ) → Asks line lent (Some (DropLine n)) → DropCodes c n code
  pub judge : Within c → Asks line lent (Some JudgeLine) → JudgeCodes c code
  pub clear : Asks line lent (Some ClearLine) → code ≡ 0
  -- document 02, P2: 16 where fewer than 2,100 bytes are lent for a show line, tested after 14
  pub sixteen : (code ≡ 16) ↔ (Asks line lent (Some ShowLine) × (lent < 2100))
  pub show : Asks line lent (Some ShowLine) → 2100 ≤ lent → code ≡ 0
  -- document 02, P4
  pub total : Asks line lent (Some TotalLine) → code ≡ 0
  -- document 02, P5
  pub weight : (i : WeightItem) → Asks line lent (Some (WeighingLine (Weight i))) → WeightCodes c i code
  pub weighed : (fs : ℕ) → Asks line lent (Some (WeighingLine (Weighed fs))) → WeighedCodes c fs code
  pub unweigh : Asks line lent (Some (WeighingLine Unweigh)) → code ≡ 0
