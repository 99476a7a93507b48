-- Document 01, Shifted voids of a trimmed section to the sum, in its own words and numbers: what each figure of a hold is, by products of
-- the records' fields. Nothing here rests on the definitions by which the program is proved; proofs/Figures.antt shows that these give such
-- figures. Cells and parts are counted from 0.
use Rattle.std.specs.Prelude.{◌≡◌, List, ℕ, zero, suc, ◌+◌, ◌*◌, ◌-◌, ◌≤◌, ◌<◌, min, length, get_or, take}
use Rattle.whole.specs.Root.{RootAt}
use Rattle.whole.specs.Lists.{sum_of}
use Rattle.record.specs.declared.Mode.{Mode}
use Rattle.record.specs.declared.Mode.TheVariants.{Trimmed, Voided, Partial}
use Rattle.record.specs.declared.Cell.{Cell}
use Rattle.record.specs.declared.Cell.TheVariants.{Void}
use Rattle.record.specs.declared.Slack.{Slack}
use Rattle.record.specs.declared.Slack.TheVariants.{Undivided, Split}
use Rattle.record.specs.declared.Part.{Part}
use Rattle.record.specs.declared.Hold.{Hold}
use Rattle.record.specs.Filler.{no_part}
use Rattle.record.specs.Held.{cell_width, cell_lip, cells_of, parts_of}
use Rattle.cells.specs.Figures.{RoundedUp, RoundedDown, CellArea, MostHeld}
use Rattle.slack.specs.Exact.{DeckMoment}
use Rattle.boards.specs.Exact.{SplitVolume}

-- f 0 + f 1 + .. + f (n − 1)
unfoldable pub total : ℕ → (ℕ → ℕ) → ℕ
total zero f = 0
total (suc n) f = f 0 + total n (λ i. f (suc i))

-- ---- Shifted voids of a trimmed section

-- the i-th cell from the low side
abbrev pub cell : List Cell → ℕ → Cell
cell cs i = get_or cs i (Void 0 0 0)

-- The areas before, and the kept areas: every cell but the last keeps the smaller of its area and the most that it can hold, and the
-- kept areas add up to the areas before, so that the excess of all is the last one's.
pub record KeptAreas (cs : List Cell) : Type 0 where
  pub area : ℕ → ℕ
  pub kept : ℕ → ℕ
  pub areas : (i : ℕ) → i < length cs → CellArea (cell cs i) (area i)
  pub inner :
      (i : ℕ) → i + 1 < length cs →
      (most : ℕ) × MostHeld (cell_width (cell cs i)) (cell_lip (cell cs i)) most × (kept i ≡ min (area i) most)
  pub together : total (length cs) kept ≡ total (length cs) area

-- a section's void fits: the last cell has no more than it can hold. If it has more: code 21
pub record Fits (cs : List Cell) : Type 0 where
  pub areas : KeptAreas cs
  pub most : ℕ
  pub is : MostHeld (cell_width (cell cs (length cs - 1))) (cell_lip (cell cs (length cs - 1))) most
  pub holds : areas.kept (length cs - 1) ≤ most

-- The exact first moment of a kept area a in a cell of width w, from its high boundary, lies from lo to hi, both times 1,200,000 × k.
-- A triangle where a ≤ slope × w²/2: a × b/3 with the base b, b² = 2a/slope, from r/k to (r + 1)/k. Else a trapezium:
-- a × w/2 − slope × w³/12.
pub record FirstMoment (k w a lo hi : ℕ) : Type 0 where
  pub triangle :
      200000 * a ≤ 26795 * (w * w) →
      (r : ℕ) × RootAt (200000 * a) 26795 k r × (lo ≡ 400000 * (a * r)) × (hi ≡ 400000 * (a * (r + 1)))
  pub trapezium :
      26795 * (w * w) < 200000 * a → (lo + k * (26795 * (w * w * w)) ≡ k * (600000 * (a * w))) × (hi ≡ lo)

-- the distance of the i-th boundary from the section's low end: the low one of the i-th cell, and the high one of the cell before it
abbrev pub boundary : List Cell → ℕ → ℕ
boundary cs i = sum_of cell_width (take i cs)

-- Demand 2 of a section moment m, at the scale k, with first moments from lo to hi. The exact section moment is the sum of kept area ×
-- distance of its high boundary, less the first moments, less the sum of old area × distance of the cell's middle, which is half
-- the sum of the cell's two boundaries. m is never below it, and exceeds it by less than a third of the void area plus the number
-- of cells plus one.
pub record Accurate (cs : List Cell) (s : KeptAreas cs) (m k : ℕ) (lo hi : ℕ → ℕ) : Type 0 where
  pub never_below :
      1200000 * (k * total (length cs) (λ i. s.kept i * boundary cs (suc i)))
      ≤ 1200000 * (k * m) + total (length cs) lo
      + 600000 * (k * total (length cs) (λ i. s.area i * (boundary cs i + boundary cs (suc i))))
  pub never_far :
      1200000 * (k * m) + total (length cs) hi
      + 600000 * (k * total (length cs) (λ i. s.area i * (boundary cs i + boundary cs (suc i))))
      < 1200000 * (k * total (length cs) (λ i. s.kept i * boundary cs (suc i)))
      + 400000 * (k * total (length cs) s.area) + 1200000 * (k * (length cs + 1))

-- f is the first moment of a kept area a in a cell of width w, as the program takes it: the base b rounded down, and then the moment
pub record FirstTaken (w a f : ℕ) : Type 0 where
  pub triangle : 200000 * a ≤ 26795 * (w * w) → (b : ℕ) × RootAt (200000 * a) 26795 1 b × RoundedDown (a * b) 3 f
  pub trapezium :
      26795 * (w * w) < 200000 * a →
      (1200000 * f + 26795 * (w * w * w) ≤ 600000 * (a * w)) × (600000 * (a * w) < 1200000 * f + 26795 * (w * w * w) + 1200000)

-- m is the section moment of these cells. It is made with three roundings: each base, each first moment, and once the sum for old areas. And
-- so it is accurate at every whole scale from 1 up; at each there are first moments to compare it with.
pub record SectionMoment (cs : List Cell) (m : ℕ) : Type 0 where
  pub areas : KeptAreas cs
  pub first : ℕ → ℕ
  pub old : ℕ
  pub firsts : (i : ℕ) → i < length cs → FirstTaken (cell_width (cell cs i)) (areas.kept i) (first i)
  pub olds : RoundedDown (total (length cs) (λ i. areas.area i * (boundary cs i + boundary cs (suc i)))) 2 old
  pub made : m + total (length cs) first + old ≡ total (length cs) (λ i. areas.kept i * boundary cs (suc i))
  pub accurate :
      (k : ℕ) → 0 < k → (lo hi : ℕ → ℕ) →
      ((i : ℕ) → i < length cs → FirstMoment k (cell_width (cell cs i)) (areas.kept i) (lo i) (hi i)) →
      Accurate cs areas m k lo hi
  pub scales :
      (k : ℕ) → 0 < k →
      (lo : ℕ → ℕ) × (hi : ℕ → ℕ) × ((i : ℕ) → i < length cs → FirstMoment k (cell_width (cell cs i)) (areas.kept i) (lo i) (hi i))

-- ---- Partly filled, and the sum

-- v is the section moment of these cells × LENGTH, in mm⁴
pub record SectionVolume (p : Part) (v : ℕ) : Type 0 where
  pub moment : ℕ
  pub section : SectionMoment (cells_of p) moment
  pub volume : v ≡ moment * p.length

-- the same of a section from side to side, by the shape in which void and grain lie under the deck (document 02, P3; slack/specs/Exact.antt)
pub record DeckVolume (length breadth void grain v : ℕ) : Type 0 where
  pub moment : ℕ
  pub section : DeckMoment breadth void grain moment
  pub volume : v ≡ moment * length

-- of a partly filled part: so, or with a board along some of LENGTH (document 02, P7; boards/specs/Exact.antt)
abbrev pub SlackVolume : ℕ → Slack → ℕ → Type 0
SlackVolume length (Undivided breadth void grain) v = DeckVolume length breadth void grain v
SlackVolume length (Split run left right) v = SplitVolume length run left right v

-- of any part
abbrev pub PartVolume : Mode → Part → ℕ → Type 0
PartVolume Trimmed p v = SectionVolume p v
PartVolume Voided p v = SectionVolume p v
PartVolume Partial p v = SlackVolume p.length p.slack v

-- the i-th part of a hold
abbrev pub part : Hold → ℕ → Part
part h i = get_or (parts_of h) i no_part

-- every part's void fits; those of `partial` have no cells
abbrev pub PartFits : Mode → Part → Type 0
PartFits Trimmed p = Fits (cells_of p)
PartFits Voided p = Fits (cells_of p)
PartFits Partial p = Unit {0}

abbrev pub HoldFits : Hold → Type 0
HoldFits h = (i : ℕ) → i < length (parts_of h) → PartFits h.head.mode (part h i)

-- the percentage of a hold
abbrev pub percent : Mode → ℕ
percent Trimmed = 100
percent Voided = 106
percent Partial = 112

-- w is the weight moment of a hold, in kg·m: a part is section moment × LENGTH, or the sum over its two stretches, rounded up once to
-- thousandths of m⁴ (10⁹ mm⁴ each); a hold is the sum of its parts × its percentage, rounded up; its weight moment is 10,000 × that/SF,
-- rounded up
pub record WeightMoment (h : Hold) (w : ℕ) : Type 0 where
  pub volumes : ℕ → ℕ
  pub parts : ℕ → ℕ
  pub moment : ℕ
  pub volume : (i : ℕ) → i < length (parts_of h) → PartVolume h.head.mode (part h i) (volumes i)
  pub rounded : (i : ℕ) → i < length (parts_of h) → RoundedUp (volumes i) 1000000000 (parts i)
  pub hold : RoundedUp (percent h.head.mode * total (length (parts_of h)) parts) 100 moment
  pub weight : RoundedUp (10000 * moment) h.head.factor w
