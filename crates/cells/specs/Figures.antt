-- Document 01, Void depth and what a cell can hold, with the tenths of document 02, P1, in their own words and numbers: what each figure of
-- a cell is, by products of its fields. Nothing here rests on the definitions by which the program is proved; proofs/Figures.antt shows
-- that these give such figures.
use Rattle.std.specs.Prelude.{◌≡◌, List, [], ◌∷◌, ℕ, ◌+◌, ◌*◌, ◌-◌, ◌≤◌, ◌<◌, get_or}
use Rattle.record.specs.declared.Cell.{Cell}
use Rattle.record.specs.declared.Cell.TheVariants.{Wing, Hatch, Void}

-- m is n/d rounded up, and rounded down
abbrev pub RoundedUp : (n d m : ℕ) → Type 0
RoundedUp n d m = (n ≤ d * m) × (d * m < n + d)

abbrev pub RoundedDown : (n d m : ℕ) → Type 0
RoundedDown n d m = (d * m ≤ n) × (n < d * m + d)

-- ---- Void depth

-- Table B 1-1 as printed: the distance in mm, and the standard depth in mm
abbrev pub printed_distances : List ℕ
printed_distances =
    500 ∷ 1000 ∷ 1500 ∷ 2000 ∷ 2500 ∷ 3000 ∷ 3500 ∷ 4000 ∷ 4500 ∷ 5000 ∷ 5500 ∷ 6000 ∷ 6500 ∷ 7000 ∷ 7500 ∷ 8000 ∷ []

abbrev pub printed_depths : List ℕ
printed_depths = 570 ∷ 530 ∷ 500 ∷ 480 ∷ 450 ∷ 440 ∷ 430 ∷ 430 ∷ 430 ∷ 430 ∷ 450 ∷ 470 ∷ 490 ∷ 520 ∷ 550 ∷ 590 ∷ []

-- the standard depth at the distance x is d/500 mm: below 0.5 m 570; between two entries, the k-th and the next, linear; above 8.0 m
-- 80 mm more for each metre
pub record StandardDepth (x d : ℕ) : Type 0 where
  pub below : x < 500 → d ≡ 500 * 570
  pub between :
      (k t : ℕ) → k < 15 → t ≤ 500 → x ≡ get_or printed_distances k 0 + t →
      d ≡ get_or printed_depths k 0 * (500 - t) + get_or printed_depths (k + 1) 0 * t
  pub above : (t : ℕ) → x ≡ 8000 + t → 1000 * d ≡ 500 * (1000 * 590 + 80 * t)

-- a wing's depth, not rounded, is e/500 mm: the standard depth plus 0.75 × (GIRDER − 600), which is 375/500 for each mm, and at least
-- 100
pub record WingUnrounded (dist girder e : ℕ) : Type 0 where
  pub standard : ℕ
  pub is : StandardDepth dist standard
  pub least : 500 * 100 ≤ e
  pub not_below : standard + 375 * girder ≤ e + 375 * 600
  pub not_above : 500 * 100 < e → e + 375 * 600 ≤ standard + 375 * girder

-- rounded up once, to a tenth of a mm, it is depth/10 mm
abbrev pub WingDepth : (dist girder depth : ℕ) → Type 0
WingDepth dist girder depth = (e : ℕ) × WingUnrounded dist girder e × RoundedUp e 50 depth

-- a cell's void area, in mm²: width × depth, rounded up to whole mm²; a hatch's depth is OPEN + 150, a void cell's DEPTH, in whole mm
abbrev pub CellArea : Cell → ℕ → Type 0
CellArea (Wing width dist girder lip) a = (depth : ℕ) × WingDepth dist girder depth × RoundedUp (width * depth) 10 a
CellArea (Hatch width opening lip) a = a ≡ width * (opening + 150)
CellArea (Void width depth lip) a = a ≡ width * depth

-- What the two steps cost a yard: the area a of a wing whose depth is e/500 mm, not rounded. It is not below width × that depth, above it
-- by less than a tenth of the width plus one, in mm², and not above what a step to whole mm gives.
pub record WingAreaNear (width e a : ℕ) : Type 0 where
  pub not_below : width * e ≤ 500 * a
  pub near : 500 * a < width * e + 50 * width + 500
  pub not_above_whole : (mm : ℕ) → RoundedUp e 500 mm → a ≤ width * mm

-- the same of every cell: a hatch's and a void cell's area is width × depth (`area_by_depth`, proofs/Tenths.antt)
abbrev pub AreaByDepth : Cell → ℕ → Type 0
AreaByDepth (Wing width dist girder lip) a = (e : ℕ) → WingUnrounded dist girder e → WingAreaNear width e a
AreaByDepth (Hatch width opening lip) a = a ≡ width * (opening + 150)
AreaByDepth (Void width depth lip) a = a ≡ width * depth

-- ---- Shifted voids of a trimmed section: what a cell can hold

-- the most that a cell of width w can hold against a lip g: g²/(2 × slope) if g ≤ slope × w, else w × g − slope × w²/2, rounded
-- down to whole mm²; the slope is 26,795/100,000
pub record MostHeld (w g m : ℕ) : Type 0 where
  pub low : 100000 * g ≤ 26795 * w → RoundedDown (100000 * (g * g)) (2 * 26795) m
  pub high :
      26795 * w < 100000 * g →
      (200000 * m + 26795 * (w * w) ≤ 200000 * (w * g)) × (200000 * (w * g) < 200000 * m + 26795 * (w * w) + 200000)
