-- Document 01, Shifted voids of a trimmed section. A section is its cells from the low side to the high side; areas in mm²,
-- moments in mm³.
use Rattle.std.specs.Prelude.{Bool, true, cond, List, [], ◌∷◌, ℕ, ◌+◌, ◌*◌, ◌-◌, ◌/◌, min, leb}
use Rattle.whole.specs.Root.{root}
use Rattle.whole.specs.Lists.{sum_of}
use Rattle.record.specs.declared.Cell.{Cell}
use Rattle.record.specs.Held.{cell_width}
use Rattle.cells.specs.Depth.{cell_area}
use Rattle.cells.specs.Sizes.{slope15, cell_most}

-- a kept area, in a cell of this width
pub record Kept : Type 0 where
  pub width : ℕ
  pub area : ℕ

abbrev pub kept : (width area : ℕ) → Kept
kept w a = record { width = w; area = a }

-- The kept areas of a section, with an excess from the cells before it: every cell but the last keeps the smaller of its
-- area and the most that it can hold; the excess of all goes to the last.
unfoldable pub kept_from : ℕ → List Cell → List Kept
kept_from excess [] = []
kept_from excess (c ∷ []) = kept (cell_width c) (cell_area c + excess) ∷ []
kept_from excess (c ∷ d ∷ cs) =
    kept (cell_width c) (min (cell_area c) (cell_most c)) ∷ kept_from (excess + (cell_area c - cell_most c)) (d ∷ cs)

abbrev pub kept_of : List Cell → List Kept
kept_of cs = kept_from 0 cs

-- whether the last cell can hold what it then has; if not: code 21
unfoldable pub fits_from : ℕ → List Cell → Bool
fits_from excess [] = true
fits_from excess (c ∷ []) = leb (cell_area c + excess) (cell_most c)
fits_from excess (c ∷ d ∷ cs) = fits_from (excess + (cell_area c - cell_most c)) (d ∷ cs)

abbrev pub fits : List Cell → Bool
fits cs = fits_from 0 cs

-- a kept area lies as a triangle where A ≤ slope × w²/2
abbrev pub is_triangle : Kept → Bool
is_triangle k = leb (200000 * k.area) (slope15 * (k.width * k.width))

-- the triangle's base b, with b² = 2A/slope, rounded down
abbrev pub base : ℕ → ℕ
base area = root (200000 * area / slope15)

-- 1,200,000 times the first moment of a trapezium from its high boundary: A × w/2 − slope × w³/12
abbrev pub trapezium : Kept → ℕ
trapezium k = 600000 * (k.area * k.width) - slope15 * (k.width * (k.width * k.width))

-- the first moment of a kept area from its high boundary, rounded down: A × b/3 or the trapezium's
unfoldable pub first_moment : Kept → ℕ
first_moment k = cond (is_triangle k) (k.area * base k.area / 3) (trapezium k / 1200000)

-- the kept areas × the distance of each high boundary from the section's low end, added up; x is where the first cell begins
unfoldable pub high_moment : ℕ → List Kept → ℕ
high_moment x [] = 0
high_moment x (k ∷ ks) = k.area * (x + k.width) + high_moment (x + k.width) ks

-- twice the old areas × the distance of each cell's middle, added up
unfoldable pub old_twice : ℕ → List Cell → ℕ
old_twice x [] = 0
old_twice x (c ∷ cs) = cell_area c * (2 * x + cell_width c) + old_twice (x + cell_width c) cs

-- The section moment. The sum for the old areas is rounded down once. (Neither subtraction is cut at zero for a section within its
-- limits: `section_not_negative`.)
unfoldable pub section_moment : List Cell → ℕ
section_moment cs = high_moment 0 (kept_of cs) - sum_of first_moment (kept_of cs) - old_twice 0 cs / 2
