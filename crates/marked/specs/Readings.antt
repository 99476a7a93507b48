-- Document 01, Readings to check by, with the depths in tenths of a mm as document 02, P1 has them: the proved set, as one table of what the
-- definitions give and what the papers print. Behind them partly filled sections under the deck (P3), one of each shape worked by hand
-- (docs/COMMISSIONING.md), and one whose exact base is 1,000 mm; and a part beside a board (P7), worked by hand there too: its effective
-- length, that of boards as long as what is taken off and 1 mm longer, and section moment × length.
use Rattle.std.specs.Prelude.{Bool, List, [], ◌∷◌, ℕ, T, eqb}
use Rattle.whole.specs.Root.{root_digits}
use Rattle.whole.specs.Lists.{all, sum_of}
use Rattle.record.specs.declared.Cell.TheVariants.{Void}
use Rattle.cells.specs.Depth.{standard_depth, wing_depth, cell_depth, cell_area}
use Rattle.cells.specs.Sizes.{most_held}
use Rattle.slack.specs.Deck.{deck_moment}
use Rattle.slack.specs.Deck as Deck
use Rattle.boards.specs.Split.{effective_length, split_volume}
use Rattle.grain.specs.Section.{kept_from, base, first_moment, high_moment, old_twice, section_moment}

pub record Reading : Type 0 where
  pub given : ℕ
  pub printed : ℕ

infix 40 ◌reads◌
abbrev pub ◌reads◌ : ℕ → ℕ → Reading
given reads printed = record { given = given; printed = printed }

abbrev pub readings : List Reading
readings =
    (wing_depth 4000 600 reads 4300)
    ∷ (wing_depth 4000 0 reads 1000)
    ∷ (wing_depth 4000 160 reads 1000)
    ∷ (wing_depth 4000 161 reads 1008)
    ∷ (wing_depth 8000 600 reads 5900)
    ∷ (wing_depth 8001 600 reads 5901)
    ∷ (wing_depth 5250 600 reads 4400)
    ∷ (wing_depth 499 600 reads 5700)
    ∷ (most_held 2000 100 reads 18660)
    ∷ (base (cell_area (Void 10000 500 5000)) reads 6109)
    ∷ (section_moment (Void 10000 500 5000 ∷ []) reads 14818333334)
    ∷ (deck_moment 12000 3000 6000 reads 67148640000)
    ∷ (deck_moment 12000 600 6000 reads 29863200000)
    ∷ (deck_moment 20000 9000 500 reads 78170000000)
    ∷ (deck_moment 20000 1500 1500 reads 144826278293)
    ∷ (Deck.base 233155 reads 1000)
    ∷ (deck_moment 1055 221 6000 reads 45270930)
    ∷ (effective_length 10000 6000 6000 reads 8285)
    ∷ (effective_length 1715 6000 6000 reads 0)
    ∷ (effective_length 1716 5999 6000 reads 1)
    ∷ (split_volume 20000 10000 6000 6000 reads 925727938200000)
    ∷ []

-- each figure is the printed one
abbrev pub right : Reading → Bool
right r = eqb r.given r.printed

pub readings_hold : T (all right readings)
unfolding all standard_depth wing_depth cell_depth cell_area most_held root_digits kept_from first_moment sum_of high_moment old_twice section_moment deck_moment split_volume
readings_hold = tt
