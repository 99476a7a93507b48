-- Document 02, P7, with source document 001, part B section IV (B): a partly filled part with a longitudinal board along some of its length.
-- run is the board's length, l and r are the breadths to the left and to the right of it, all in mm.
use Rattle.std.specs.Prelude.{ℕ, ◌+◌, ◌*◌, ◌-◌, max}
use Rattle.whole.specs.Divide.{ceil_div}
use Rattle.slack.specs.Deck.{uncut_moment}

-- two-sevenths of the greater breadth, rounded up
abbrev pub deduction : (l r : ℕ) → ℕ
deduction l r = ceil_div (2 * max l r) 7

-- the length over which the board is effective: RUN less the deduction, 0 where nothing is left
abbrev pub effective_length : (run l r : ℕ) → ℕ
effective_length run l r = run - deduction l r

-- the section moment, in mm³, where the two breadths shift separately. Depths are not given: each is uncut
abbrev pub beside_board : (l r : ℕ) → ℕ
beside_board l r = uncut_moment l + uncut_moment r

-- section moment × length, in mm⁴: over the length e the two breadths shift separately, over the rest of LENGTH the breadth LEFT + RIGHT does
abbrev pub two_stretches : (length e l r : ℕ) → ℕ
two_stretches length e l r = beside_board l r * e + uncut_moment (l + r) * (length - e)

unfoldable pub split_volume : (length run l r : ℕ) → ℕ
split_volume length run l r = two_stretches length (effective_length run l r) l r
