-- Document 02, P7, in its own words and numbers: the effective length of a board, and what a part beside it is made of. Nothing here rests on the
-- definitions by which the program is proved.
use Rattle.std.specs.Prelude.{◌≡◌, ◌⊎◌, ℕ, ◌+◌, ◌*◌, ◌-◌, ◌≤◌, ◌<◌, max}
use Rattle.cells.specs.Figures.{RoundedUp}

-- 7 × what is taken off RUN is less than 2 × the breadth + 7, of one of the two: no more is taken off than two-sevenths of it, rounded up
abbrev pub OfOne : (taken l r : ℕ) → Type 0
OfOne taken l r = (7 * taken < 2 * l + 7) ⊎ (7 * taken < 2 * r + 7)

-- e is the effective length. Where some is left, RUN − e is two-sevenths of the greater breadth, rounded up: at least that of each, and of one
-- of them no more. Where none is left, RUN is no more than that
pub record EffectiveLength (run l r e : ℕ) : Type 0 where
  pub within : e ≤ run
  pub left : 0 < e → 2 * l ≤ 7 * (run - e)
  pub right : 0 < e → 2 * r ≤ 7 * (run - e)
  pub greater : OfOne (run - e) l r

-- v is the part's moment in mm⁴: the section moments of the two breadths and of both as one are each slope × breadth³/12, rounded up; the two
-- count over the effective length, the one over the rest of LENGTH
pub record SplitVolume (length run l r v : ℕ) : Type 0 where
  pub effective : ℕ
  pub rest : ℕ
  pub left_moment : ℕ
  pub right_moment : ℕ
  pub whole_moment : ℕ
  pub board : EffectiveLength run l r effective
  pub stretches : effective + rest ≡ length
  pub left : RoundedUp (46631 * (l * l * l)) (12 * 100000) left_moment
  pub right : RoundedUp (46631 * (r * r * r)) (12 * 100000) right_moment
  pub whole : RoundedUp (46631 * ((l + r) * (l + r) * (l + r))) (12 * 100000) whole_moment
  pub sum : v ≡ (left_moment + right_moment) * effective + whole_moment * rest

-- the same with nothing rounded: two-sevenths of the greater breadth are taken off RUN to a seventh of a mm, and the section moments are slope × breadth³/12.
-- In parts of a mm⁴ of which 8,400,000, 7 × 12 × 100,000, make one
abbrev pub sevenths_left : (run l r : ℕ) → ℕ
sevenths_left run l r = 7 * run - 2 * max l r

abbrev pub exact_over : (length sevenths l r : ℕ) → ℕ
exact_over length sevenths l r = 46631 * ((l * l * l + r * r * r) * sevenths + (l + r) * (l + r) * (l + r) * (7 * length - sevenths))

abbrev pub exact_volume : (length run l r : ℕ) → ℕ
exact_volume length run l r = exact_over length (sevenths_left run l r) l r
