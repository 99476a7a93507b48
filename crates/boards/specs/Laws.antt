-- Laws of a part beside a board. Proved in proofs/Laws.antt.
use Rattle.std.specs.Prelude.{◌≡◌, ◌⊎◌, ◌↔◌, ℕ, ◌+◌, ◌*◌, ◌-◌, ◌≤◌, ◌<◌, max}
use Rattle.whole.specs.Divide.{ceil_div}
use Rattle.slack.specs.Deck.{uncut_moment, deck_moment}
use Rattle.boards.specs.Split.{effective_length, beside_board, split_volume}
use Rattle.boards.specs.Exact.{EffectiveLength, SplitVolume, exact_volume}

-- P7's rule of the effective length e, by the greater breadth: where some is left, 7 × (RUN − e) is at least 2 × each breadth and less than 2 × the greater + 7;
-- none is left exactly where 7 × RUN is less than 2 × the greater + 7
abbrev pub LeftOfRun : Type 0
LeftOfRun =
    (run l r : ℕ) → 0 < effective_length run l r →
    (2 * l ≤ 7 * (run - effective_length run l r)) × (2 * r ≤ 7 * (run - effective_length run l r))
    × (7 * (run - effective_length run l r) < 2 * max l r + 7)

abbrev pub NothingLeft : Type 0
NothingLeft = (run l r : ℕ) → (effective_length run l r ≡ 0) ↔ (7 * run < 2 * max l r + 7)

-- no other number is an effective length
abbrev pub OneEffectiveLength : Type 0
OneEffectiveLength = (run l r e : ℕ) → EffectiveLength run l r e → e ≡ effective_length run l r

-- what is weighed is made as the request says, of every board that is no longer than its part
abbrev pub VolumesAreMade : Type 0
VolumesAreMade = (length run l r : ℕ) → run ≤ length → SplitVolume length run l r (split_volume length run l r)

-- so a part's sum is never below the exact one, and above it by less than 2 × LENGTH + LEFT × RIGHT × (LEFT + RIGHT)/10 mm⁴
abbrev pub NearTheExact : Type 0
NearTheExact =
    (length run l r : ℕ) → run ≤ length → 1 ≤ l → 1 ≤ r →
    (exact_volume length run l r ≤ 8400000 * split_volume length run l r)
    × (8400000 * split_volume length run l r < exact_volume length run l r + 16800000 * length + 840000 * (l * r * (l + r)))

-- two breadths that shift separately have no more than both as one, but for two of 1 mm, whose roundings give 2 against 1
abbrev pub SeparatelyNoMore : Type 0
SeparatelyNoMore = (l r : ℕ) → 1 ≤ l → 1 ≤ r → (beside_board l r ≤ uncut_moment (l + r)) ⊎ ((l ≡ 1) × (r ≡ 1))

-- so in thousandths of m⁴ a part beside a board has never more than one of the breadth LEFT + RIGHT that deck and floor do not cut
abbrev pub BoardsAddNothing : Type 0
BoardsAddNothing =
    (length run l r : ℕ) → 1 ≤ length → length ≤ 60000 → run ≤ length → 1 ≤ l → 1 ≤ r → l + r ≤ 40000 →
    ceil_div (split_volume length run l r) 1000000000 ≤ ceil_div (deck_moment (l + r) 30000 30000 * length) 1000000000

-- and with nothing effective it has the same
abbrev pub IneffectiveAlike : Type 0
IneffectiveAlike =
    (length run l r : ℕ) → l + r ≤ 40000 → effective_length run l r ≡ 0 → split_volume length run l r ≡ deck_moment (l + r) 30000 30000 * length

-- 64 bits hold it: at most 1.5 × 10¹⁷ mm⁴
abbrev pub VolumeFits : Type 0
VolumeFits = (length run l r : ℕ) → length ≤ 60000 → run ≤ length → l + r ≤ 40000 → split_volume length run l r ≤ 150000000000000000

-- all of them
pub record Laws : Type 0 where
  pub left_of_run : LeftOfRun
  pub nothing_left : NothingLeft
  pub one_effective_length : OneEffectiveLength
  pub volumes_are_made : VolumesAreMade
  pub near_the_exact : NearTheExact
  pub separately_no_more : SeparatelyNoMore
  pub boards_add_nothing : BoardsAddNothing
  pub ineffective_alike : IneffectiveAlike
  pub volume_fits : VolumeFits
