-- Document 02, P7, of whole holds: a board never makes a hold heavier than it is with the same part from side to side under a deck that the
-- grain does not reach. (Against a part that the deck cuts it may: docs/CODES.md.)
use Rattle.std.specs.Prelude.{◌≡◌, true, List, ◌∷◌, ◌++◌, ℕ, ◌+◌, ◌≤◌}
use Rattle.record.specs.declared.Mode.TheVariants.{Partial}
use Rattle.record.specs.declared.Slack.TheVariants.{Undivided, Split}
use Rattle.record.specs.declared.Part.{Part}
use Rattle.record.specs.declared.Hold.{Hold}
use Rattle.record.specs.Held.{parts_of}
use Rattle.limits.specs.Limits.{hold_limits}
use Rattle.boards.specs.Exact.{EffectiveLength}
use Rattle.grain.specs.Sum.{weight_moment}

-- the same partly filled hold, but that one has `(split LENGTH RUN LEFT RIGHT)` where the other has `(part LENGTH LEFT+RIGHT 30000 30000)`
pub record BoardTakenOut (h without : Hold) (run l r : ℕ) : Type 0 where
  pub before : List Part
  pub after : List Part
  pub split : Part
  pub whole : Part
  pub partial : h.head.mode ≡ Partial
  pub head : without.head ≡ h.head
  pub parts : parts_of h ≡ before ++ split ∷ after
  pub others : parts_of without ≡ before ++ whole ∷ after
  pub board : split.slack ≡ Split run l r
  pub length : whole.length ≡ split.length
  pub breadth : whole.slack ≡ Undivided (l + r) 30000 30000

-- it is within its limits too; it weighs no less; and where the board is effective over no length, it weighs the same
abbrev pub BoardsAddNoWeight : Type 0
BoardsAddNoWeight =
    (h without : Hold) (run l r : ℕ) → BoardTakenOut h without run l r → hold_limits h ≡ true →
    (hold_limits without ≡ true) × (weight_moment h ≤ weight_moment without)
    × (EffectiveLength run l r 0 → weight_moment h ≡ weight_moment without)
