-- Document 02, P7, in its own words: where a part beside a board has no place. What it weighs stands in boards/specs/Exact.antt, that it makes no hold
-- heavier in grain/specs/Boards.antt, that it is stored whole and can be sent again in sending/specs/Laws.antt, when its numbers are within their limits in
-- limits/specs/Ranges.antt.
use Rattle.std.specs.Prelude.{◌≡◌, List, ◌∷◌, ◌++◌, ℕ, ◌≤◌}
use Rattle.whole.specs.Bytes.{bytes}
use Rattle.text.specs.Token.{Token, opened, run, tokens}
use Rattle.showing.specs.Laws.{ModeOfCells}
use Rattle.condition.specs.declared.Condition.{Condition}
use Rattle.panel.specs.Step.{step_of}
use Rattle.demands.specs.Codes.{SoundLine}

-- a line to which none of 10 to 13 and 15 applies, a hold form of mode trimmed or voided with the word `split` anywhere behind the mode, is 14
abbrev pub SplitIsNotOfCells : Type 0
SplitIsNotOfCells =
    (c : Condition) (line : List ℕ) (lent : ℕ) (n mode : List ℕ) (front behind : List Token) → 96 ≤ lent → SoundLine line → ModeOfCells mode →
    tokens line ≡ opened ∷ run (bytes "hold") ∷ run n ∷ run mode ∷ front ++ run (bytes "split") ∷ behind → (step_of c line lent).code ≡ 14
