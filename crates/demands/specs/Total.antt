-- Document 02, P4, in its own words: the stored figure is the sum over the holds, and total shows it. `weight` is that sum; what it is, in
-- the paper's numbers, `WeightIsTotal` says (Demands.antt).
use Rattle.std.specs.Prelude.{◌≡◌, List, [], ◌∷◌, ◌↔◌, ℕ, ◌≤◌, Some}
use Rattle.whole.specs.Bytes.{bytes}
use Rattle.text.specs.Token.{Token, opened, closed, run, tokens}
use Rattle.forms.specs.declared.Request.TheVariants.{TotalLine}
use Rattle.reply.specs.Shown.{TotalShown}
use Rattle.condition.specs.declared.Condition.{Condition}
use Rattle.condition.specs.Condition.{empty}
use Rattle.total.specs.Total.{weight}
use Rattle.panel.specs.Step.{Outcome, step_of, Sent, condition_after}
use Rattle.sending.specs.Within.{Within}
use Rattle.sending.specs.Sending.{record_forms, as_lines}
use Rattle.demands.specs.Codes.{SoundLine, Asks}

-- in every condition that lines can reach
abbrev pub StoredIsTheSum : Type 0
StoredIsTheSum = (ls : List Sent) → (condition_after empty ls).total ≡ weight (condition_after empty ls)

-- a line to which none of 10 to 13 and 15 applies is a total exactly where it is `(total)`, whatever the spaces
abbrev pub TotalStandsAlone : Type 0
TotalStandsAlone =
    (line : List ℕ) (lent : ℕ) →
    Asks line lent (Some TotalLine) ↔ ((96 ≤ lent) × SoundLine line × (tokens line ≡ opened ∷ run (bytes "total") ∷ closed ∷ []))

-- with anything else behind the word it is 14
abbrev pub TotalWithItems : Type 0
TotalWithItems =
    (c : Condition) (line : List ℕ) (lent : ℕ) (behind : List Token) → 96 ≤ lent → SoundLine line →
    tokens line ≡ opened ∷ run (bytes "total") ∷ behind → (behind ≡ closed ∷ [] → ⊥) → (step_of c line lent).code ≡ 14

-- total replies `(answer 00 W)` with W, whatever else is held or missing, above the limit of code 34 too, and changes nothing
pub record TotalGiven (c : Condition) (w : ℕ) (o : Outcome) : Type 0 where
  pub code : o.code ≡ 0
  pub after : o.after ≡ c
  pub shown : TotalShown w o.reply

-- W is the weight moment of all holds
abbrev pub TotalsAreShown : Type 0
TotalsAreShown =
    (c : Condition) (line : List ℕ) (lent : ℕ) → Within c → Asks line lent (Some TotalLine) → TotalGiven c (weight c) (step_of c line lent)

-- and comes from the stored figure, which has 64 bits, in every condition
abbrev pub StoredIsShown : Type 0
StoredIsShown =
    (c : Condition) (line : List ℕ) (lent : ℕ) → c.total ≤ 18446744073709551615 → Asks line lent (Some TotalLine) →
    TotalGiven c c.total (step_of c line lent)

-- the records of a condition within its limits, sent to an empty panel (sending/specs/Laws.antt), have the same figure there
abbrev pub SentWeighTheSame : Type 0
SentWeighTheSame =
    (c : Condition) (lent : ℕ) → Within c → 96 ≤ lent → (condition_after empty (as_lines lent (record_forms c))).total ≡ c.total
