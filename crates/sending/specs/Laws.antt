-- The laws of lines that are answered alike, and of the records of a condition, printed and sent. Proved in proofs/: Alike, Decimals and
-- Sending.
use Rattle.std.specs.Prelude.{◌≡◌, true, List, ℕ, ◌≤◌, eqb, Some}
use Rattle.whole.specs.Lists.{all}
use Rattle.text.specs.Token.{run, tokens, number_of}
use Rattle.line_codes.specs.Alike.{AllowedLine}
use Rattle.reply.specs.Written.{decimal}
use Rattle.spelling.specs.Spelling.{proper}
use Rattle.condition.specs.declared.Condition.{Condition}
use Rattle.condition.specs.Condition.{empty}
use Rattle.panel.specs.Step.{Outcome, step_of, condition_after, outcomes}
use Rattle.sending.specs.Within.{Within}
use Rattle.sending.specs.Sending.{record_forms, as_lines, SameRecords}

-- two lines with the same tokens that neither 10 nor 11 turns away have the same outcome, in every condition and with every buffer
abbrev pub SameTokensAnsweredAlike : Type 0
SameTokensAnsweredAlike =
    (a b : List ℕ) → AllowedLine a → AllowedLine b → tokens a ≡ tokens b → (c : Condition) (lent : ℕ) → step_of c a lent ≡ step_of c b lent

-- a number of at most nine digits, printed in decimal, is a run, and the number that is read from it
abbrev pub DecimalIsARun : Type 0
DecimalIsARun = (n : ℕ) → n ≤ 999999999 → proper (run (decimal n)) ≡ true

abbrev pub DecimalIsReadBack : Type 0
DecimalIsReadBack = (n : ℕ) → n ≤ 999999999 → number_of (decimal n) ≡ Some n

-- a condition within its limits, as document 01 says it of lines: its records, the columns in their order, sent to a cleared panel, are all
-- taken with 00. The panel then has the same records
abbrev pub RecordsCanBeSent : Type 0
RecordsCanBeSent =
    (c : Condition) (lent : ℕ) → Within c → 96 ≤ lent →
    (all (λ (o : Outcome). eqb o.code 0) (outcomes empty (as_lines lent (record_forms c))) ≡ true)
    × SameRecords c (condition_after empty (as_lines lent (record_forms c)))
