-- `is_number_if_digit`: 13: whether a run that starts with a digit is a number.
use mathlib.Core.Path.{sym, ap, ◌∙◌}
use Rattle.std.specs.Prelude.{is_some}
use Rattle.line_codes.proofs.Sounds.{sound_number}
use Rattle.line_codes.proofs.is_number_if_digit.Goals as goal

pub returns-else-not-is_digit : goal.returns-else-not-is_digit
returns-else-not-is_digit c =
    c.is_some.ensures ∙ ap is_some c.number_of.ensures ∙ sound_number _ c.in-Some.ensures.cases.0 (sym c.is_digit.ensures ∙ c.if-not-is_digit.false)
