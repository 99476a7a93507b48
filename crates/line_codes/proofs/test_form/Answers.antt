-- `test_form`: the tests of the form, 12 and 13, over the entire line: the first that a line fails whose bytes pass theirs.
use mathlib.Core.Path.{sym, ◌∙◌}
use Rattle.line_codes.proofs.Order.{walk_reads}
use Rattle.line_codes.proofs.test_form.Goals as goal

pub returns-in_default : goal.returns-in_default
returns-in_default c = sym (walk_reads c.args.line.now c.requires _ (sym c.in_default.is ∙ c.walked.ensures))

pub returns : goal.returns
returns c = c.all_sound.ensures ∙ sym (walk_reads c.args.line.now c.requires _ (sym c.in-Some.is ∙ c.walked.ensures))
