-- `digits_of`: the number that digits say, a zero in front or not.
use borrow.Author.Rules.{rules}
use native.Mathlib.Omega.{arith}
use mathlib.Core.Path.{sym, ◌∙◌}
use Rattle.whole.proofs.Lists.{within_true}
use Rattle.text.proofs.Numbers.{digits_out, digits_bad, digits_on, digits_large}
use Rattle.text.proofs.digits_of.Goals as goal

pub returns-then-not-is_digit : goal.returns-then-not-is_digit
returns-then-not-is_digit c =
    sym (digits_bad c.args.run.now c.loop-b.b-index (search rules) c.loop-b.v (sym c.is_digit.ensures ∙ c.if-not-is_digit.true)) ∙ c.loop-b.invariant.1

pub overflow_sub-w : goal.overflow_sub-w
overflow_sub-w c = let d = within_true 48 57 _ (sym c.is_digit.ensures ∙ c.if-not-is_digit.false) in search rules

pub returns-then-w-gt-GREATEST_NUMBER : goal.returns-then-w-gt-GREATEST_NUMBER
returns-then-w-gt-GREATEST_NUMBER c =
    sym (digits_large c.args.run.now c.loop-b.b-index (search rules) c.loop-b.v (sym c.is_digit.ensures ∙ c.if-not-is_digit.false) (search rules)) ∙ c.loop-b.invariant.1

pub loop-b-preserved : goal.loop-b-preserved
loop-b-preserved c =
    (omega arith, sym (digits_on c.args.run.now c.loop-b.b-index (search rules) c.loop-b.v (sym c.is_digit.ensures ∙ c.if-not-is_digit.false)) ∙ c.loop-b.invariant.1)

pub returns : goal.returns
returns c = sym (digits_out c.args.run.now c.loop-b.b-index c.loop-b.v c.loop-b.invariant.0 (search rules)) ∙ c.loop-b.invariant.1
