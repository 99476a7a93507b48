-- `hear`: the request of a line, in the memory lent for it, or why there is none.
use mathlib.Core.Path.{sym, ◌∙◌}
use borrow.Author.Rules.{rules}
use Rattle.line_codes.proofs.Order.{bytes_pass, bytes_fail}
use Rattle.hearing.proofs.Sound.{heard_shape}
use Rattle.hearing.proofs.hear.Goals as goal

pub returns-in_err-test_bytes : goal.returns-in_err-test_bytes
returns-in_err-test_bytes c = rw (bytes_fail c.args.line.now _ (sym c.test_bytes.ensures ∙ c.in_err-test_bytes.was)) (search rules)

pub returns-then-request_of : goal.returns-then-request_of
returns-then-request_of c =
    let line = c.args.line.now in
    let l = bytes_pass line _ (sym c.test_bytes.ensures ∙ c.in_ok-test_bytes.was) in
    sym (heard_shape line c.request_of.new.request l (sym c.request_of.ensures ∙ rw c.if-request_of.true))
