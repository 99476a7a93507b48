-- `show`: `FORM)`.
use mathlib.Core.Path.{sym}
use Rattle.text.specs.Token.{tokens}
use Rattle.request.proofs.Shown.{show_none, show_read}
use Rattle.request.proofs.show.Goals as goal

pub returns-in_err-rest-clause-read : goal.returns-in_err-rest-clause-read
returns-in_err-rest-clause-read c =
    rw c.from_residual-in_err-rest.ensures (show_none (tokens c.args.s.now) c.in_ok-word.ensures.read (sym c.in_ok-form.ensures) c.in_err-rest.ensures.read)

pub returns-clause-read : goal.returns-clause-read
returns-clause-read c =
    show_read (tokens c.args.s.now) c.in_ok-word.ensures.read (sym c.in_ok-form.ensures) _ _ _ c.in_ok-rest.ensures.read c.close.ensures.read
