-- `read_line`: a show of a form, or by its word.
use Rattle.std.proofs.Common.{◌≡◌}
use mathlib.Core.Bool.{true, false}
use mathlib.Core.Path.{sym, ◌∙◌}
use Rattle.std.specs.Prelude.{Some, None}
use Rattle.items.proofs.Words.{is_as}
use Rattle.request.specs.Shape.{line_word}
use Rattle.request.proofs.read_line.Goals as goal

pub returns-then-eq-clause-read : goal.returns-then-eq-clause-read
returns-then-eq-clause-read c =
    let r = c.in_ok-word in
    rw (r.ensures.read, is_as "show" r.word.now c.as_slice.result.now c.as_slice.ensures true c.if-eq.ensures) c.show.ensures.read

pub returns-in_err-line_word-clause-read : goal.returns-in_err-line_word-clause-read
returns-in_err-line_word-clause-read c =
    let r = c.in_ok-word in
    let n : line_word r.word.now ≡ None = sym c.line_word.ensures ∙ c.in_err-line_word.was in
    rw (r.ensures.read, is_as "show" r.word.now c.as_slice.result.now c.as_slice.ensures false c.if-eq.ensures, n, c.from_residual-in_err-line_word.ensures)

pub returns-clause-read : goal.returns-clause-read
returns-clause-read c =
    let r = c.in_ok-word in
    let n : line_word r.word.now ≡ Some c.in_ok-line_word.field-0 = sym c.line_word.ensures ∙ c.in_ok-line_word.was in
    rw (r.ensures.read, is_as "show" r.word.now c.as_slice.result.now c.as_slice.ensures false c.if-eq.ensures, n) c.line_by.ensures.read
