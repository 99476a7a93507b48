-- `deepest`: how deep a line's form may be nested. The word is taken from its definition, so that nothing here repeats it.
use mathlib.Core.Path.{◌≡◌, refl}
use mathlib.Core.List.{[], ◌∷◌}
use Rattle.text.specs.Token.{run}
use Rattle.text.proofs.Runs.{same_slices}
use Rattle.line_codes.specs.Line.{first_is_show}
use Rattle.line_codes.proofs.deepest.Goals as goal

pub returns-then-eq : goal.returns-then-eq
returns-then-eq c =
    let word = c.in-Some-Run-default.word.now in
    let same : first_is_show (run word ∷ []) ≡ _ = same_slices word _ refl c.if-eq.ensures in
    rw (c.in-Some-Open-default.ensures.read, c.in-Some-Open-default.field-0-0-is, c.in-Some-Run-default.ensures.read, c.in-Some-Run-default.field-0-0-is, same)

pub returns : goal.returns
returns c =
    let word = c.in-Some-Run-default.word.now in
    let same : first_is_show (run word ∷ []) ≡ _ = same_slices word _ refl c.if-eq.ensures in
    rw (c.in-Some-Open-default.ensures.read, c.in-Some-Open-default.field-0-0-is, c.in-Some-Run-default.ensures.read, c.in-Some-Run-default.field-0-0-is, same)
