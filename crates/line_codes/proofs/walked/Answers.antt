-- `walked`: one walk along a line of allowed bytes for both 12 and 13.
use mathlib.Core.Path.{refl}
use Rattle.line_codes.proofs.Along.{form_end, form_on, form_wrong}
use Rattle.line_codes.proofs.Sounds.{sounds_on, sounds_end}
use Rattle.line_codes.proofs.walked.Goals as goal

pub returns-in_err-part : goal.returns-in_err-part
returns-in_err-part c =
    rw (form_wrong c.args.s.now c.requires _ c.deepest-most.ensures _ _ c.loop-piece.invariant.form _ _ c.in-Some.ensures.steps c.in_err-part.ensures) c.from_residual.ensures

pub loop-piece-preserved : goal.loop-piece-preserved
loop-piece-preserved c =
    record {
      form = form_on c.args.s.now c.requires _ c.deepest-most.ensures _ _ c.loop-piece.invariant.form _ _ c.in-Some.ensures.steps c.in_ok-part.ensures;
      numbers = sounds_on _ c.loop-piece.invariant.numbers _ _ c.in-Some.ensures.steps c.is_sound-sound.ensures;
    }

pub returns-then-not-is_behind : goal.returns-then-not-is_behind
returns-then-not-is_behind c =
    let end = form_end c.args.s.now c.requires _ c.deepest-most.ensures _ _ c.loop-piece.invariant.form _ refl c.in-None.ensures.steps.0 in
    rw (end, ← c.is_behind.ensures, c.if-not-is_behind.true) refl

pub returns : goal.returns
returns c =
    let end = form_end c.args.s.now c.requires _ c.deepest-most.ensures _ _ c.loop-piece.invariant.form _ refl c.in-None.ensures.steps.0 in
    rw (end, ← c.is_behind.ensures, c.if-not-is_behind.false, ← sounds_end _ c.loop-piece.invariant.numbers c.in-None.ensures.steps.0) refl
