-- `take`: one line, in place: its reply at the front of the lent buffer, and its effect on the condition.
use mathlib.Core.Path.{sym, ap, ◌∙◌}
use lib.ListN.{length}
use Rattle.panel.specs.Handed.{handed_on}
use Rattle.panel.proofs.Answers.{taken_heard, answer_kept, answer_effect}
use Rattle.panel.proofs.take.Goals as goal

pub returns-then-r-eq-TAKEN-clause-steps : goal.returns-then-r-eq-TAKEN-clause-steps
returns-then-r-eq-TAKEN-clause-steps c =
    let a = c.answer-r in
    let k = c.args in
    let n = length k.out.now in
    let r = c.hear-h.new.request in
    let e = sym a.ensures.coded ∙ c.if-r-eq-TAKEN.true in
    let heard = taken_heard k.c.now k.line.now n r c.hear-h.result c.hear-h.ensures e in
    let done = answer_effect k.c.now k.line.now n r heard e a.result.moment (a.ensures.moment ∙ ap (λ h. handed_on h n) (sym heard)) c.effect.new.c c.effect.ensures in
    record { condition = done; coded = a.ensures.coded; long = a.ensures.long; written = a.ensures.written }

pub returns-else-r-eq-TAKEN-clause-steps : goal.returns-else-r-eq-TAKEN-clause-steps
returns-else-r-eq-TAKEN-clause-steps c =
    let a = c.answer-r in
    let k = c.args in
    let kept = answer_kept k.c.now k.line.now (length k.out.now) a.result.code a.ensures.coded c.if-r-eq-TAKEN.false in
    record { condition = kept; coded = a.ensures.coded; long = a.ensures.long; written = a.ensures.written }
