-- `give_verdict`: judge replies `(verdict CC ..)`.
use mathlib.Core.Path.{refl, sym, ◌∙◌}
use Rattle.judging.proofs.Shown.{upper_shown_lem}
use borrow.Author.Rules.{rules}
use Rattle.panel.proofs.give_verdict.Goals as goal

pub verdict-requires : goal.verdict-requires
verdict-requires c =
    (search rules, upper_shown_lem c.args.c.now c.in-Ok.v (sym c.judge.ensures ∙ c.in-Ok.is))

pub returns-in-Err : goal.returns-in-Err
returns-in-Err c =
    let e = c.refusal_code-code.ensures in
    let w = rw e at c.refusal.ensures in
    rw (sym c.judge.ensures ∙ c.in-Err.is, c.plain_reply.ensures) (record { coded = e; long = w.value; moment = refl; written = w.out_after })
