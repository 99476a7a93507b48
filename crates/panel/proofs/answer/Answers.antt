-- `answer`: the reply to a line and what was heard of it, at the front of the lent buffer.
use mathlib.Core.Path.{refl, sym}
use Prim.Native.Nat.{◌≤◌}
use lib.ListN.{length}
use Rattle.reply.specs.Written.{over}
use Rattle.hearing.specs.Hearing.{heard_of}
use Rattle.panel.proofs.Answers.{handed_room, handed_none, step_none, step_refused, step_request, heard_asks, heard_short}
use borrow.Author.Rules.{rules}
use Rattle.panel.proofs.answer.Goals as goal

pub returns-then-out-lt-LEAST_ROOM : goal.returns-then-out-lt-LEAST_ROOM
unfolding over
returns-then-out-lt-LEAST_ROOM c =
    let k = c.args in
    rw (step_none k.c.now k.line.now (length k.out.now) (search rules), c.plain_reply.ensures)
    (record { coded = refl; long = refl; moment = sym (handed_none (heard_of k.line.now) (length k.out.now) (search rules)); written = refl })

pub reply_to-requires : goal.reply_to-requires
reply_to-requires c =
    let k = c.args in
    let heard = rw c.in-Ok.is at c.requires in
    record { asked = heard_asks k.line.now k.request.now heard; room = (heard_short k.line.now k.request.now heard, search rules) }

pub returns-in-Ok : goal.returns-in-Ok
returns-in-Ok c =
    let k = c.args in
    let n = length k.out.now in
    let room : 96 ≤ n = search rules in
    let heard = rw c.in-Ok.is at c.requires in
    rw (step_request k.c.now k.line.now n k.request.now heard room, ← heard, handed_room k.request.now n room) c.reply_to.ensures

pub returns-in-Err : goal.returns-in-Err
returns-in-Err c =
    let k = c.args in
    let heard = rw c.in-Err.is at c.requires in
    rw (step_refused k.c.now k.line.now (length k.out.now) c.in-Err.fault heard (search rules), ← heard, ← c.fault_code.ensures) c.answer_with.ensures
