-- `take_line`: one line: its reply goes behind those that wait.
use Prim.Native.Nat.{◌-◌, ◌≤◌}
use native.Mathlib.Omega.{arith}
use lib.ListN.{length, take, drop, length-drop}
use lib.Seq.{length-take-le}
use Rattle.reply.proofs.Writing.{over_fits}
use Rattle.panel.proofs.Room.{any_room}
use Rattle.lines.proofs.Taking.{reply_waits}
use Rattle.lines.proofs.take_line.Goals as goal

pub returns : goal.returns
returns c =
    let args = c.args in
    let pre = c.requires in
    let l = args.out.now in
    let n = args.filled in
    let part = take (length l - n) (drop n l) in
    let d = length-drop n l in
    let m = length-take-le (length l - n) (drop n l) (omega arith) in
    let r : 2100 ≤ length part = omega (arith, pre) in
    let e = c.take-r.ensures.steps in
    let a = any_room args.c.now (length part) r args.line.now in
    let w = over_fits _ part _ e.written c.take-r.auto.out in
    rw (← a)
    (record {
      condition = e.condition;
      room = omega (arith, e.long, w, m, pre);
      waits = rw e.written (reply_waits l part _ _ n _ (omega (arith, pre)) e.long);
    })
