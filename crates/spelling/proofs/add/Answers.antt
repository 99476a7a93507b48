-- `add`: a space where it is asked for, and a text, behind the `at` bytes that are written already.
use mathlib.Core.List.{[], ◌∷◌}
use native.Mathlib.Omega.{arith}
use Rattle.text.specs.Token.{space}
use Rattle.reply.proofs.Writing.{into_into}
use Rattle.spelling.proofs.add.Goals as goal

pub append-a-requires : goal.append-a-requires
append-a-requires c =
    let p = rw c.if-apart.true at c.requires in
    omega arith

pub append-requires : goal.append-requires
append-requires c =
    let p = rw c.if-apart.true at c.requires in
    omega arith

pub returns-then-apart : goal.returns-then-apart
returns-then-apart c =
    let p = rw c.if-apart.true at c.requires in
    let e = c.append-a.ensures in
    let f = c.append.ensures in
    rw c.if-apart.true (record { value = omega arith; out_after = rw (f.out_after, e.out_after) (into_into c.args.at (space ∷ []) c.args.w.now c.args.out.now _ (omega arith) (omega arith)) })

pub append-requires-2 : goal.append-requires-2
append-requires-2 c =
    rw c.if-apart.false at c.requires

pub returns : goal.returns
returns c =
    rw c.if-apart.false (record { value = c.append-2.ensures.value; out_after = c.append-2.ensures.out_after })
