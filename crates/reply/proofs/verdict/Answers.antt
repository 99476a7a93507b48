-- `verdict`: `(verdict CC GM DIFF UPPER AREA)`, piece by piece; the machine reads GM and DIFF back from their bits.
use mathlib.Core.List.{◌++◌}
use Prim.Native.Nat.{◌≤◌}
use native.Mathlib.Omega.{arith}
use mir.Facts.{to_z-of_z}
use mir.Syntax.{w64}
use mir.Val.{to_z, of_z}
use lib.ListN.{length, length-append}
use Rattle.whole.specs.Bytes.{bytes}
use Rattle.reply.specs.Written.{two_digits, decimal, figure}
use Rattle.reply.specs.Replies.{tail, field, count, verdict_reply}
use Rattle.reply.proofs.Writing.{first, more, more_field, short_four, read_short, length_digits}
use Rattle.reply.proofs.verdict.Goals as goal

pub returns : goal.returns
unfolding verdict_reply
returns c =
    let a = c.args in
    let gm = to_z w64 (of_z w64 a.gm) in
    let diff = to_z w64 (of_z w64 a.diff) in
    let room = c.requires.0 in
    let g : length (figure gm) ≤ 20 = read_short a.gm in
    let d : length (figure diff) ≤ 20 = read_short a.diff in
    let u = short_four a.upper c.requires.1 in
    let v2 = bytes "(verdict " ++ two_digits a.code in
    let v3 = v2 ++ field gm in
    let v4 = v3 ++ field diff in
    let v5 = v4 ++ count a.upper in
    let v6 = v5 ++ count a.area in
    let n3 = length-append v2 (field gm) in
    let n4 = length-append v3 (field diff) in
    let n5 = length-append v4 (count a.upper) in
    let n6 = length-append v5 (count a.area) in
    let e = length_digits 20 a.area in
    let s1 = first (bytes "(verdict ") a.out.now _ _ (c.put-a.ensures.value, c.put-a.ensures.out_after) in
    let s2 = more _ (two_digits a.code) _ _ _ _ _ s1 (c.append_code-b.ensures.value, c.append_code-b.ensures.out_after) (omega arith) in
    let s3 = more_field v2 (figure gm) _ _ _ _ _ s2 (c.append_field-c.ensures.value, c.append_field-c.ensures.out_after) (omega arith) in
    let s4 = more_field v3 (figure diff) _ _ _ _ _ s3 (c.append_field-d.ensures.value, c.append_field-d.ensures.out_after) (omega arith) in
    let s5 = more_field v4 (decimal a.upper) _ _ _ _ _ s4 (c.append_count-e.ensures.value, c.append_count-e.ensures.out_after) (omega arith) in
    let s6 = more_field v5 (decimal a.area) _ _ _ _ _ s5 (c.append_count-f.ensures.value, c.append_count-f.ensures.out_after) (omega arith) in
    let s7 = more v6 tail _ _ _ _ _ s6 (c.append.ensures.value, c.append.ensures.out_after) (omega arith) in
    rw (← to_z-of_z {w = w64} {z = a.gm} c.ranges.gm, ← to_z-of_z {w = w64} {z = a.diff} c.ranges.diff) (record { value = s7.place; out_after = s7.text })
