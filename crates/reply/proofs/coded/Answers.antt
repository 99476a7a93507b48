-- `coded`: a head, a code, the closing bracket and a newline.
use mathlib.Core.List.{◌++◌}
use native.Mathlib.Omega.{arith}
use lib.ListN.{length-append}
use Rattle.reply.specs.Written.{two_digits}
use Rattle.reply.specs.Replies.{tail}
use Rattle.reply.proofs.Writing.{first, more}
use Rattle.reply.proofs.coded.Goals as goal

pub returns-clause-out_after : goal.returns-clause-out_after
returns-clause-out_after c =
    let put = c.put-a in
    let l = c.args.out.now in
    let h = c.args.head.now in
    let code = c.args.code in
    let p = c.requires in
    let n = length-append h (two_digits code) in
    let a = first h l _ _ (put.ensures.value, put.ensures.out_after) in
    let d = more h (two_digits code) l _ _ _ _ a (c.append_code-b.ensures.value, c.append_code-b.ensures.out_after) (omega arith) in
    let e = more (h ++ two_digits code) tail l _ _ _ _ d (c.append.ensures.value, c.append.ensures.out_after) (omega arith) in
    e.text
