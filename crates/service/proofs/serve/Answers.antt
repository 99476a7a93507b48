-- `serve`: takes lines from standard input until it ends, or this many lines or bytes were read.
use mathlib.Core.Path.{refl, ◌∙◌}
use mathlib.Core.Bool.{true, false}
use Prim.Native.Nat.{◌≤◌}
use native.Mathlib.Omega.{arith}
use lib.ListN.{take}
use lib.Seq.{length-take-le}
use Rattle.service.proofs.Turns.{not_both, used_up, serving_first, serving_fed, serving_read, over_asked, over_none, over_last}
use borrow.Author.Rules.{rules}
use Rattle.service.proofs.serve.Goals as goal

pub loop-going-init : goal.loop-going-init
loop-going-init c =
    let a = c.args in
    let s = c.start-f in
    record {
      block_long = search rules;
      line_long = search rules;
      out_long = search rules;
      used = omega (arith, s.ensures.used_value);
      waits = omega (arith, s.ensures.filled_value);
      came = omega arith;
      written = λ e. s.ensures.filled_value;
      goes = λ e. serving_first a.max_lines a.max_bytes s.result _ _ s.ensures.stands s.ensures.used_value s.ensures.filled_value;
      stops = λ e. not_both true refl e;
    }

pub loop-going-preserved-then-at-n : goal.loop-going-preserved-then-at-n
loop-going-preserved-then-at-n c =
    let b = c.feed_block-at in
    let l = c.loop-going in
    let v = l.invariant in
    let g = c.loop-going-test.true in
    rw c.emptied.ensures (record {
      block_long = v.block_long;
      line_long = b.auto.line ∙ v.line_long;
      out_long = b.auto.out ∙ v.out_long;
      used = b.ensures.begun;
      waits = omega arith;
      came = v.came;
      written = λ e. refl;
      goes = λ e. serving_fed (v.goes g) (take l.n l.block) l.at (record { feed = b.new.f; at = b.result }) _ _ refl b.ensures;
      stops = λ e. not_both l.going g e;
    })

pub loop-going-preserved-then-ask-eq0 : goal.loop-going-preserved-then-ask-eq0
loop-going-preserved-then-ask-eq0 c =
    let l = c.loop-going in
    let v = l.invariant in
    let u = used_up l.block l.n l.at (omega (arith, c.if-at-n.false)) in
    record {
      block_long = v.block_long;
      line_long = v.line_long;
      out_long = v.out_long;
      used = v.used;
      waits = v.waits;
      came = v.came;
      written = λ e. not_both false e refl;
      goes = λ e. not_both false e refl;
      stops = λ e. over_asked (v.goes c.loop-going-test.true) u v.used v.line_long l.n (rw c.if-ask-eq0.true at c.to_ask-ask.ensures);
    }

pub loop-going-preserved-in-Goes : goal.loop-going-preserved-in-Goes
loop-going-preserved-in-Goes c =
    let if1 = c.if-at-n in
    let l = c.loop-going in
    let v = l.invariant in
    let n = c.fetch-n in
    let t = rw c.in-Goes.is at c.tell.ensures in
    let u = used_up l.block l.n l.at (omega (arith, if1.false)) in
    let m : n.result ≤ 65536 = omega (arith, n.ensures, c.to_ask-ask.ensures.room) in
    record {
      block_long = n.auto.block ∙ v.block_long;
      line_long = v.line_long;
      out_long = v.out_long;
      used = v.used;
      waits = v.waits;
      came = m;
      written = v.written;
      goes = λ e. serving_read (v.goes e) u n.result (take n.result n.new.block) (length-take-le n.result n.new.block (omega (arith, n.auto.block, v.block_long))) t.1;
      stops = λ e. not_both l.going c.loop-going-test.true e;
    }

pub loop-going-preserved-in-NoMore : goal.loop-going-preserved-in-NoMore
loop-going-preserved-in-NoMore c =
    let if3 = c.if-ask-eq0 in
    let if1 = c.if-at-n in
    let l = c.loop-going in
    let v = l.invariant in
    let n = c.fetch-n in
    let k = c.to_ask-ask.ensures in
    let t = rw c.in-NoMore.is at c.tell.ensures in
    let u = used_up l.block l.n l.at (omega (arith, if1.false)) in
    let m : n.result ≤ 65536 = omega (arith, n.ensures, k.room) in
    let p = k.lines (omega (arith, if3.false)) in
    record {
      block_long = n.auto.block ∙ v.block_long;
      line_long = v.line_long;
      out_long = v.out_long;
      used = v.used;
      waits = v.waits;
      came = m;
      written = λ e. not_both false e refl;
      goes = λ e. not_both false e refl;
      stops = λ e. over_none (v.goes c.loop-going-test.true) u v.used v.line_long n.result (take n.result n.new.block) (length-take-le n.result n.new.block (omega (arith, n.auto.block, v.block_long))) p t;
    }

pub loop-going-preserved : goal.loop-going-preserved
loop-going-preserved c =
    let tell = c.tell in
    let n = c.fetch-n in
    let if3 = c.if-ask-eq0 in
    let if1 = c.if-at-n in
    let l = c.loop-going in
    let v = l.invariant in
    let k = c.to_ask-ask.ensures in
    let b = c.take_begun in
    let t = rw c.in-LastLine.is at tell.ensures in
    let u = used_up l.block l.n l.at (omega (arith, if1.false)) in
    let m : n.result ≤ 65536 = omega (arith, n.ensures, k.room) in
    let p = k.lines (omega (arith, if3.false)) in
    record {
      block_long = n.auto.block ∙ v.block_long;
      line_long = b.auto.line ∙ v.line_long;
      out_long = b.auto.out ∙ v.out_long;
      used = omega (arith, b.ensures.none);
      waits = b.ensures.room;
      came = m;
      written = λ e. not_both false e refl;
      goes = λ e. not_both false e refl;
      stops = λ e. over_last (v.goes c.loop-going-test.true) u v.used v.line_long n.result (take n.result n.new.block) (length-take-le n.result n.new.block (omega (arith, n.auto.block, v.block_long))) p t b.new.f _ b.ensures;
    }
