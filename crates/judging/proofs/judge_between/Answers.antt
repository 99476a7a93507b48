-- `judge_between`: the verdict between the columns i and i + 1, or 34.
use native.Mathlib.Omega.{arith}
use native.Mathlib.Numerals.{add-one}
use borrow.Author.Tests.{le-leb}
use Rattle.judging.specs.Judge.{greatest_weight}
use Rattle.judging.proofs.Columns.{between_standing, between_places}
use Rattle.judging.proofs.judge_between.Goals as goal

pub invariant_of-judge : goal.invariant_of-judge
invariant_of-judge c =
    let st = between_standing c.args.c.now c.args.l c.args.i c.requires in
    let q = between_places c.args.c.now c.args.l c.args.i c.requires in
    let e1 = c.of_ten.ensures in
    let e2 = c.of_ten-2.ensures in
    record {
      judgeable =
          record {
            low = rw (e1.value, ← q.low) st.low_limits;
            high = rw (e2.value, ← q.high) st.high_limits;
            ten_low = e1.kn_len;
            ten_high = e2.kn_len;
            load = c.requires.load;
            apart = rw (e1.value, e2.value, ← q.low, ← q.high) st.apart;
            from = rw (e1.value, ← q.low) st.low;
            to = rw (e2.value, ← q.high) st.high;
            weight = omega arith;
          };
    }

pub returns : goal.returns
returns c =
    let q = between_places c.args.c.now c.args.l c.args.i c.requires in
    let w = le-leb c.args.c.now.total greatest_weight (omega arith) in
    rw (w, c.judge.ensures, c.of_ten.ensures.value, c.of_ten-2.ensures.value, ← q.low, ← q.high, add-one)
