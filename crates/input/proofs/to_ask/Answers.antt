-- `to_ask`: how many bytes are asked for next, where `left` lines and `more` bytes may still come and `used` bytes of a line are kept.
use native.Mathlib.Omega.{arith}
use Rattle.input.proofs.Limits.{ask_full, ask_none, ask_more, ask_one}
use Rattle.input.proofs.to_ask.Goals as goal

pub returns-then-left-eq0 : goal.returns-then-left-eq0
returns-then-left-eq0 c = let a = c.args in ask_full a.left a.used a.more c.if-left-eq0.true

pub returns-then-more-gt0 : goal.returns-then-more-gt0
returns-then-more-gt0 c = let a = c.args in ask_more a.left a.used a.more _ (omega (arith, c.if-left-eq0.false)) c.if-more-gt0.true c.min.ensures

pub returns-then-used-eq0 : goal.returns-then-used-eq0
returns-then-used-eq0 c = let a = c.args in ask_none a.left a.used a.more (omega (arith, c.if-left-eq0.false)) (omega (arith, c.if-more-gt0.false)) c.if-used-eq0.true

pub returns : goal.returns
returns c =
    let a = c.args in
    ask_one a.left a.used a.more (omega (arith, c.if-left-eq0.false)) (omega (arith, c.if-more-gt0.false)) (omega (arith, c.if-used-eq0.false))
