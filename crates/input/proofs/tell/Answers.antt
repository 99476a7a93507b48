-- `tell`: what a read of `got` bytes tells.
use native.Mathlib.Omega.{arith}
use Rattle.input.proofs.Limits.{told_none, told_last, told_short}
use Rattle.input.proofs.tell.Goals as goal

pub returns-then-used-eq0 : goal.returns-then-used-eq0
returns-then-used-eq0 c = let a = c.args in told_none a.used a.more a.got c.if-got-eq0.true c.if-used-eq0.true

pub returns-then-got-eq0 : goal.returns-then-got-eq0
returns-then-got-eq0 c = let a = c.args in told_last a.used a.more a.got c.if-got-eq0.true (omega (arith, c.if-used-eq0.false))

pub returns-then-more-eq0 : goal.returns-then-more-eq0
returns-then-more-eq0 c = let a = c.args in told_short a.used a.more a.got (omega (arith, c.if-got-eq0.false)) c.if-more-eq0.true

pub returns : goal.returns
returns c = (omega (arith, c.if-got-eq0.false), c.requires (omega (arith, c.if-more-eq0.false)))
