-- `righting_arms`
use Rattle.std.proofs.Common.{rules}
use lib.IntN.{pos}
use Rattle.arms.specs.Arms.{righting_arm}
use Rattle.arms.proofs.Made.{made_is}
use Rattle.arms.proofs.righting_arms.Goals as goal

pub returns : goal.returns
returns c = made_is _ (righting_arm c.args.s.basis) _ (pos 0) 10 (λ i y q l k. search rules) _ c.from_fn.ensures.items
