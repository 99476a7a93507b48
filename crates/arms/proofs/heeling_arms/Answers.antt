-- `heeling_arms`
use Rattle.std.proofs.Common.{rules}
use Rattle.arms.specs.Arms.{heeling_arm}
use Rattle.arms.proofs.Made.{made_is}
use Rattle.arms.proofs.heeling_arms.Goals as goal

pub returns : goal.returns
returns c = made_is _ (heeling_arm c.args.s.basis) _ 0 10 (λ i y q l k. search rules) _ c.from_fn.ensures.items
