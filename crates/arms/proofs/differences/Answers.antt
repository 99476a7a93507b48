-- `differences`: the ten differences.
use Rattle.std.proofs.Common.{rules}
use lib.ListN.{get_or}
use lib.IntN.{pos}
use Rattle.arms.specs.Walk.{left_over}
use Rattle.arms.proofs.Made.{made_is}
use Rattle.arms.proofs.differences.Goals as goal

pub returns : goal.returns
returns c = made_is _ (λ k. left_over (get_or c.args.righting k (pos 0)) (get_or c.args.heeling k 0)) _ (pos 0) 10 (λ i y q l k. search rules) _ c.from_fn.ensures.items
