-- `all_eight`: whether all of eight bytes pass.
use mathlib.Core.Path.{ap, ◌∙◌}
use lib.Dec.{eqb}
use Rattle.lanes.proofs.Fronts.{all_in_front}
use Rattle.lanes.proofs.all_eight.Goals as goal

pub returns : goal.returns
returns g c =
    let f = g.T.ByteTest.passes in
    let v = c.args.eight.now in
    ap (λ n. eqb n 8) (c.in_front.ensures.counted v f c.told-eight c.of_eight.ensures) ∙ rw c.told-eight at (all_in_front f v)
