-- `stretch_of`: the stretch in which the angle x lies.
use mathlib.Core.Path.{refl, ◌∙◌}
use Prim.Native.Nat.{ℕ}
use lib.Dec.{ltb}
use Rattle.std.proofs.Common.{rules}
use Rattle.std.specs.List.{range_with_len}
use Rattle.std.proofs.lemmas.Iterator.{YieldsList-from_range}
use Rattle.std.proofs.lemmas.Iterator.Consumers.{count_from_yields_List}
use Rattle.std.proofs.lemmas.Iterator.Search.{YieldsList-from_take_while}
use Rattle.std.proofs.lemmas.List.Folds.{length-prefix_len}
use Rattle.arms.specs.Angles.{angle}
use Rattle.stability.proofs.Stretch.{counted_is}
use Rattle.stability.proofs.stretch_of.Goals as goal

pub returns : goal.returns
returns c =
    let below = λ (k : ℕ). ltb (angle k) c.args.x in
    let w = c.take_while.ensures in
    count_from_yields_List c.take_while.result _ c.count.ensures.ran
    (YieldsList-from_take_while _ below (YieldsList-from_range 1 9 8 w.source refl) w.closure w.done (λ k b q h. search rules))
    ∙ length-prefix_len below (range_with_len 1 8)
    ∙ counted_is c.args.x
