-- `all`: whether every byte passes.
use mathlib.Core.Path.{sym, ap, ◌∙◌}
use Prim.Native.Nat.{◌*◌, ◌/◌}
use native.Mathlib.Omega.{arith}
use lib.ListN.{length}
use Rattle.std.specs.List.{list_all}
use Rattle.lanes.proofs.Fronts.{all_in_front, front_stops, last_eight}
use Rattle.lanes.proofs.all.Goals as goal

pub returns-in_default : goal.returns-in_default
returns-in_default g c = rw c.one_by_one.ensures.value (all_in_front g.T.ByteTest.passes c.args.s.now)

pub returns-then-all_eights : goal.returns-then-all_eights
returns-then-all_eights g c =
    let f = g.T.ByteTest.passes in
    let s = c.args.s.now in
    c.all_eight.ensures ∙ ap (list_all f) c.in-Some.ensures.cases.1.same ∙ last_eight f (8 * (length s / 8)) s (omega arith) (sym c.all_eights.ensures ∙ c.if-all_eights.true)

pub returns-else-all_eights : goal.returns-else-all_eights
returns-else-all_eights g c =
    let s = c.args.s.now in
    let e = c.if-all_eights.false in
    e ∙ sym (front_stops g.T.ByteTest.passes (8 * (length s / 8)) s (sym c.all_eights.ensures ∙ e))
