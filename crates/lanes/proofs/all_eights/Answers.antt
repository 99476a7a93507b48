-- `all_eights`: whether all bytes pass but those behind the last eight that begin at a multiple of eight.
use mathlib.Core.Path.{◌≡◌, sym, ap, ◌∙◌}
use mathlib.Core.List.{List}
use Prim.Native.Nat.{ℕ, ◌+◌, ◌*◌, ◌/◌}
use native.Mathlib.Omega.{arith}
use lib.ListN.{length, take, drop}
use lib.Seq.{drop-drop}
use Rattle.std.specs.List.{list_all}
use Rattle.lanes.proofs.Fronts.{eight_stops, eight_passes}
use Rattle.lanes.proofs.all_eights.Goals as goal

pub returns-then-not-all_eight : goal.returns-then-not-all_eight
returns-then-not-all_eight g c =
    let f = g.T.ByteTest.passes in
    let s = c.args.s.now in
    let l = c.loop-eight.invariant in
    let next = ap (λ (r : List ℕ). list_all f (take 8 r)) (sym l.1) ∙ ap (list_all f) (sym c.in-Some.ensures.cases.0) ∙ sym c.all_eight.ensures in
    sym (eight_stops f (8 * l.0) (8 * (length s / 8)) s (omega (arith, l.2, c.in-Some.ensures.cases.2)) (next ∙ c.if-not-all_eight.true))

pub loop-eight-preserved : goal.loop-eight-preserved
loop-eight-preserved g c =
    let f = g.T.ByteTest.passes in
    let s = c.args.s.now in
    let l = c.loop-eight.invariant in
    let next = ap (λ (r : List ℕ). list_all f (take 8 r)) (sym l.1) ∙ ap (list_all f) (sym c.in-Some.ensures.cases.0) ∙ sym c.all_eight.ensures in
    let n : 8 * (l.0 + 1) ≡ 8 * l.0 + 8 = omega arith in (
      l.0 + 1,
      rw n (c.in-Some.ensures.cases.1 ∙ ap (drop 8) l.1 ∙ drop-drop 8 (8 * l.0) s),
      omega (arith, l.2, c.in-Some.ensures.cases.2),
      rw n (eight_passes f (8 * l.0) s l.3 (next ∙ c.if-not-all_eight.false)),
    )
