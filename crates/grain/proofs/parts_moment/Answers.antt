-- `parts_moment`: the parts of a hold, added up.
use mathlib.Core.Path.{◌≡◌, refl, sym, ◌∙◌}
use native.Mathlib.Omega.{arith}
use lib.ListN.{get_or}
use Rattle.whole.specs.Lists.{sum_of}
use Rattle.whole.proofs.Lists.{all_at, all_stop, all_go, all_done, sum_next, sum_end}
use Rattle.record.proofs.Taken.{past_part}
use Rattle.limits.specs.Limits.{part_limits}
use Rattle.grain.specs.Sum.{part_fits, part_moment}
use Rattle.grain.specs.Walk.{part_answer, parts_answer}
use Rattle.grain.proofs.Weights.{moment_le, moment_of_lem, no_fit_of}
use Rattle.grain.proofs.parts_moment.Goals as goal

pub part_moment-requires : goal.part_moment-requires
part_moment-requires c =
    all_at (part_limits c.args.mode) c.args.parts.now c.loop-part.part-index past_part c.requires.0 (omega arith)

pub returns-in_err-sum : goal.returns-in_err-sum
unfolding part_answer parts_answer
returns-in_err-sum c =
    let mode = c.args.mode in
    let ps = c.args.parts.now in
    let i = c.loop-part.part-index in
    let p = get_or ps i past_part in
    let m = no_fit_of (part_fits mode p) (part_moment mode p) (sym c.in_err-sum.was ∙ c.part_moment.ensures) in
    c.from_residual.ensures ∙ rw (sym (all_stop (part_fits mode) ps i past_part c.loop-part.invariant.0 (omega arith) m)) refl

pub overflow_add-sum : goal.overflow_add-sum
unfolding part_answer
overflow_add-sum c =
    let mode = c.args.mode in
    let ps = c.args.parts.now in
    let p = get_or ps c.loop-part.part-index past_part in
    let m = moment_of_lem (part_fits mode p) (part_moment mode p) c.in_ok-sum.field-0 (sym c.in_ok-sum.was ∙ c.part_moment.ensures) in
    omega (arith, moment_le mode p (all_at (part_limits mode) ps c.loop-part.part-index past_part c.requires.0 (omega arith)), m.1)

pub loop-part-preserved : goal.loop-part-preserved
unfolding part_answer
loop-part-preserved c =
    let mode = c.args.mode in
    let ps = c.args.parts.now in
    let i = c.loop-part.part-index in
    let v = c.loop-part.invariant in
    let p = get_or ps i past_part in
    let m = moment_of_lem (part_fits mode p) (part_moment mode p) c.in_ok-sum.field-0 (sym c.in_ok-sum.was ∙ c.part_moment.ensures) in (
      all_go (part_fits mode) ps i past_part v.0 (omega arith) m.0,
      omega (arith, m.1, sum_next (part_moment mode) ps i past_part (omega arith)),
      omega (arith, moment_le mode p (all_at (part_limits mode) ps i past_part c.requires.0 (omega arith)), m.1),
    )

pub returns : goal.returns
unfolding parts_answer
returns c =
    let mode = c.args.mode in
    let ps = c.args.parts.now in
    let i = c.loop-part.part-index in
    let z : c.loop-part.sum ≡ sum_of (part_moment mode) ps = omega (arith, sum_end (part_moment mode) ps i past_part (omega arith)) in
    rw (sym (all_done (part_fits mode) ps i past_part c.loop-part.invariant.0 (omega arith)), z) refl
