-- `first_piece`: the first bracket or run of a text, and what is left behind it.
use borrow.Author.Rules.{rules}
use mathlib.Core.Path.{sym, ◌∙◌}
use native.Mathlib.Omega.{arith}
use Rattle.text.proofs.Runs.{none_left, opening_left, closing_left, byte_over, run_left, run_has_bytes, none_placed, opening_placed, closing_placed, place_over, run_placed}
use Rattle.text.proofs.Tails.{left_tail, behind_tail}
use Rattle.text.proofs.first_piece.Goals as goal

pub returns-then-is_in_run-clause-place : goal.returns-then-is_in_run-clause-place
returns-then-is_in_run-clause-place c =
    run_placed c.args.s.now c.loop-b.left.now c.loop-b.invariant.3 _ _ c.in-Some.ensures.cases.0 (sym c.is_in_run.ensures ∙ c.if-is_in_run.true) _ _ _ c.run_length.ensures.value c.split_at.ensures.front c.split_at.ensures.back

pub returns-then-is_in_run-clause-read : goal.returns-then-is_in_run-clause-read
returns-then-is_in_run-clause-read c =
    run_left _ _ c.loop-b.invariant.0 _ _ c.in-Some.ensures.cases.0 (sym c.is_in_run.ensures ∙ c.if-is_in_run.true) _ _ _ c.run_length.ensures.value c.split_at.ensures.front c.split_at.ensures.back

pub returns-then-is_in_run-clause-shorter : goal.returns-then-is_in_run-clause-shorter
returns-then-is_in_run-clause-shorter c =
    let n = run_has_bytes _ _ c.loop-b.invariant.0 _ _ c.in-Some.ensures.cases.0 (sym c.is_in_run.ensures ∙ c.if-is_in_run.true) in
    omega (arith, c.loop-b.invariant.1)

pub returns-then-is_in_run-clause-tail : goal.returns-then-is_in_run-clause-tail
returns-then-is_in_run-clause-tail c = left_tail _ _ c.loop-b.invariant.1 c.loop-b.invariant.2 _ _ c.run_length.ensures.upper_bound c.split_at.ensures.back

pub returns-then-b-eq40-clause-place : goal.returns-then-b-eq40-clause-place
returns-then-b-eq40-clause-place c = opening_placed c.args.s.now c.loop-b.left.now c.loop-b.invariant.3 _ _ c.in-Some.ensures.cases.0 c.if-b-eq40.true

pub returns-then-b-eq40-clause-read : goal.returns-then-b-eq40-clause-read
returns-then-b-eq40-clause-read c = opening_left _ _ c.loop-b.invariant.0 _ _ c.in-Some.ensures.cases.0 c.if-b-eq40.true

pub returns-then-b-eq40-clause-tail : goal.returns-then-b-eq40-clause-tail
returns-then-b-eq40-clause-tail c = behind_tail _ _ c.loop-b.invariant.1 c.loop-b.invariant.2 _ _ c.in-Some.ensures.cases.0

pub returns-then-b-eq41-clause-place : goal.returns-then-b-eq41-clause-place
returns-then-b-eq41-clause-place c = closing_placed c.args.s.now c.loop-b.left.now c.loop-b.invariant.3 _ _ c.in-Some.ensures.cases.0 c.if-b-eq41.true

pub returns-then-b-eq41-clause-read : goal.returns-then-b-eq41-clause-read
returns-then-b-eq41-clause-read c = closing_left _ _ c.loop-b.invariant.0 _ _ c.in-Some.ensures.cases.0 c.if-b-eq41.true

pub returns-then-b-eq41-clause-tail : goal.returns-then-b-eq41-clause-tail
returns-then-b-eq41-clause-tail c = behind_tail _ _ c.loop-b.invariant.1 c.loop-b.invariant.2 _ _ c.in-Some.ensures.cases.0

pub loop-b-preserved : goal.loop-b-preserved
loop-b-preserved c = (
  byte_over _ _ c.loop-b.invariant.0 _ _ c.in-Some.ensures.cases.0 (sym c.is_in_run.ensures ∙ c.if-is_in_run.false) c.if-b-eq40.false c.if-b-eq41.false,
  search rules,
  behind_tail _ _ c.loop-b.invariant.1 c.loop-b.invariant.2 _ _ c.in-Some.ensures.cases.0,
  place_over c.args.s.now c.loop-b.left.now c.loop-b.invariant.3 _ _ c.in-Some.ensures.cases.0 (sym c.is_in_run.ensures ∙ c.if-is_in_run.false) c.if-b-eq40.false c.if-b-eq41.false,
)

pub returns-clause-place : goal.returns-clause-place
returns-clause-place c = none_placed c.args.s.now c.loop-b.left.now c.loop-b.invariant.3 (search rules)

pub returns-clause-read : goal.returns-clause-read
returns-clause-read c = none_left _ _ c.loop-b.invariant.0 (search rules)
