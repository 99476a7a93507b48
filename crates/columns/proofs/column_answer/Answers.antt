-- `column_answer`: what the columns held answer to one more.
use mathlib.Core.Path.{◌≡◌, sym, ap, ◌∙◌}
use Prim.Native.Nat.{◌-◌}
use mathlib.Core.Bool.{true, false}
use lib.ListN.{length}
use borrow.Author.Tests.{lt-ltb, le-ltb}
use Rattle.std.specs.Prelude.{Some, None, slice_get}
use Rattle.std.specs.Option.{option_copied}
use Rattle.record.specs.Held.{held}
use Rattle.columns.proofs.Adding.{answer_limits, answer_full, answer_above, above_some, above_missing}
use Rattle.columns.proofs.column_answer.Goals as goal

pub returns-then-not-column_limits : goal.returns-then-not-column_limits
returns-then-not-column_limits c = answer_limits (held c.args.cs) c.args.k (sym c.column_limits.ensures ∙ c.if-not-column_limits.true)

pub returns-then-held-ge20 : goal.returns-then-held-ge20
returns-then-held-ge20 c =
    answer_full (held c.args.cs) c.args.k (sym c.column_limits.ensures ∙ c.if-not-column_limits.false)
    (rw (c.held-held.ensures) at c.if-held-ge20.true)

pub returns-in-Some : goal.returns-in-Some
returns-in-Some c =
    let ks = held c.args.cs in
    let e : slice_get ks (length ks - 1) ≡ Some c.in-Some.last.now = rw (c.held-held.ensures) at (sym c.last.ensures.value ∙ ap option_copied c.in-Some.is) in
    answer_above ks c.args.k (sym c.column_limits.ensures ∙ c.if-not-column_limits.false) false (rw (c.held-held.ensures) at c.if-held-ge20.false)
    (above_some c.args.k.d ks c.in-Some.last.now e ∙ le-ltb _ _ c.if-k-last.true)

pub returns-in_default : goal.returns-in_default
returns-in_default c =
    let ks = held c.args.cs in
    let e : slice_get ks (length ks - 1) ≡ Some c.in-Some.last.now = rw (c.held-held.ensures) at (sym c.last.ensures.value ∙ ap option_copied c.in-Some.is) in
    answer_above ks c.args.k (sym c.column_limits.ensures ∙ c.if-not-column_limits.false) true (rw (c.held-held.ensures) at c.if-held-ge20.false)
    (above_some c.args.k.d ks c.in-Some.last.now e ∙ lt-ltb _ _ c.if-k-last.false)

pub returns-in_default-2 : goal.returns-in_default-2
returns-in_default-2 c =
    let ks = held c.args.cs in
    let e : slice_get ks (length ks - 1) ≡ None = rw (c.held-held.ensures) at (sym c.last.ensures.value ∙ ap option_copied c.in_default.is) in
    answer_above ks c.args.k (sym c.column_limits.ensures ∙ c.if-not-column_limits.false) true (rw (c.held-held.ensures) at c.if-held-ge20.false)
    (above_missing c.args.k.d ks e)
