-- `in_order`: whether each column held is within its limits and above the one before.
use mathlib.Core.Path.{sym, ◌∙◌}
use Rattle.record.specs.Held.{held}
use Rattle.columns.proofs.Order.{order_rising}
use Rattle.columns.proofs.in_order.Goals as goal

pub returns-then-all_within : goal.returns-then-all_within
returns-then-all_within c =
    let within = sym c.all_within.ensures ∙ c.if-all_within.true in
    order_rising (held c.args.cs) c.all_rise.result (rw (c.held-held.ensures) at within) (rw (c.held-held.ensures) at c.all_rise.ensures)
