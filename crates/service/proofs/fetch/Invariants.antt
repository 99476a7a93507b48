-- `fetch`: reads once, at most `most` bytes; an interrupted read is repeated.
use mathlib.Core.Path.{◌≡◌}
use Prim.Native.Nat.{◌≤◌}
use lib.ListN.{length}
use Rattle.service.proofs.fetch.Given as goal

abbrev pub invariant-loop : goal.invariant-loop
invariant-loop l = (length l.block ≡ length l.initial.block) × (l.most ≤ length l.initial.block)
