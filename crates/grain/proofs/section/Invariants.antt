-- `section`: the section moment of the cells of a section, or that its void does not fit.
use mathlib.Core.Path.{◌≡◌}
use Prim.Native.Nat.{◌-◌}
use lib.ListN.{length}
use Rattle.grain.proofs.Walks.{Ahead}
use Rattle.grain.proofs.section.Given as goal

abbrev pub invariant-loop-cell : goal.invariant-loop-cell
invariant-loop-cell l = (l.last ≡ length l.cells - 1) × Ahead l.cells l.cell-index l.s
