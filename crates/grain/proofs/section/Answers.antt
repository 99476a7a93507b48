-- `section`: the section moment of the cells of a section, or that its void does not fit.
use mathlib.Core.Path.{◌≡◌}
use Prim.Native.Nat.{◌-◌, ◌<◌}
use native.Mathlib.Omega.{arith}
use lib.ListN.{length, length-take}
use lib.Seq.{get_or-take}
use Rattle.record.proofs.Taken.{past_cell}
use Rattle.grain.proofs.Walks.{section_room, section_next, section_last, last_above}
use Rattle.grain.proofs.section.Goals as goal

pub inner_cell-s-requires : goal.inner_cell-s-requires
inner_cell-s-requires c =
    let l = c.args.cells.now in
    let i = c.loop-cell.cell-index in
    let h : i < length l - 1 = omega (arith, length-take (length l - 1) l) in
    rw (c.sizes_of.ensures, get_or-take (length l - 1) l i past_cell h)
    (section_room l c.requires.0 c.requires.1 i c.loop-cell.s c.loop-cell.invariant.1 (omega arith))

pub loop-cell-preserved : goal.loop-cell-preserved
loop-cell-preserved c =
    let l = c.args.cells.now in
    let i = c.loop-cell.cell-index in
    let h : i < length l - 1 = omega (arith, length-take (length l - 1) l) in (
      c.loop-cell.invariant.0,
      rw (c.inner_cell-s.ensures, c.sizes_of.ensures, get_or-take (length l - 1) l i past_cell h)
          (section_next l c.requires.0 c.requires.1 i c.loop-cell.s c.loop-cell.invariant.1 (omega arith) (omega arith)),
    )

pub last_cell-requires : goal.last_cell-requires
last_cell-requires c =
    let l = c.args.cells.now in
    let e : c.loop-cell.cell-index ≡ length l - 1 = omega (arith, length-take (length l - 1) l) in
    let a = rw e at c.loop-cell.invariant.1 in
    rw c.sizes_of-2.ensures (
      section_room l c.requires.0 c.requires.1 (length l - 1) c.loop-cell.s a (omega (arith, c.requires.0.some)),
      last_above l c.requires.0 c.requires.1 (length l - 1) c.loop-cell.s a (omega (arith, c.requires.0.some)) (omega arith),
    )

pub returns : goal.returns
returns c =
    let l = c.args.cells.now in
    let e : c.loop-cell.cell-index ≡ length l - 1 = omega (arith, length-take (length l - 1) l) in
    let a = rw e at c.loop-cell.invariant.1 in
    rw (c.last_cell.ensures, c.sizes_of-2.ensures)
    (section_last l c.requires.0 c.requires.1 (length l - 1) c.loop-cell.s a (omega (arith, c.requires.0.some)) (omega arith))
