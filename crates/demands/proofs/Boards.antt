-- Document 02, P7: a part beside a board has no place among cells.
use Rattle.std.specs.Prelude.{None}
use Rattle.showing.proofs.Boards.{no_split_among_cells}
use Rattle.demands.specs.Boards.{SplitIsNotOfCells}
use Rattle.demands.proofs.Asked.{code_of}

pub split_is_not_of_cells_lem : SplitIsNotOfCells
split_is_not_of_cells_lem c line lent n mode front behind room sound m e =
    code_of c line lent None (record { room = room; sound = sound; asked = rw e (no_split_among_cells n mode front behind m) })
