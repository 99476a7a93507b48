-- `spell`: the tokens of a line in the one spelling, over the front of a buffer: token by token, with the space in front of each.
use Rattle.spelling.proofs.Walk.{standing_first, standing_long, standing_ends, standing_room, standing_next}
use Rattle.spelling.proofs.spell.Goals as goal

pub loop-p-init : goal.loop-p-init
loop-p-init c = rw (c.into_iter-p-iterator.ensures.into_iter_gives, c.pieces_of-p-items.ensures) (standing_first c.args.s.now c.args.out.now c.requires)

pub add_piece-w-requires : goal.add_piece-w-requires
add_piece-w-requires c = standing_room c.loop-p.invariant _ _ c.in-Some.ensures.steps

pub loop-p-preserved : goal.loop-p-preserved
loop-p-preserved c =
    standing_next c.loop-p.invariant _ _ c.in-Some.ensures.steps (c.add_piece-w.ensures.value, c.add_piece-w.ensures.out_after) c.ends_item-ended.ensures

pub shape_of-out : goal.shape_of-out
shape_of-out c = standing_long c.loop-p.invariant

pub returns : goal.returns
returns c =
    let r = standing_ends c.loop-p.invariant c.in-None.ensures.steps.0 in
    record { value = r.0; out_after = r.1 }
