-- `spell`: the tokens of a line in the one spelling, over the front of a buffer: token by token, with the space in front of each.
use Rattle.text.specs.Front.{left_of}
use Rattle.spelling.proofs.Walk.{Standing}
use Rattle.spelling.proofs.spell.Given as goal

abbrev pub invariant-loop-p : goal.invariant-loop-p
invariant-loop-p l = Standing l.s l.initial.out l.out (left_of l.p-iterator) l.w l.ended
