-- `take_begun`: the line that has begun is ended: with byte 10 behind it, it is taken as a block of its own.
use mathlib.Core.Path.{refl}
use native.Mathlib.Omega.{arith}
use Rattle.lines.proofs.Pieces.{begun_taken, line_ended}
use borrow.Author.Rules.{rules}
use Rattle.lines.proofs.take_begun.Goals as goal

pub returns : goal.returns
returns c =
    let e = line_ended c.args.line.now c.args.f.now.used (omega (arith, c.requires)) in
    begun_taken c.args.f.now _ _ c.args.out.now _ _ e c.take_lines.ensures c.requires.waits c.requires.output (search rules) _ refl refl refl refl
