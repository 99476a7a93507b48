-- `line_end`: the place of the next byte 10 from `at` on, or the block's end.
use mathlib.Core.Path.{ap, ◌∙◌}
use Prim.Native.Nat.{◌+◌}
use Rattle.input.specs.Lines.{line_length}
use Rattle.input.proofs.Cutting.{before_newline}
use Rattle.input.proofs.line_end.Goals as goal

pub returns-clause-value : goal.returns-clause-value
returns-clause-value c =
    ap (λ n. c.args.at + n) (c.bytes_before.ensures.value ∙ before_newline _ ∙ ap line_length c.split_at.ensures.back)
