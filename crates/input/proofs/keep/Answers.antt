-- `keep`: keeps of a piece what has room behind the first `used` bytes of the line, 2,001 in all: how many are kept then.
use mathlib.Core.Path.{◌≡◌, ap, ◌∙◌}
use mathlib.Core.List.{List, ◌++◌}
use Prim.Native.Nat.{ℕ, ◌-◌, min}
use native.Mathlib.Omega.{arith}
use lib.ListN.{length, take}
use lib.Seq.{length-take-le}
use Rattle.std.proofs.lemmas.Slice.{take-put_mid}
use Rattle.input.proofs.Cutting.{kept_piece}
use Rattle.input.proofs.keep.Goals as goal

pub returns-clause-line_after : goal.returns-clause-line_after
returns-clause-line_after c =
    let a = c.args in
    let old = take a.used a.line.now in
    let n : length old ≡ a.used = length-take-le a.used a.line.now (omega arith) in
    let e : c.min-n.result ≡ min (length a.piece.now) (2001 - length old) = rw n c.min-n.ensures in
    take-put_mid a.used _ a.line.now c.copy_from_slice.new.self _ (omega arith) (omega arith)
    ∙ ap (λ (l : List ℕ). old ++ l) c.copy_from_slice.ensures.after
    ∙ kept_piece old a.piece.now 2001 c.min-n.result (omega arith) e
