-- `serve`: takes lines from standard input until it ends, or this many lines or bytes were read.
use mathlib.Core.Bool.{cond}
use Prim.Native.Nat.{◌+◌, ◌-◌, ◌*◌}
use Rattle.service.specs.Serving.{Turn}
use Rattle.service.proofs.serve.Given as goal

abbrev pub invariant-loop-going : goal.invariant-loop-going
invariant-loop-going l = Turn l.max_lines l.max_bytes l.block l.line l.out l.f l.more l.n l.at l.going

abbrev pub decreases-loop-going : goal.decreases-loop-going
decreases-loop-going l = 2 * l.more + (l.n - l.at) + cond l.going 65537 0
