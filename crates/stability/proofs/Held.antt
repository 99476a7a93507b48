-- At a displacement that a column has, either pair of neighbours that hold it gives the same verdict.
use mathlib.Core.Path.{◌≡◌, refl}
use Prim.Native.Nat.{◌<◌}
use Rattle.record.specs.declared.Ship.{Ship}
use Rattle.arms.specs.declared.Basis.{Basis}
use Rattle.arms.specs.Arms.{span, past}
use Rattle.arms.proofs.Held.{same_gm, same_diffs}
use Rattle.stability.specs.Verdict.{verdict_of}

pub same_verdict : (b c : Basis) → 0 < span b → 0 < span c → b.high ≡ c.low → b.load ≡ c.load → b.weight ≡ c.weight → past b ≡ span b → past c ≡ 0 → (s : Ship) → verdict_of s b ≡ verdict_of s c
unfolding verdict_of
same_verdict b c pb pc shared load weight top foot s =
    rw (same_diffs b c pb pc shared load weight top foot, same_gm b c pb pc shared load weight top foot) refl
