-- Lanes of a vector that pass a test.
use Rattle.std.specs.Prelude.{Bool, List, ℕ, map}
use Rattle.std.specs.Simd.Lanes.{mask_l}

-- which lanes pass: bit k of the number tells of lane k
unfoldable pub flags : (ℕ → Bool) → List ℕ → ℕ
flags f v = mask_l (map f v)
