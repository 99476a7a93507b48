-- Document 01, what AREA is: fixed by the exact area of each stretch, and no definition that computes it is named.
use Rattle.std.specs.Prelude.{◌≡◌, ℕ, ◌+◌, ◌<◌, ℤ}
use Rattle.whole.specs.Frac.{◌≼◌, ◌≺◌}
use Rattle.sign.specs.Sign.{plus, minus}
use Rattle.area.specs.Exact.{exact_stretch}

-- a is AREA: the area above zero from 0 to u, the sum of nine stretches under the lines through the ten DIFFs, each rounded down
pub record AreaIs (ten : ℕ → ℤ) (u a : ℕ) : Type 0 where
  pub part : ℕ → ℕ
  pub low : (k : ℕ) → k < 9 → part k ≼ exact_stretch 1 (λ j. plus (ten j)) (λ j. minus (ten j)) u k
  pub high : (k : ℕ) → k < 9 → exact_stretch 1 (λ j. plus (ten j)) (λ j. minus (ten j)) u k ≺ part k + 1
  pub sum : a ≡ part 0 + part 1 + part 2 + part 3 + part 4 + part 5 + part 6 + part 7 + part 8
