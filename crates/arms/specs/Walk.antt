-- How the program puts DIFF together from the arrays of arms: the same figures, by their parts above and below zero.
use Rattle.std.specs.Prelude.{◌≡◌, List, ℕ, ◌^◌, ◌<◌, ◌≤◌, get_or, ℤ, pos, ◌-ℤ◌}
use Rattle.whole.specs.Lists.{tabulate}
use Rattle.sign.specs.Sign.{plus, minus}
use Rattle.arms.specs.declared.Basis.{Basis}
use Rattle.arms.specs.declared.Reach.{Reach}
use Rattle.arms.specs.Arms.{span, past, fluid_kg}

-- a righting arm less a heeling arm
abbrev pub left_over : ℤ → ℕ → ℤ
left_over r h = r -ℤ pos h

-- D₂ − D₁, D − D₁ and fluid KG of a basis
pub record ReachOf (b : Basis) (r : Reach) : Type 0 where
  pub span : r.span ≡ span b
  pub past : r.past ≡ past b
  pub fluid : r.fluid ≡ fluid_kg b
  pub some : 0 < r.span
  pub within : r.past ≤ r.span
  pub small : r.span ≤ 400000
  pub low : r.fluid ≤ 60000

-- the ten differences of two arrays
abbrev pub left_overs : List ℤ → List ℕ → List ℤ
left_overs rs hs = tabulate 10 (λ k. left_over (get_or rs k (pos 0)) (get_or hs k 0))

-- both arrays small enough to be subtracted
pub record Small (rs : List ℤ) (hs : List ℕ) : Type 0 where
  pub above : (k : ℕ) → k < 10 → plus (get_or rs k (pos 0)) < 2 ^ 40
  pub below : (k : ℕ) → k < 10 → minus (get_or rs k (pos 0)) < 2 ^ 40
  pub heeling : (k : ℕ) → k < 10 → get_or hs k 0 < 2 ^ 40

-- ten DIFFs small enough for a straight line between them
pub record Bounded (ds : List ℤ) : Type 0 where
  pub above : (k : ℕ) → k < 10 → plus (get_or ds k (pos 0)) ≤ 2 ^ 26
  pub below : (k : ℕ) → k < 10 → minus (get_or ds k (pos 0)) ≤ 2 ^ 34
