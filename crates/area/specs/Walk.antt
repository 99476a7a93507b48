-- How the program puts AREA together: a stretch by the two DIFFs at its ends, each by its parts above and below zero.
use Rattle.std.specs.Prelude.{ℕ, ◌^◌, ◌≤◌, ℤ}
use Rattle.sign.specs.Sign.{plus, minus}
use Rattle.area.specs.Area.{area_above, ends_above}

-- ends small enough for a product
pub record EndsFit (h t p₁ m₁ p₂ m₂ : ℕ) : Type 0 where
  pub part : t ≤ h
  pub width : h ≤ 500
  pub up₁ : p₁ ≤ 2 ^ 34
  pub down₁ : m₁ ≤ 2 ^ 34
  pub up₂ : p₂ ≤ 2 ^ 34
  pub down₂ : m₂ ≤ 2 ^ 34

pub record EndBounds (d : ℤ) : Type 0 where
  pub above : plus d ≤ 2 ^ 26
  pub below : minus d ≤ 2 ^ 34

-- the area above zero of the first t of a stretch of width h, on the line from d to e
abbrev pub part_area : (h t : ℕ) (d e : ℤ) → ℕ
part_area h t d e =
    area_above t h (ends_above h t (plus d) (minus d) (plus e) (minus e)) (ends_above h t (minus d) (plus d) (minus e) (plus e))
