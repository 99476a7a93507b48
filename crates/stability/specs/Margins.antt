-- For the margin page, of every verdict (document 01 does not ask for it): how far the exact values lie above the figures.
use Rattle.std.specs.Prelude.{◌≡◌, ℕ, ◌+◌, ◌<◌, ℤ}
use Rattle.whole.specs.Frac.{◌≼◌, ◌≺◌}
use Rattle.record.specs.declared.Ship.{Ship}
use Rattle.arms.specs.declared.Basis.{Basis}
use Rattle.stability.specs.declared.Verdict.{Verdict}
use Rattle.stability.specs.Verdict.{verdict_of}
use Rattle.arms.specs.Exact.{angle_of, OnStretch, exact_ten, exact_at, NotUnder, LessOver}
use Rattle.area.specs.Exact.{exact_area}
use Rattle.stability.specs.Figures.{Figures}

-- AREA ≤ exact area < AREA + 12,009. At each of the ten angles DIFF ≤ exact difference < DIFF + 3. At the heel limit DIFF ≤ exact
-- difference, which is less than DIFF + 3 at one of the ten angles and less than DIFF + 4 between them.
pub record Near (b : Basis) (v : Verdict) (heel : ℕ) (ten : ℕ → ℤ) : Type 0 where
  pub area_low : v.area ≼ exact_area b v.upper
  pub area_high : exact_area b v.upper ≺ v.area + 12009
  pub ten_low : (k : ℕ) → k < 10 → NotUnder (ten k) (exact_ten b k)
  pub ten_high : (k : ℕ) → k < 10 → LessOver (ten k) 3 (exact_ten b k)
  pub diff_low : (i : ℕ) → i < 9 → OnStretch i heel 1 → NotUnder v.diff (exact_at b i heel 1)
  pub diff_high : (i : ℕ) → i < 9 → OnStretch i heel 1 → LessOver v.diff 4 (exact_at b i heel 1)
  pub diff_high_ten : (i j : ℕ) → i < 9 → j < 10 → heel ≡ angle_of j → OnStretch i heel 1 → LessOver v.diff 3 (exact_at b i heel 1)

-- the margins of the verdict on a ship and a basis
pub record Margins (s : Ship) (b : Basis) : Type 0 where
  pub heel : ℕ
  pub ten : ℕ → ℤ
  pub diff : ℕ → ℤ
  pub figures : Figures s b (verdict_of s b) heel ten diff
  pub near : Near b (verdict_of s b) heel ten
