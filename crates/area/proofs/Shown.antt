-- AREA: what it is, and how near the exact area lies.
use mathlib.Core.Path.{◌≡◌, subst}
use mathlib.Core.List.{List}
use Prim.Native.Nat.{ℕ, ◌+◌, ◌*◌, ◌<◌}
use native.Mathlib.Nat.{le_of_lt}
use native.Mathlib.Omega.{arith}
use lib.ListN.{get_or}
use lib.IntN.{ℤ, pos}
use Rattle.whole.specs.Frac.{◌≼◌, ◌≺◌}
use Rattle.arms.specs.declared.Basis.{Basis}
use Rattle.arms.specs.Arms.{diffs, plus_at, minus_at}
use Rattle.arms.specs.Judgeable.{Judgeable}
use Rattle.arms.specs.Exact.{den, exact_kn, exact_taken}
use Rattle.arms.proofs.Nearness.{den_some, close}
use Rattle.area.specs.Area.{stretch_area, area_over, area}
use Rattle.area.specs.Exact.{exact_stretch, exact_area}
use Rattle.area.specs.Figures.{AreaIs}
use Rattle.area.proofs.Areas.{Near, one_lower, one_upper, area_low_lem, area_high_lem}

-- the sum of nine stretches, each rounded down
itself : (ds : List ℤ) (k : ℕ) → Near 1 0 (plus_at ds k) (minus_at ds k) (plus_at ds k) (minus_at ds k)
itself ds k = record { low = omega arith; high = omega arith }

nine : (f : ℕ → ℕ) → 0 + f 0 + f 1 + f 2 + f 3 + f 4 + f 5 + f 6 + f 7 + f 8 ≡ f 0 + f 1 + f 2 + f 3 + f 4 + f 5 + f 6 + f 7 + f 8
nine f = omega arith

pub area_is : (ds : List ℤ) (u : ℕ) → AreaIs (λ k. get_or ds k (pos 0)) u (area ds u)
unfolding area_over
area_is ds u =
    let p = plus_at ds in
    let m = minus_at ds in
    record {
      part = stretch_area p m u;
      low = one_lower p m p m 0 1 u (omega arith) (λ k h. itself ds k);
      high = λ k h. subst (λ (n : ℕ). exact_stretch 1 p m u k ≺ n) (omega arith) (one_upper p m p m 0 1 u (omega arith) (λ k h. itself ds k) k h);
      sum = nine (stretch_area p m u);
    }

-- the exact area is never below it, and less than 12,009 above it
module _ (b : Basis) (jd : Judgeable b) where
  near : (k : ℕ) → k < 10 → Near (den b) (3 * den b) (plus_at (diffs b) k) (minus_at (diffs b) k) (exact_kn b k) (exact_taken b k)
  near k h = record { low = (close b jd k h).low; high = le_of_lt (close b jd k h).high }

  pub area_never_above : (u : ℕ) → area (diffs b) u ≼ exact_area b u
  area_never_above u =
      area_low_lem (plus_at (diffs b)) (minus_at (diffs b)) (exact_kn b) (exact_taken b) 3 (den b) u (den_some b jd) near

  pub area_never_far : (u : ℕ) → exact_area b u ≺ area (diffs b) u + 12009
  area_never_far u =
      area_high_lem (plus_at (diffs b)) (minus_at (diffs b)) (exact_kn b) (exact_taken b) 3 (den b) u (den_some b jd) near
