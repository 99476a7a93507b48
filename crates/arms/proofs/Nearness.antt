-- Demand 3, of GM and at each of the ten angles: GM is below 300,000 exactly where the exact GM is; the exact difference of the arms is
-- never below DIFF, and less than 3 above it.
use mathlib.Core.Path.{◌≡◌}
use Prim.Native.Nat.{ℕ, ◌+◌, ◌*◌, ◌-◌, ◌/◌, ◌≤◌, ◌<◌}
use native.Mathlib.Nat.{mul-le-mul_right, mul-lt-mul_of_pos_right, div-mul-le_self, lt-div-mul-add, mul-pos, mul-sub, le_of_lt}
use native.Mathlib.Omega.{arith}
use lib.ListN.{get_or}
use lib.IntN.{pos}
use Rattle.sign.specs.Sign.{AtMost, Under}
use Rattle.whole.specs.Divide.{ceil_div}
use Rattle.whole.proofs.Dividing.{ceil_low, ceil_high}
use Rattle.arms.specs.declared.Basis.{Basis}
use Rattle.arms.specs.Angles.{angle, sine}
use Rattle.arms.specs.Arms.{gm, span, past, fluid_kg, span_km, span_kn, kn_arm, kg_arm, heeling_arm, diffs, plus_at, minus_at}
use Rattle.arms.specs.Exact.{apart, km_over, kn_over, kg_over, heel_over, den, exact_kn, exact_taken, exact_ten, NotUnder, LessOver, ExactGMBelow}
use Rattle.arms.specs.Figures.{TowardsLower, DiffIs}
use Rattle.arms.specs.Judgeable.{Judgeable}
use Rattle.arms.proofs.Bounds.{load_bounds, span_some}
use Rattle.arms.proofs.Floors.{floor_is}
use Rattle.arms.proofs.Tens.{angle_is, sine_is, diff_reads}

-- (P − M)/q is at least p − m, and less than w above it
pub record Close (q w p m P M : ℕ) : Type 0 where
  pub low : q * p + M ≤ P + q * m
  pub high : P + q * m < q * p + M + w * q

-- only p − m matters: the parts above and below zero serve too
pub close_parts : (q w a c P M : ℕ) → Close q w a c P M → Close q w (a - c) (c - a) P M
close_parts q w a c P M n =
    record { low = omega (arith, n.low, mul-sub q a c, mul-sub q c a); high = omega (arith, n.high, mul-sub q a c, mul-sub q c a) }

-- the quotients are variables here
three_low : (d y z n x v p c e : ℕ) → p * d ≤ n → x ≤ y * c → v ≤ z * e → d * (y * z) * p + (x * (d * z) + v * (d * y)) ≤ n * (y * z) + d * (y * z) * (c + e)
three_low d y z n x v p c e h k l =
    omega (arith, mul-le-mul_right (y * z) h, mul-le-mul_right (d * z) k, mul-le-mul_right (d * y) l)

three_high : (d y z n x v p c e : ℕ) → 0 < y * z → n < p * d + d → y * c ≤ x + y → z * e ≤ v + z → n * (y * z) + d * (y * z) * (c + e) < d * (y * z) * p + (x * (d * z) + v * (d * y)) + 3 * (d * (y * z))
three_high d y z n x v p c e yz h k l =
    omega (arith, mul-lt-mul_of_pos_right h yz, mul-le-mul_right (d * z) k, mul-le-mul_right (d * y) l)

-- n/d rounded down less x/y and v/z, each rounded up, against the exact difference, which is over d × y × z
pub close_three : (n d x y v z : ℕ) → 0 < d → 0 < y → 0 < z → Close (d * (y * z)) 3 (n / d) (ceil_div x y + ceil_div v z) (n * (y * z)) (x * (d * z) + v * (d * y))
close_three n d x y v z pd py pz =
    record {
      low = three_low d y z n x v (n / d) (ceil_div x y) (ceil_div v z) (div-mul-le_self n d) (ceil_low x y py) (ceil_low v z pz);
      high =
          three_high d y z n x v (n / d) (ceil_div x y) (ceil_div v z) (mul-pos py pz) (lt-div-mul-add {a = n} pd)
          (le_of_lt (ceil_high x y py)) (le_of_lt (ceil_high v z pz));
    }

module _ (b : Basis) (j : Judgeable b) where
  heel_den_some : 0 < 20000 * b.load.d
  heel_den_some = omega (arith, (load_bounds b.load j.load).d.low)

  pub den_some : 0 < den b
  den_some = mul-pos (span_some b j) (omega (arith, heel_den_some))

  -- D₂ − D is what is left of the span
  left : b.high.d - b.load.d ≡ span b - past b
  left = omega (arith, j.from)

  pub km_is : km_over b ≡ span_km b
  km_is = rw left

  kn_is : (k : ℕ) → kn_over b k ≡ span_kn b k
  kn_is k = rw left

  kg_is : (k : ℕ) → kg_over b k ≡ fluid_kg b * sine k
  kg_is k = rw (sine_is k)

  heel_is : (k : ℕ) → heel_over b k ≡ 1000 * b.weight * (20000 - angle k)
  heel_is k = rw (angle_is k)

  -- at the k-th angle
  pub close : (k : ℕ) → k < 10 → Close (den b) 3 (plus_at (diffs b) k) (minus_at (diffs b) k) (exact_kn b k) (exact_taken b k)
  unfolding kn_arm kg_arm heeling_arm
  close k h =
      let r = diff_reads b k h in
      rw (r.pluses, r.minuses, kn_is k, kg_is k, heel_is k)
      (close_parts (den b) 3 (kn_arm b k) (kg_arm b k + heeling_arm b k) (span_kn b k * (1000 * (20000 * b.load.d))) _
      (close_three (span_kn b k) (span b) (fluid_kg b * sine k) 1000 (1000 * b.weight * (20000 - angle k)) (20000 * b.load.d) (span_some b j) (omega arith) heel_den_some))

  -- and what DIFF is made of
  pub tenth : (k : ℕ) → k < 10 → DiffIs b k (get_or (diffs b) k (pos 0))
  unfolding kn_arm kg_arm heeling_arm
  tenth k h =
      let r = diff_reads b k h in
      record {
        kn = kn_arm b k;
        kg = kg_arm b k;
        heeling = heeling_arm b k;
        kn_down = rw (kn_is k) (omega (arith, div-mul-le_self (span_kn b k) (span b)), omega (arith, lt-div-mul-add {a = span_kn b k} (span_some b j)));
        kg_up = rw (kg_is k) (ceil_low (fluid_kg b * sine k) 1000 (omega arith), ceil_high (fluid_kg b * sine k) 1000 (omega arith));
        heeling_up = rw (heel_is k) (ceil_low (1000 * b.weight * (20000 - angle k)) (20000 * b.load.d) heel_den_some, ceil_high (1000 * b.weight * (20000 - angle k)) (20000 * b.load.d) heel_den_some);
        less = omega (arith, r.pluses, r.minuses);
      }

  -- the exact difference is not below DIFF, and less than 3 above it
  pub ten_low_lem : (k : ℕ) → k < 10 → NotUnder (get_or (diffs b) k (pos 0)) (exact_ten b k)
  ten_low_lem k h = omega (arith, (close k h).low)

  pub ten_high_lem : (k : ℕ) → k < 10 → LessOver (get_or (diffs b) k (pos 0)) 3 (exact_ten b k)
  ten_high_lem k h = omega (arith, (close k h).high)

  -- GM is rounded down, and so below 300,000 exactly where the exact GM is
  pub gm_is : TowardsLower (km_over b) (1000 * (b.load.kg + b.load.fs) * apart b) (apart b) (gm b)
  unfolding gm
  gm_is = rw km_is (floor_is (span_km b) (1000 * fluid_kg b * span b) (span b) (span_some b j))

  pub gm_below_lem : Under (gm b) (pos 300000) → ExactGMBelow b 300000
  gm_below_lem u = omega (arith, gm_is.high, mul-le-mul_right (apart b) u)

  pub gm_not_below : AtMost (pos 300000) (gm b) → ExactGMBelow b 300000 → ⊥
  gm_not_below u k = omega (arith, gm_is.low, mul-le-mul_right (apart b) u)
