-- The area above zero under a broken line, and how far two broken lines that lie close differ in it.
use mathlib.Core.Path.{◌≡◌, ap, subst}
use mathlib.Core.Logic.{⊎_elim}
use Prim.Native.Nat.{ℕ, zero, suc, ◌+◌, ◌*◌, ◌-◌, ◌≤◌, ◌<◌, min, max}
use native.Mathlib.Nat.{mul-le-mul_left, mul-le-mul_right, mul-le-mul, le_of_mul-le-mul_right, lt_of_mul-lt-mul_right, le_of_mul-le-mul_left, mul-zero, zero-div, max-eq_right, mul-lt-mul_of_pos_right, div-mul-le_self, lt-div-mul-add, mul-sub, eq-zero-or-pos, mul-pos, le_of_lt, lt_of_lt_of_le}
use native.Mathlib.Omega.{arith}
use Rattle.whole.specs.Line.{on_line}
use Rattle.whole.specs.Frac.{Frac, ◌⊕◌, ◌≼◌, ◌≺◌}
use Rattle.whole.proofs.Fractions.{≼-add}
use Rattle.arms.specs.Angles.{angle, width}
use Rattle.area.specs.Area.{area_above, counted, ends_above, stretch_area, area_over}
use Rattle.area.specs.Exact.{exact_stretch, exact_over}
use Rattle.arms.proofs.Tens.{angle_rises, angle_nine}
use Rattle.area.proofs.Plain.{exact_above, one_stretch, alike_low, alike_high, stretch_alike}

-- ---- the core: U²/(U + N) rises in U and falls in N, across a change of scale by q
core_lower : (q U N U' N' : ℕ) → q * U ≤ U' → N' ≤ q * N → U * U * q * (U' + N') ≤ U' * U' * (U + N)
core_lower q U N U' N' h k =
    omega (arith, mul-le-mul_left (U * U') h, mul-le-mul_left (U * U * q) k, mul-le-mul_left N (mul-le-mul h h))

-- and no faster than U rises and N falls together
slope : (x n a b : ℕ) → (x + a) * (x + a) * (x + n + b) ≤ (x * x + (a + b) * (x + n + b)) * (x + a + n)
slope x n a b = omega arith

core_upper : (q U N a N' b : ℕ) → 0 < q → q * N ≡ N' + b → (q * U + a) * (q * U + a) * (U + N) ≤ (q * (U * U) + (a + b) * (U + N)) * (q * U + a + N')
core_upper q U N a N' b pq e = le_of_mul-le-mul_left {k = q} scaled pq
  where
    sum : q * U + N' + b ≡ q * (U + N)
    sum = omega arith

    scaled : q * ((q * U + a) * (q * U + a) * (U + N)) ≤ q * ((q * (U * U) + (a + b) * (U + N)) * (q * U + a + N'))
    scaled = omega (arith, rw sum at (slope (q * U) N' a b))

-- (the sums are variables here, so that `omega` has few monomials)
glue : (e t s q A x w z k ab : ℕ) → t * (x * x * z) ≤ t * ((q * k + ab * z) * w) → t * k * (q * w) < (A + 1) * (2 * s * z) * (q * w) → ab * (t * z * w) ≤ 2 * e * (s * q) * (t * z * w) → t * x * x * z < (A + 1 + e * t) * (2 * (s * q) * w) * z
glue e t s q A x w z k ab core one two = omega arith

-- ---- the area A, rounded down, at the scale s, against the exact one at the scale s × q
module _ (t s q U N A : ℕ) where
  lower_at : (U' N' : ℕ) → 0 < U + N → A * (2 * s * (U + N)) ≤ t * U * U → q * U ≤ U' → N' ≤ q * N → A * (2 * (s * q) * (U' + N')) ≤ t * U' * U'
  lower_at U' N' p floor h k = le_of_mul-le-mul_right {k = U + N} scaled p
    where
      scaled : A * (2 * (s * q) * (U' + N')) * (U + N) ≤ t * U' * U' * (U + N)
      scaled = omega (arith, mul-le-mul_right (q * (U' + N')) floor, mul-le-mul_left t (core_lower q U N U' N' h k))

  upper_at : (e a b N' : ℕ) → 0 < q * U + a + N' → 0 < q → t * (U * U) < (A + 1) * (2 * s * (U + N)) → q * N ≡ N' + b → a + b ≤ 2 * e * (s * q) → t * (q * U + a) * (q * U + a) < (A + 1 + e * t) * (2 * (s * q) * (q * U + a + N'))
  upper_at e a b N' p pq floor f m =
      lt_of_mul-lt-mul_right (U + N)
      (glue e t s q A (q * U + a) (q * U + a + N') (U + N) (U * U) (a + b)
      (mul-le-mul_left t (core_upper q U N a N' b pq f))
      (mul-lt-mul_of_pos_right floor (mul-pos pq p))
      (mul-le-mul_right (t * (U + N) * (q * U + a + N')) m))

-- ---- from the ends' values to the area
-- (P − M)/q is at least p − m, and at most w/q above it
pub record Near (q w p m P M : ℕ) : Type 0 where
  pub low : q * p + M ≤ P + q * m
  pub high : P + q * m ≤ q * p + M + w

-- what the part above zero gains and the part below zero loses is at most w
record Parts (q w p m P M : ℕ) : Type 0 where
  pub a : ℕ
  pub b : ℕ
  pub up : P - M ≡ q * (p - m) + a
  pub down : q * (m - p) ≡ M - P + b
  pub small : a + b ≤ w

parts : (q w p m P M : ℕ) → Near q w p m P M → Parts q w p m P M
parts q w p m P M n =
    record {
      a = P - M - q * (p - m);
      b = q * (m - p) - (M - P);
      up = omega (arith, mul-sub q p m);
      down = omega (arith, mul-sub q m p);
      small = omega (arith, mul-sub q p m, mul-sub q m p);
    }

module _ (t s q U N U' N' : ℕ) (pq : 0 < q) (ps : 0 < s) where
  sq : 0 < s * q
  sq = mul-pos ps pq

  near_lower : q * U ≤ U' → N' ≤ q * N → area_above t s U N ≼ exact_above t (s * q) U' N'
  near_lower h k = ⊎_elim none some (eq-zero-or-pos U)
    where
      none : U ≡ 0 → area_above t s U N ≼ exact_above t (s * q) U' N'
      none e = rw (e, mul-zero (t * 0), zero-div) (omega arith)

      some : 0 < U → area_above t s U N ≼ exact_above t (s * q) U' N'
      some p =
          let p' : 0 < q * U = mul-pos pq p in
          let d : 0 < 2 * (s * q) * (U' + N') = mul-pos (omega (arith, sq)) (omega arith) in
          rw (max-eq_right d)
          (lower_at t s q U N (area_above t s U N) U' N' (omega arith) (div-mul-le_self (t * U * U) (2 * s * (U + N))) h k)

  near_upper_lem : (w a b : ℕ) → U' ≡ q * U + a → q * N ≡ N' + b → a + b ≤ 2 * w * (s * q) → exact_above t (s * q) U' N' ≺ area_above t s U N + 1 + w * t
  near_upper_lem w a b e f m = ⊎_elim none some (eq-zero-or-pos (U' + N'))
    where
      none : U' + N' ≡ 0 → exact_above t (s * q) U' N' ≺ area_above t s U N + 1 + w * t
      none z =
          let u : U' ≡ 0 = omega arith in
          let g : 0 < (area_above t s U N + 1 + w * t) * max 1 (2 * (s * q) * (U' + N')) = mul-pos {m = area_above t s U N + 1 + w * t} (omega arith) (omega arith) in
          omega (arith, ap (λ x. t * x * U') u)

      -- both ends of the rounded line are 0
      level : 0 < U' + N' → U + N ≡ 0 → t * U' * U' < (area_above t s U N + 1 + w * t) * (2 * (s * q) * (U' + N'))
      level p z =
          let u : U ≡ 0 = omega arith in
          let k : U' ≤ 2 * w * (s * q) = omega (arith, ap (λ x. q * x) u) in
          let d : 0 < 2 * (s * q) * (U' + N') = mul-pos (omega (arith, sq)) p in
          omega (arith, mul-le-mul_right (t * U') k)

      floor : 0 < U + N → t * (U * U) < (area_above t s U N + 1) * (2 * s * (U + N))
      floor c =
          let d : 0 < 2 * s * (U + N) = mul-pos (omega arith) c in
          omega (arith, lt-div-mul-add {a = t * U * U} d)

      some : 0 < U' + N' → exact_above t (s * q) U' N' ≺ area_above t s U N + 1 + w * t
      some p =
          let d : 0 < 2 * (s * q) * (U' + N') = mul-pos (omega (arith, sq)) p in
          let positive : 0 < q * U + a + N' = omega arith in
          rw (max-eq_right d)
          (⊎_elim (level p)
          (λ c. rw e (upper_at t s q U N (area_above t s U N) w a b N' positive pq (floor c) f m))
          (eq-zero-or-pos (U + N)))

-- ---- a stretch
sum_eq : (q u v x y a b : ℕ) → x ≡ q * u + a → y ≡ q * v + b → x + y ≡ q * (u + v) + (a + b)
sum_eq q u v x y a b e f = omega arith

sum_le : (q u v x y a b : ℕ) → x ≡ q * u + a → y ≡ q * v + b → q * (u + v) ≤ x + y
sum_le q u v x y a b e f = omega arith

rest_eq : (q u v x y a b : ℕ) → q * u ≡ x + a → q * v ≡ y + b → q * (u + v) ≡ x + y + (a + b)
rest_eq q u v x y a b e f = omega arith

rest_le : (q u v x y a b : ℕ) → q * u ≡ x + a → q * v ≡ y + b → x + y ≤ q * (u + v)
rest_le q u v x y a b e f = omega arith

both_small : (a b c d e w : ℕ) → a + b ≤ e * w → c + d ≤ e * w → a + c + (b + d) ≤ 2 * e * w
both_small a b c d e w h k = omega arith

module _ (w h t q p₁ m₁ p₂ m₂ P₁ M₁ P₂ M₂ : ℕ) (th : t ≤ h) (ph : 0 < h) (pq : 0 < q) (n₁ : Near q (w * q) p₁ m₁ P₁ M₁) (n₂ : Near q (w * q) p₂ m₂ P₂ M₂) where
  start : Near q (w * (h * q)) (h * p₁) (h * m₁) (h * P₁) (h * M₁)
  start =
      record { low = omega (arith, mul-le-mul_left h n₁.low); high = omega (arith, mul-le-mul_left h n₁.high) }

  end : Near q (w * (h * q)) (on_line h t p₁ p₂) (on_line h t m₁ m₂) (on_line h t P₁ P₂) (on_line h t M₁ M₂)
  end =
      record {
        low = omega (arith, mul-le-mul_left (h - t) n₁.low, mul-le-mul_left t n₂.low);
        high = omega (arith, mul-le-mul_left (h - t) n₁.high, mul-le-mul_left t n₂.high, ap (λ x. w * (x * q)) split);
      }
    where
      split : h - t + t ≡ h
      split = omega arith

  start_parts : Parts q (w * (h * q)) (h * p₁) (h * m₁) (h * P₁) (h * M₁)
  start_parts = parts q (w * (h * q)) (h * p₁) (h * m₁) (h * P₁) (h * M₁) start

  end_parts : Parts q (w * (h * q)) (on_line h t p₁ p₂) (on_line h t m₁ m₂) (on_line h t P₁ P₂) (on_line h t M₁ M₂)
  end_parts = parts q (w * (h * q)) (on_line h t p₁ p₂) (on_line h t m₁ m₂) (on_line h t P₁ P₂) (on_line h t M₁ M₂) end

  stretch_lower : area_above t h (ends_above h t p₁ m₁ p₂ m₂) (ends_above h t m₁ p₁ m₂ p₂) ≼ exact_above t (h * q) (ends_above h t P₁ M₁ P₂ M₂) (ends_above h t M₁ P₁ M₂ P₂)
  stretch_lower =
      let x = start_parts in
      let y = end_parts in
      near_lower t h q (ends_above h t p₁ m₁ p₂ m₂) (ends_above h t m₁ p₁ m₂ p₂) (ends_above h t P₁ M₁ P₂ M₂) (ends_above h t M₁ P₁ M₂ P₂) pq ph
      (sum_le q _ _ _ _ x.a y.a x.up y.up) (rest_le q _ _ _ _ x.b y.b x.down y.down)

  stretch_upper : exact_above t (h * q) (ends_above h t P₁ M₁ P₂ M₂) (ends_above h t M₁ P₁ M₂ P₂) ≺ area_above t h (ends_above h t p₁ m₁ p₂ m₂) (ends_above h t m₁ p₁ m₂ p₂) + 1 + w * t
  stretch_upper =
      let x = start_parts in
      let y = end_parts in
      near_upper_lem t h q (ends_above h t p₁ m₁ p₂ m₂) (ends_above h t m₁ p₁ m₂ p₂) (ends_above h t P₁ M₁ P₂ M₂) (ends_above h t M₁ P₁ M₂ P₂) pq ph
      w (x.a + y.a) (x.b + y.b)
      (sum_eq q _ _ _ _ x.a y.a x.up y.up) (rest_eq q _ _ _ _ x.b y.b x.down y.down)
      (both_small x.a x.b y.a y.b w (h * q) x.small y.small)

-- ---- the whole
below_add : (k l : ℕ) (f g : Frac) → f.num ≤ k * f.den → g ≺ l → f ⊕ g ≺ k + l
below_add k l f g h i = omega (arith, mul-le-mul_right g.den h, mul-lt-mul_of_pos_right i f.above)

module _ (p m P M : ℕ → ℕ) (w q u : ℕ) (pq : 0 < q) (near : (k : ℕ) → k < 10 → Near q (w * q) (p k) (m k) (P k) (M k)) where
  pub one_lower : (k : ℕ) → k < 9 → stretch_area p m u k ≼ exact_stretch q P M u k
  one_lower k h =
      alike_low (stretch_area p m u k) (one_stretch q P M u k) (exact_stretch q P M u k) (stretch_alike q P M u k pq h)
      (stretch_lower w (width k) (counted u k) q (p k) (m k) (p (suc k)) (m (suc k)) (P k) (M k) (P (suc k)) (M (suc k))
      (omega (arith, angle_rises k h)) (omega (arith, angle_rises k h)) pq (near k (omega arith)) (near (suc k) (omega arith)))

  pub one_upper : (k : ℕ) → k < 9 → exact_stretch q P M u k ≺ stretch_area p m u k + 1 + w * counted u k
  one_upper k h =
      alike_high (stretch_area p m u k + 1 + w * counted u k) (one_stretch q P M u k) (exact_stretch q P M u k) (stretch_alike q P M u k pq h)
      (stretch_upper w (width k) (counted u k) q (p k) (m k) (p (suc k)) (m (suc k)) (P k) (M k) (P (suc k)) (M (suc k))
      (omega (arith, angle_rises k h)) (omega (arith, angle_rises k h)) pq (near k (omega arith)) (near (suc k) (omega arith)))

  area_lower : (n : ℕ) → n ≤ 9 → area_over p m u n ≼ exact_over q P M u n
  unfolding area_over exact_over
  area_lower zero h = omega arith
  area_lower (suc n) h =
      ≼-add (area_over p m u n) (stretch_area p m u n) (exact_over q P M u n) (exact_stretch q P M u n) (area_lower n (omega arith)) (one_lower n h)

  total : (n : ℕ) → n < 9 → (A B : ℕ) → A + n + w * min u (angle n) + (B + 1 + w * counted u n) ≡ A + B + suc n + w * min u (angle (suc n))
  total n h A B =
      let e : min u (angle n) + counted u n ≡ min u (angle (suc n)) = omega (arith, angle_rises n h) in
      omega (arith, ap (λ x. w * x) e)

  step : (n : ℕ) → n < 9 → (exact_over q P M u n).num ≤ (area_over p m u n + n + w * min u (angle n)) * (exact_over q P M u n).den → exact_over q P M u (suc n) ≺ area_over p m u (suc n) + suc n + w * min u (angle (suc n))
  unfolding area_over exact_over
  step n h top =
      subst (λ (k : ℕ). exact_over q P M u n ⊕ exact_stretch q P M u n ≺ k) (total n h (area_over p m u n) (stretch_area p m u n))
      (below_add (area_over p m u n + n + w * min u (angle n)) (stretch_area p m u n + 1 + w * counted u n) (exact_over q P M u n) (exact_stretch q P M u n) top (one_upper n h))

  area_top : (n : ℕ) → n ≤ 9 → (exact_over q P M u n).num ≤ (area_over p m u n + n + w * min u (angle n)) * (exact_over q P M u n).den
  unfolding exact_over
  area_top zero h = omega arith
  area_top (suc n) h = le_of_lt (step n h (area_top n (le_of_lt h)))

  -- the exact area over the nine stretches is never below the rounded one, and less than 9 + w × 4,000 above it
  pub area_low_lem : area_over p m u 9 ≼ exact_over q P M u 9
  area_low_lem = area_lower 9 (omega arith)

  pub area_high_lem : exact_over q P M u 9 ≺ area_over p m u 9 + (w * 4000 + 9)
  area_high_lem =
      let e : min u (angle 9) ≤ 4000 = omega (arith, angle_nine) in
      let k : area_over p m u 9 + 9 + w * min u (angle 9) ≤ area_over p m u 9 + (w * 4000 + 9) = omega (arith, mul-le-mul_left w e) in
      lt_of_lt_of_le (step 8 (omega arith) (area_top 8 (omega arith))) (mul-le-mul_right (exact_over q P M u 9).den k)
