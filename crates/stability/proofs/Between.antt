-- Points on straight lines: between two points, rounded down, and on lines whose ends lie close.
use mathlib.Core.Path.{◌≡◌, refl, ap, subst₂}
use mathlib.Core.Logic.{⊎_elim}
use Prim.Native.Nat.{ℕ, ◌+◌, ◌*◌, ◌-◌, ◌≤◌, ◌<◌}
use native.Mathlib.Nat.{mul-le-mul_left, mul-le-mul_right, mul-lt-mul_of_pos_left, mul-lt-mul_of_pos_right, le_of_mul-le-mul_left, le_of_mul-le-mul_right, lt_of_mul-lt-mul_right, eq-zero-or-pos, mul_comm, mul-sub, le_of_lt, le_trans}
use native.Mathlib.Omega.{arith}
use lib.IntN.{ℤ}
use Rattle.sign.specs.Sign.{plus, minus}
use Rattle.whole.specs.Line.{on_line}
use Rattle.arms.specs.Figures.{TowardsLower}
use Rattle.arms.proofs.Nearness.{Close}

-- ---- between two points
-- the points are t, t + i and t + i + j of a stretch t + i + j + r; the values x at its start and y at its end
line : (t i j r x y : ℕ) → (i + j) * (x * (j + r) + y * (t + i)) ≡ j * (x * (i + j + r) + y * t) + i * (x * r + y * (t + i + j))
line t i j r x y = omega arith

middle : (t i j r P₁ P₂ M₁ M₂ : ℕ) → M₁ * (i + j + r) + M₂ * t ≤ P₁ * (i + j + r) + P₂ * t → M₁ * r + M₂ * (t + i + j) ≤ P₁ * r + P₂ * (t + i + j) → M₁ * (j + r) + M₂ * (t + i) ≤ P₁ * (j + r) + P₂ * (t + i)
middle t i j r P₁ P₂ M₁ M₂ h k = ⊎_elim same apart (eq-zero-or-pos (i + j))
  where
    same : i + j ≡ 0 → M₁ * (j + r) + M₂ * (t + i) ≤ P₁ * (j + r) + P₂ * (t + i)
    same e =
        let a : i ≡ 0 = omega arith in
        let b : j ≡ 0 = omega arith in
        rw (a, b) (omega (arith, rw (a, b) at h))

    apart : 0 < i + j → M₁ * (j + r) + M₂ * (t + i) ≤ P₁ * (j + r) + P₂ * (t + i)
    apart p =
        le_of_mul-le-mul_left {k = i + j}
        (rw (line t i j r M₁ M₂, line t i j r P₁ P₂) (omega (arith, mul-le-mul_left j h, mul-le-mul_left i k))) p

-- of two straight lines, the one that is not below the other at two points is not below it between them
pub convex : (h t₀ t t₁ P₁ P₂ M₁ M₂ : ℕ) → t₀ ≤ t → t ≤ t₁ → t₁ ≤ h → on_line h t₀ M₁ M₂ ≤ on_line h t₀ P₁ P₂ → on_line h t₁ M₁ M₂ ≤ on_line h t₁ P₁ P₂ → on_line h t M₁ M₂ ≤ on_line h t P₁ P₂
convex h t₀ t t₁ P₁ P₂ M₁ M₂ a b c u v =
    let F : ℕ → ℕ → Type 0 = λ m n. M₁ * m + M₂ * n ≤ P₁ * m + P₂ * n in
    subst₂ F (omega arith) (omega arith)
    (middle t₀ (t - t₀) (t₁ - t) (h - t₁) P₁ P₂ M₁ M₂ (subst₂ F (omega arith) refl u) (subst₂ F refl (omega arith) v))

pub sub_times : (x y k : ℕ) → (x - y) * k ≡ x * k - y * k
sub_times x y k = rw (mul_comm (x - y) k, mul_comm x k, mul_comm y k) (mul-sub k x y)

-- the same point at a finer scale
pub finer : (k h t x y : ℕ) → t ≤ h → on_line (h * k) (t * k) x y ≡ k * on_line h t x y
finer k h t x y l = rw (← (sub_times h t k)) (omega arith)

below_sub : (x y n k : ℕ) → x * k ≤ n → (x - y) * k ≤ n - y * k
below_sub x y n k h = rw (sub_times x y k) (omega arith)

pub above_sub : (x y n k : ℕ) → n ≤ x * k → n - y * k ≤ (x - y) * k
above_sub x y n k h = rw (sub_times x y k) (omega arith)

sub_le : (x y z : ℕ) → x ≤ z → x - y ≤ z - y
sub_le x y z h = omega arith

-- Every point n/k from L to U, fractions too, of a stretch from a to c, where L and U are whole points of it.
pub between : (a c L U n k P₁ P₂ M₁ M₂ : ℕ) → 0 < k → L * k ≤ n → n ≤ U * k → U ≤ c → on_line (c - a) (L - a) M₁ M₂ ≤ on_line (c - a) (L - a) P₁ P₂ → on_line (c - a) (U - a) M₁ M₂ ≤ on_line (c - a) (U - a) P₁ P₂ → on_line ((c - a) * k) (n - a * k) M₁ M₂ ≤ on_line ((c - a) * k) (n - a * k) P₁ P₂
between a c L U n k P₁ P₂ M₁ M₂ pk h l r u v =
    let o : L ≤ U = le_of_mul-le-mul_right {k = k} (le_trans h l) pk in
    convex ((c - a) * k) ((L - a) * k) (n - a * k) ((U - a) * k) P₁ P₂ M₁ M₂
    (below_sub L a n k h) (above_sub U a n k l) (mul-le-mul_right k (sub_le U a c r))
    (scaled L (le_trans o r) u) (scaled U r v)
  where
    scaled : (s : ℕ) → s ≤ c → on_line (c - a) (s - a) M₁ M₂ ≤ on_line (c - a) (s - a) P₁ P₂ → on_line ((c - a) * k) ((s - a) * k) M₁ M₂ ≤ on_line ((c - a) * k) ((s - a) * k) P₁ P₂
    scaled s e w =
        let i : s - a ≤ c - a = sub_le s a c e in
        rw (finer k (c - a) (s - a) M₁ M₂ i, finer k (c - a) (s - a) P₁ P₂ i) (mul-le-mul_left k w)

-- ---- rounded down: z is the whole part of (p − m)/h
-- the same quotient at another scale
pub floor_move : (p m h P M H : ℕ) (z : ℤ) → 0 < h → 0 < H → P * h ≡ p * H → M * h ≡ m * H → TowardsLower p m h z → TowardsLower P M H z
floor_move p m h P M H z ph p_h e f k =
    record {
      low = le_of_mul-le-mul_right {k = h} (omega (arith, mul-le-mul_right H k.low)) ph;
      high = lt_of_mul-lt-mul_right h (omega (arith, mul-lt-mul_of_pos_right k.high p_h));
    }

-- it is below zero exactly where p is below m
pub floor_not_below : (p m h : ℕ) (z : ℤ) → minus z ≡ 0 → TowardsLower p m h z → m ≤ p
floor_not_below p m h z e k = omega (arith, rw e at k.low)

pub floor_below : (p m h : ℕ) (z : ℤ) → plus z ≡ 0 → 0 < minus z → TowardsLower p m h z → p < m
floor_below p m h z e f k = omega (arith, rw e at k.high, mul-le-mul_right h f)

-- of a whole number nothing is lost
pub floor_whole : (p m h : ℕ) (z : ℤ) → TowardsLower (h * p) (h * m) h z → h * p + minus z * h ≤ plus z * h + h * m
floor_whole p m h z k =
    let e : p + minus z < plus z + 1 + m = lt_of_mul-lt-mul_right h (omega (arith, k.high)) in
    let f : p + minus z ≤ plus z + m = omega arith in
    omega (arith, mul-le-mul_right h f)

-- ---- lines whose ends lie close
module _ (q w p₁ m₁ p₂ m₂ P₁ M₁ P₂ M₂ : ℕ) (c₁ : Close q w p₁ m₁ P₁ M₁) (c₂ : Close q w p₂ m₂ P₂ M₂) where
  pub close_line : (h t : ℕ) → 0 < h → t ≤ h → Close q (w * h) (on_line h t p₁ p₂) (on_line h t m₁ m₂) (on_line h t P₁ P₂) (on_line h t M₁ M₂)
  close_line h t ph l =
      record {
        low = omega (arith, mul-le-mul_left (h - t) c₁.low, mul-le-mul_left t c₂.low);
        high = ⊎_elim start past (eq-zero-or-pos t);
      }
    where
      split : h - t + t ≡ h
      split = omega arith

      start : t ≡ 0 → on_line h t P₁ P₂ + q * on_line h t m₁ m₂ < q * on_line h t p₁ p₂ + on_line h t M₁ M₂ + w * h * q
      start e =
          let r : 0 < h - t = omega arith in
          omega (arith, mul-lt-mul_of_pos_left c₁.high r, mul-le-mul_left t (le_of_lt c₂.high), ap (λ x. w * x * q) split)

      past : 0 < t → on_line h t P₁ P₂ + q * on_line h t m₁ m₂ < q * on_line h t p₁ p₂ + on_line h t M₁ M₂ + w * h * q
      past pt =
          omega (arith, mul-le-mul_left (h - t) (le_of_lt c₁.high), mul-lt-mul_of_pos_left c₂.high pt, ap (λ x. w * x * q) split)

-- what a figure says of the exact value that lies close
module _ (q w h p m P M : ℕ) (c : Close q (w * h) p m P M) where
  pub close_not_below : m ≤ p → M ≤ P
  close_not_below k = omega (arith, c.low, mul-le-mul_left q k)

  pub close_exceeds : p ≤ m → P < M + w * (h * q)
  close_exceeds k = omega (arith, c.high, mul-le-mul_left q k)

  pub floor_low : (z : ℤ) → TowardsLower p m h z → plus z * (h * q) + M ≤ P + minus z * (h * q)
  floor_low z k = omega (arith, c.low, mul-le-mul_left q k.low)

  pub floor_high : (z : ℤ) → TowardsLower p m h z → P + minus z * (h * q) < (plus z + (w + 1)) * (h * q) + M
  floor_high z k = omega (arith, c.high, mul-le-mul_left q (le_of_lt k.high))

  pub whole_high : (z : ℤ) → p + minus z * h ≤ plus z * h + m → P + minus z * (h * q) < (plus z + w) * (h * q) + M
  whole_high z k = omega (arith, c.high, mul-le-mul_left q k)
