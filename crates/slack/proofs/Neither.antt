-- Where neither void nor grain lies as a triangle: the way in 64 bits gives the moment, rounded up once.
-- With K = 3 × 46631² and e = 100000²/8 the exact value is (K b² v g − 2 h × e h³)/(2 h K).
use mathlib.Core.Path.{◌≡◌, refl, ap, ap₂, ◌∙◌}
use Prim.Native.Nat.{ℕ, ◌+◌, ◌*◌, ◌-◌, ◌/◌, ◌%◌, ◌^◌, ◌≤◌, ◌<◌}
use native.Mathlib.Omega.{arith}
use native.Mathlib.Nat.{mul-le-mul, mul-le-mul_left, mul-lt-mul_of_pos_left, mul-pos, lt_of_not-le, mod-lt, div-add-mod', div-le_self, lt_of_mul-lt-mul_left}
use native.Mathlib.Decide.{dec_le}
use Rattle.whole.specs.Divide.{ceil_div}
use Rattle.whole.proofs.Dividing.{ceil_le, ceil_only, ceil_scaled}
use Rattle.slack.specs.Deck.{slope_square, unit_square, neither_moment}
use Rattle.slack.specs.Exact.{Crosses}
use Rattle.slack.specs.Walk.{K, eighth, first_term, second_term, first_whole, first_rest, carried, second_whole, second_rest, Sizes}

-- 8 is left out above and below
pub reduced : (b v g h : ℕ) → 0 < h → ceil_div (K * first_term b v g - 2 * h * second_term h) (2 * h * K) ≡ neither_moment b v g h
reduced b v g h p =
    ceil_scaled 8 (K * first_term b v g - 2 * h * second_term h) (2 * h * K) (omega arith) (omega arith)
    ∙ ap₂ ceil_div (eight (first_term b v g) (2 * h * (h * h * h)) _ _ (omega arith) (omega arith)) (omega arith)
  where
    eight : (x z y y' : ℕ) → y ≡ eighth * z → y' ≡ unit_square * z → 8 * (K * x - y) ≡ 24 * slope_square * x - y'
    eight x z y y' e f = omega arith

-- ---- the difference of two fractions X/d − Y/k, rounded up, from the quotients and rests: X = p d + r and Y = q k + s
record Divided (X Y d k p q r s : ℕ) : Type 0 where
  first : p * d + r ≡ X
  second : q * k + s ≡ Y
  first_rest : r < d
  second_rest : s < k
  ordered : d * Y ≤ k * X

module _ {X Y d k p q r s : ℕ} (t : Divided X Y d k p q r s) where
  -- both over d k
  apart : k * X + d * k * q + d * s ≡ d * Y + d * k * p + k * r
  apart = omega (arith, ap (λ z. k * z) t.first, ap (λ z. d * z) t.second)

  rest_first : k * r < d * k
  rest_first = omega (arith, mul-lt-mul_of_pos_left {k = k} t.first_rest (omega (arith, t.second_rest)))

  rest_second : d * s < d * k
  rest_second = mul-lt-mul_of_pos_left t.second_rest (omega (arith, t.first_rest))

  quotients_ordered : q ≤ p
  quotients_ordered =
      let l : d * k * q < d * k * (p + 1) = omega (arith, apart, rest_first, t.ordered) in
      let n : q < p + 1 = lt_of_mul-lt-mul_left (d * k) l in
      omega arith

  divisor_above : 0 < d * k
  divisor_above = mul-pos {m = d} {n = k} (omega (arith, t.first_rest)) (omega (arith, t.second_rest))

  gap : d * k * (p - q) + d * k * q ≡ d * k * p
  gap = let e : p - q + q ≡ p = omega (arith, quotients_ordered) in omega (arith, ap (λ z. d * k * z) e)

  -- one more where the first rest is the greater part of its divisor
  rounded_more : d * s < k * r → p - q + 1 ≡ ceil_div (k * X - d * Y) (d * k)
  rounded_more h =
      ceil_only (k * X - d * Y) (d * k) (p - q + 1) divisor_above
      (omega (arith, apart, gap, rest_first, t.ordered))
      (omega (arith, apart, gap, t.ordered))

  rounded_even : k * r ≤ d * s → p - q ≡ ceil_div (k * X - d * Y) (d * k)
  rounded_even h =
      ceil_only (k * X - d * Y) (d * k) (p - q) divisor_above
      (omega (arith, apart, gap, t.ordered))
      (omega (arith, apart, gap, rest_second, t.ordered))

-- ---- the way in 64 bits
second_parts : (h : ℕ) → second_whole h * K + second_rest h ≡ second_term h
second_parts h = by_parts eighth K (h * h * h)
  where
    by_parts : (n k c : ℕ) → (n * (c / k) + n * (c % k) / k) * k + n * (c % k) % k ≡ n * c
    by_parts n k c = omega (arith, ap (λ z. n * z) (div-add-mod' c k), div-add-mod' (n * (c % k)) k)

-- ---- where the line goes from deck to floor
module _ (b v g : ℕ) (crosses : Crosses b v g) where
  pub some_height : 0 < v + g
  some_height = go (dec_le 1 v)
    where
      go : Dec (1 ≤ v) → 0 < v + g
      go (yes k) = omega arith
      go (no f) = let z : v ≤ 0 = omega (arith, lt_of_not-le f) in absurd (omega (arith, crosses.void, mul-le-mul_left b z))

  -- the first term is the greater
  pub ordered : 2 * (v + g) * second_term (v + g) ≤ K * first_term b v g
  ordered = both (v + g) (omega (arith, crosses.void)) (omega (arith, crosses.grain))
    where
      both :
          (h : ℕ) → 100000 * (h * h) ≤ 93262 * (b * v) → 100000 * (h * h) ≤ 93262 * (b * g)
          → 2 * h * second_term h ≤ K * first_term b v g
      both h x y = omega (arith, mul-le-mul x y)

  divided :
      Divided (first_term b v g) (second_term (v + g)) (2 * (v + g)) K
      (first_whole b v g (v + g)) (second_whole (v + g)) (first_rest b v g (v + g)) (second_rest (v + g))
  divided =
      record {
        first = div-add-mod' (first_term b v g) (2 * (v + g));
        second = second_parts (v + g);
        first_rest = mod-lt (first_term b v g) (omega (arith, some_height));
        second_rest = mod-lt (carried (v + g)) (omega arith);
        ordered = ordered;
      }

  pub moment_more :
      2 * (v + g) * second_rest (v + g) < K * first_rest b v g (v + g)
      → first_whole b v g (v + g) - second_whole (v + g) + 1 ≡ neither_moment b v g (v + g)
  moment_more rests = rounded_more divided rests ∙ reduced b v g (v + g) some_height

  pub moment_even :
      K * first_rest b v g (v + g) ≤ 2 * (v + g) * second_rest (v + g)
      → first_whole b v g (v + g) - second_whole (v + g) ≡ neither_moment b v g (v + g)
  moment_even rests = rounded_even divided rests ∙ reduced b v g (v + g) some_height

  -- the line is less wide than the breadth
  height_less : 200000 * (v + g) < 93262 * b
  height_less = lt_of_mul-lt-mul_left (v + g) (sum (v + g) refl crosses.void crosses.grain)
    where
      sum :
          (h : ℕ) → v + g ≡ h → 100000 * (h * h) < 93262 * (b * v) → 100000 * (h * h) < 93262 * (b * g)
          → h * (200000 * h) < h * (93262 * b)
      sum h e x y = omega (arith, ap (λ z. b * z) e)

  -- within a part's limits the moment is at most 2 to the 44th mm³
  pub neither_le : b ≤ 40000 → neither_moment b v g (v + g) ≤ 2 ^ 44
  neither_le broad =
      rw (reduced b v g (v + g) some_height) at
      (ceil_le (K * first_term b v g - 2 * (v + g) * second_term (v + g)) (2 * (v + g) * K) (2 ^ 44)
      (mul-pos {m = 2 * (v + g)} {n = K} (omega (arith, some_height)) (omega arith))
      (less (first_term b v g) (2 * (v + g)) (2 * (v + g) * second_term (v + g)) first))
    where
      first : first_term b v g ≤ 2 * (v + g) * 2 ^ 44
      first =
          let l : v * g ≤ (v + g) * 18652 = mul-le-mul {n₁ = v} {m₁ = g} {n₂ = v + g} {m₂ = 18652} (omega arith) (omega (arith, height_less)) in
          omega (arith, mul-le-mul (mul-le-mul broad broad) l)

      less : (x d y : ℕ) → x ≤ d * 2 ^ 44 → K * x - y ≤ 2 ^ 44 * (d * K)
      less x d y l = omega arith

-- each step fits 64 bits
pub sizes : (b v g : ℕ) → b ≤ 65535 → Crosses b v g → Sizes b v g (v + g)
sizes b v g broad crosses =
    of (v + g) refl (some_height b v g crosses) (omega (arith, height_less b v g crosses)) (quotients_ordered (divided b v g crosses))
  where
    of : (h : ℕ) → v + g ≡ h → 0 < h → h ≤ 30559 → second_whole h ≤ first_whole b v g h → Sizes b v g h
    of h e some height wholes =
        let square : b * b ≤ 4294836225 = omega (arith, mul-le-mul broad broad) in
        let x : v ≤ 30559 = omega arith in
        let y : g ≤ 30559 = omega arith in
        let depths : v * g ≤ 933852481 = omega (arith, mul-le-mul x y) in
        let first : first_term b v g < 2 ^ 62 = omega (arith, mul-le-mul square depths) in
        let heights : h * h ≤ 933852481 = omega (arith, mul-le-mul height height) in
        let cube : h * h * h ≤ 28537597966879 = omega (arith, mul-le-mul heights height) in
        record {
          some = some;
          height = height;
          square = square;
          depths = depths;
          first = first;
          heights = heights;
          cube = cube;
          second = omega (arith, mod-lt (h * h * h) {m = K} (omega arith));
          ordered = wholes;
          whole = let k : first_whole b v g h ≤ first_term b v g = div-le_self (first_term b v g) (2 * h) in omega arith;
          first_over = omega (arith, mod-lt (first_term b v g) {m = 2 * h} (omega arith));
          second_over = over (second_rest h) (mod-lt (carried h) (omega arith));
        }
      where
        over : (r : ℕ) → r < K → 2 * h * r < 2 ^ 49
        over r l = omega (arith, mul-le-mul height l)
