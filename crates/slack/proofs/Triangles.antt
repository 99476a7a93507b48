-- Where void or grain lies as a triangle: the rounded base fits, and the moment is as near as P3 asks.
use mathlib.Core.Path.{◌≡◌, refl, ap}
use mathlib.Core.List.{[], ◌∷◌}
use mathlib.Core.Logic.{◌⊎◌, inl, inr}
use Prim.Native.Nat.{ℕ, ◌+◌, ◌*◌, ◌-◌, ◌/◌, ◌^◌, ◌≤◌, ◌<◌}
use native.Mathlib.Omega.{arith}
use native.Mathlib.Nat.{mul-le-mul, mul-le-mul_left, mul-lt-mul_of_pos_left, le_of_mul-le-mul_left, mul-pos}
use native.Mathlib.Decide.{dec_le}
use Rattle.whole.specs.Root.{RootAt}
use Rattle.whole.proofs.Dividing.{ceil_low, ceil_high}
use Rattle.whole.proofs.Roots.{root_is, root_less, root_least}
use Rattle.slack.specs.Deck.{base, triangle_moment}
use Rattle.slack.specs.Exact.{RoundedOnce, triangle, TriangleMoment}
use Rattle.slack.specs.Laws.{BySquares, BaseFits}

-- c is the whole part of the base of a triangle of area A
abbrev Base : (A c : ℕ) → Type 0
Base A c = RootAt (200000 * A) 46631 1 c

base_is : (A : ℕ) → A ≤ 2 ^ 40 → Base A (base A)
base_is A small =
    let r = root_is (200000 * A / 46631) (omega arith) in
    record { low = omega (arith, r.low); high = omega (arith, r.high) }

-- ---- 46631 (x d)² against 46631 (2 A n)² = 800000 A³ d²
pub by_squares_lem : BySquares
by_squares_lem A n d x pd e =
    let cube : 46631 * (A * A * (n * n)) ≡ 200000 * (A * A * A * (d * d)) = omega (arith, ap (λ z. A * A * z) e) in (
      λ h. root_least (x * d) (2 * (A * n)) (omega (arith, mul-le-mul_left (d * d) h)),
      λ h. le_of_mul-le-mul_left {k = d * d} (omega (arith, mul-le-mul h h)) (mul-pos pd pd),
    )

-- ---- the triangle fits the rectangle
-- where half the breadth times the slope passes the depth, the base is less than the breadth
base_less : (b d c : ℕ) → Base (b * d) c → 200000 * (b * d) < 46631 * (b * b) → c < b
base_less b d c whole broad = root_less c b (omega (arith, whole.low))

pub base_fits_lem : BaseFits
base_fits_lem b d h c lies whole = (
  base_less b d c whole lies.broad,
  root_least (46631 * c) (100000 * h) (omega (arith, mul-le-mul_left 46631 whole.low, mul-le-mul_left 100000 lies.high)),
)

-- ---- a moment between two whole bounds
module _ (b A c M : ℕ) (whole : Base A c) (rounded : RoundedOnce 1 6 M (triangle b A c ∷ [])) where
  -- d = 3 A b − 6 M
  below : (d : ℕ) → d ≤ 2 * (A * c) → 46631 * (d * d) ≤ 800000 * (A * A * A)
  below d h = omega (arith, mul-le-mul h h, mul-le-mul_left (4 * (A * A)) whole.low)

  -- u = 3 A b + 6 + 2 A − 6 M
  far : (u : ℕ) → 2 * (A * c) + 2 * A < u → 800000 * (A * A * A) < 46631 * (u * u)
  far u h = omega (arith, mul-le-mul h h, mul-le-mul_left (4 * (A * A)) whole.high)

  low : 3 * (A * b) ≤ 6 * M + 2 * (A * c)
  low = omega (arith, rounded.never_below)

  high : 6 * M + 2 * (A * c) < 3 * (A * b) + 6
  high = omega (arith, rounded.never_far)

  between : TriangleMoment b A M
  between =
      record {
        base = c;
        whole = whole;
        rounded = rounded;
        never_below = go (dec_le (3 * (A * b)) (6 * M));
        above = omega (arith, high);
        never_far = omega (arith, far (3 * (A * b) + 6 + 2 * A - 6 * M) (omega (arith, high)));
      }
    where
      go :
          Dec (3 * (A * b) ≤ 6 * M)
          → (3 * (A * b) ≤ 6 * M) ⊎ (46631 * ((3 * (A * b) - 6 * M) * (3 * (A * b) - 6 * M)) ≤ 800000 * (A * A * A))
      go (yes k) = inl k
      go (no f) = inr (below (3 * (A * b) - 6 * M) (omega (arith, low)))

-- ---- the row, where the lever is not cut off at 0
once : (b A : ℕ) → 2 * base A ≤ 3 * b → RoundedOnce 1 6 (triangle_moment b A) (triangle b A (base A) ∷ [])
once b A fits =
    record {
      never_below = omega (arith, product, ceil_low (A * (3 * b - 2 * base A)) 6 (omega arith));
      never_far = omega (arith, product, ceil_high (A * (3 * b - 2 * base A)) 6 (omega arith));
    }
  where
    product : A * (3 * b - 2 * base A) + 2 * (A * base A) ≡ 3 * (A * b)
    product = let e : 3 * b - 2 * base A + 2 * base A ≡ 3 * b = omega arith in omega (arith, ap (λ x. A * x) e)

-- ---- a section that is cut: the lesser depth is below a quarter of the breadth
module _ (b m : ℕ) (broad : b ≤ 65535) (cut : 200000 * m < 46631 * b) where
  pub area_small : b * m ≤ 1001309265
  area_small = let k : m ≤ 15279 = omega arith in omega (arith, mul-le-mul broad k)

  area_less : 200000 * (b * m) < 46631 * (b * b)
  area_less = omega (arith, mul-lt-mul_of_pos_left {k = b} cut (omega arith))

  pub lever_above : (c : ℕ) → c ≡ base (b * m) → 2 * c ≤ 3 * b
  lever_above c e =
      let l : base (b * m) < b = base_less b m (base (b * m)) (base_is (b * m) (omega (arith, area_small))) area_less in
      omega arith

  pub triangle_moment_lem : TriangleMoment b (b * m) (triangle_moment b (b * m))
  triangle_moment_lem =
      between b (b * m) (base (b * m)) (triangle_moment b (b * m)) (base_is (b * m) (omega (arith, area_small)))
      (once b (b * m) (lever_above (base (b * m)) refl))

  pub lever_fits : (c : ℕ) → b * m * (3 * b - c) ≤ 196862408045325
  lever_fits c =
      let k : 3 * b - c ≤ 196605 = omega arith in
      omega (arith, mul-le-mul area_small k)

-- within a part's limits the moment is at most 2 to the 43rd mm³
pub triangle_le : (b m : ℕ) → b ≤ 40000 → 200000 * m < 46631 * b → triangle_moment b (b * m) ≤ 2 ^ 43
triangle_le b m broad cut =
    let k : m ≤ 9326 = omega arith in
    let l : 3 * b - 2 * base (b * m) ≤ 120000 = omega arith in
    omega (arith, mul-le-mul (mul-le-mul broad k) l)
