-- How near a part's sum is to the exact one.
use mathlib.Core.Path.{◌≡◌, ap}
use Prim.Native.Nat.{ℕ, ◌+◌, ◌*◌, ◌-◌, ◌≤◌}
use native.Mathlib.Omega.{arith}
use native.Mathlib.Nat.{mul-le-mul, mul-le-mul_left, mul-le-mul_right}
use Rattle.slack.specs.Deck.{uncut_moment}
use Rattle.boards.specs.Split.{effective_length, beside_board, split_volume}
use Rattle.boards.specs.Exact.{sevenths_left}
use Rattle.boards.specs.Laws.{NearTheExact}
use Rattle.boards.proofs.Moments.{uncut_near}
use Rattle.boards.proofs.Fits.{effective_le}

-- s and w are the moments of the two and of the one, a and c their cubes; e is the effective length of n, and t what is left of the board, in sevenths
module _ (s w a c d n e t : ℕ) (cube : c ≡ a + d) (part : e ≤ n) (low : 7 * e ≤ t) (few : t - 7 * e ≤ 6) (fits : t ≤ 7 * n) where
  abbrev exact : ℕ
  exact = 46631 * (a * t + c * (7 * n - t))

  -- what the length e leaves of the board, x sevenths, shifts as one
  exact_by : exact + 46631 * (d * (t - 7 * e)) ≡ 46631 * (7 * (a * e) + 7 * (c * (n - e)))
  exact_by = by (t - 7 * e) (n - e) (7 * n - t) (omega arith) (omega arith)
    where
      by : (x q y : ℕ) → t ≡ 7 * e + x → y + x ≡ 7 * q → 46631 * (a * t + c * y) + 46631 * (d * x) ≡ 46631 * (7 * (a * e) + 7 * (c * q))
      by x q y f g = omega (arith, ap (λ z. a * z) f, ap (λ z. c * z) g, ap (λ z. z * x) cube)

  never_below : 46631 * a ≤ 1200000 * s → 46631 * c ≤ 1200000 * w → exact ≤ 8400000 * (s * e + w * (n - e))
  never_below h k = omega (arith, exact_by, mul-le-mul_right e h, mul-le-mul_right (n - e) k)

  near : 1200000 * s ≤ 46631 * a + 2400000 → 1200000 * w ≤ 46631 * c + 1200000 → 8400000 * (s * e + w * (n - e)) ≤ exact + 16800000 * n + 279786 * d
  near h k = omega (arith, exact_by, mul-le-mul_right e h, mul-le-mul_right (n - e) k, mul-le-mul_left d few)

pub near_the_exact_lem : NearTheExact
unfolding split_volume
near_the_exact_lem length run l r fits p q =
    let e = effective_length run l r in
    let t = sevenths_left run l r in
    let cube : (l + r) * (l + r) * (l + r) ≡ l * l * l + r * r * r + 3 * (l * r * (l + r)) = omega arith in
    let few : t - 7 * e ≤ 6 = omega arith in
    let part = effective_le length run l r fits in
    let some : 1 ≤ l * r * (l + r) = omega (arith, mul-le-mul (mul-le-mul p q) p) in
    let one_high : 1200000 * uncut_moment (l + r) ≤ 46631 * ((l + r) * (l + r) * (l + r)) + 1200000 = omega (arith, (uncut_near (l + r)).1) in
    let two_low : 46631 * (l * l * l + r * r * r) ≤ 1200000 * beside_board l r = omega (arith, (uncut_near l).0, (uncut_near r).0) in
    let two_high : 1200000 * beside_board l r ≤ 46631 * (l * l * l + r * r * r) + 2400000 = omega (arith, (uncut_near l).1, (uncut_near r).1) in (
      never_below _ _ _ _ _ length e t cube part (omega arith) few (omega arith) two_low (uncut_near (l + r)).0,
      omega (arith, near _ _ _ _ _ length e t cube part (omega arith) few (omega arith) two_high one_high, some),
    )
