-- How large section moments are, and that two breadths that shift separately have no more than both as one.
use mathlib.Core.Path.{◌≡◌, refl}
use mathlib.Core.Logic.{inl, inr}
use Prim.Native.Nat.{ℕ, zero, suc, ◌+◌, ◌*◌, ◌^◌, ◌≤◌, ◌<◌}
use native.Mathlib.Omega.{arith}
use native.Mathlib.Nat.{mul-le-mul}
use Rattle.whole.specs.Divide.{ceil_div}
use Rattle.whole.proofs.Dividing.{ceil_low, ceil_high, ceil_le}
use Rattle.slack.specs.Deck.{uncut_moment, deck_moment}
use Rattle.slack.proofs.Rows.{by_uncut}
use Rattle.boards.specs.Split.{beside_board}
use Rattle.boards.specs.Laws.{SeparatelyNoMore}

-- ---- rounded up, more stays more
pub ceil_more : (n m d : ℕ) → 0 < d → n ≤ m → ceil_div n d ≤ ceil_div m d
ceil_more n m d p h = ceil_le n d (ceil_div m d) p (omega (arith, ceil_low m d p))

-- ---- a section moment is slope × breadth³/12, rounded up
pub uncut_near : (b : ℕ) → (46631 * (b * b * b) ≤ 1200000 * uncut_moment b) × (1200000 * uncut_moment b < 46631 * (b * b * b) + 1200000)
uncut_near b = (omega (arith, ceil_low (46631 * (b * (b * b))) 1200000 (omega arith)), omega (arith, ceil_high (46631 * (b * (b * b))) 1200000 (omega arith)))

-- ---- within a part's limits
pub uncut_le : (b : ℕ) → b ≤ 40000 → uncut_moment b ≤ 2486986666667
uncut_le b h = let bb = mul-le-mul h h in ceil_le (46631 * (b * (b * b))) 1200000 2486986666667 (omega arith) (omega (arith, mul-le-mul h bb))

-- and of any breadth of 16 bits
pub uncut_small : (b : ℕ) → b ≤ 65535 → uncut_moment b ≤ 2 ^ 44
uncut_small b h = let bb = mul-le-mul h h in ceil_le (46631 * (b * (b * b))) 1200000 (2 ^ 44) (omega arith) (omega (arith, mul-le-mul h bb))

-- depths of 30,000 leave it uncut
pub deep_uncut : (b : ℕ) → b ≤ 40000 → deck_moment b 30000 30000 ≡ uncut_moment b
deep_uncut b h = by_uncut b 30000 30000 30000 refl (omega arith)

-- ---- two breadths against both as one
-- (l + r)³ is l³ + r³ and 3 l r (l + r): where that is 9 or more, its 3 × 46,631/1,200,000 make up for both roundings
gained : (l r : ℕ) → 9 ≤ l * (r * (l + r)) → beside_board l r ≤ uncut_moment (l + r)
gained l r h =
    omega (arith, (uncut_near l).1, (uncut_near r).1, (uncut_near (l + r)).0)

pub separately : SeparatelyNoMore
separately zero r p q = absurd (omega arith)
separately (suc l) zero p q = absurd (omega arith)
separately (suc zero) (suc zero) p q = inr (refl, refl)
separately (suc zero) (suc (suc zero)) p q = inl (omega arith)
separately (suc zero) (suc (suc (suc r))) p q = inl (gained 1 (suc (suc (suc r))) (omega arith))
separately (suc (suc zero)) (suc zero) p q = inl (omega arith)
separately (suc (suc (suc l))) (suc zero) p q = inl (gained (suc (suc (suc l))) 1 (omega arith))
separately (suc (suc l)) (suc (suc r)) p q = inl (gained (suc (suc l)) (suc (suc r)) (omega arith))

-- so they have at most one more than the greatest section moment
pub beside_le : (l r : ℕ) → l + r ≤ 40000 → beside_board l r ≤ 2486986666668
beside_le l r h =
    let n = l + r in
    omega (arith, (uncut_near l).1, (uncut_near r).1, mul-le-mul h (mul-le-mul h h))

-- ---- over any length of 16 bits each stretch leaves room for the other
module _ (n : ℕ) (short : n ≤ 65535) where
  pub two_le : (m l r : ℕ) → m ≡ beside_board l r → l + r ≤ 40000 → m * n ≤ 163000000000000000
  two_le m l r e h = let k : m ≤ 2486986666668 = rw e (beside_le l r h) in omega (arith, mul-le-mul k short)

  pub one_le : (m b : ℕ) → m ≡ uncut_moment b → b ≤ 40000 → m * n ≤ 163000000000000000
  one_le m b e h = let k : m ≤ 2486986666667 = rw e (uncut_le b h) in omega (arith, mul-le-mul k short)
