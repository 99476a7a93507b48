-- Rounded down, below zero too: the plain rule of `round_down`.
use mathlib.Core.Path.{◌≡◌, subst}
use Prim.Native.Nat.{ℕ, ◌-◌, ◌/◌, ◌≤◌, ◌<◌}
use native.Mathlib.Nat.{div-mul-le_self, lt-div-mul-add, le_of_lt, lt_of_not-le}
use native.Mathlib.Decide.{dec_le}
use native.Mathlib.Omega.{arith}
use lib.IntN.{ℤ, sub_ℕ}
use Rattle.sign.specs.Sign.{plus, minus}
use Rattle.sign.proofs.Signs.{sub_reads}
use Rattle.whole.specs.Divide.{ceil_div}
use Rattle.whole.specs.Line.{round_down}
use Rattle.whole.proofs.Dividing.{ceil_low, ceil_high}
use Rattle.whole.proofs.Lines.{rounded_pos, rounded_neg}
use Rattle.arms.specs.Figures.{TowardsLower}

pub floor_is : (p m h : ℕ) → 0 < h → TowardsLower p m h (round_down p m h)
floor_is p m h ph = go (dec_le m p)
  where
    above : (z : ℤ) → m ≤ p → plus z ≡ (p - m) / h → minus z ≡ 0 → TowardsLower p m h z
    above z k e f =
        record {
          low = rw (e, f) (omega (arith, div-mul-le_self (p - m) h));
          high = rw (e, f) (omega (arith, lt-div-mul-add {a = p - m} ph));
        }

    under : (z : ℤ) → p ≤ m → plus z ≡ 0 → minus z ≡ ceil_div (m - p) h → TowardsLower p m h z
    under z k e f =
        record {
          low = rw (e, f) (omega (arith, ceil_low (m - p) h ph));
          high = rw (e, f) (omega (arith, ceil_high (m - p) h ph));
        }

    go : Dec (m ≤ p) → TowardsLower p m h (round_down p m h)
    go (yes k) =
        let r = sub_reads ((p - m) / h) 0 in
        subst (λ (z : ℤ). TowardsLower p m h z) (rounded_pos p m h ph k)
        (above (sub_ℕ ((p - m) / h) 0) k (omega (arith, r.pluses)) (omega (arith, r.minuses)))
    go (no f) =
        let k : p ≤ m = le_of_lt (lt_of_not-le f) in
        let r = sub_reads 0 (ceil_div (m - p) h) in
        subst (λ (z : ℤ). TowardsLower p m h z) (rounded_neg p m h ph k)
        (under (sub_ℕ 0 (ceil_div (m - p) h)) k (omega (arith, r.pluses)) (omega (arith, r.minuses)))
