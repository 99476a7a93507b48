-- 64 bits hold a part beside a board.
use Prim.Native.Nat.{ℕ, ◌+◌, ◌*◌, ◌≤◌}
use native.Mathlib.Omega.{arith}
use native.Mathlib.Nat.{mul-le-mul_right}
use Rattle.boards.specs.Split.{effective_length, split_volume}
use Rattle.boards.specs.Laws.{VolumeFits}
use Rattle.boards.proofs.Moments.{uncut_le, beside_le}

-- the effective length is part of the part's
pub effective_le : (length run l r : ℕ) → run ≤ length → effective_length run l r ≤ length
effective_le length run l r h = omega arith

-- with one more than the greatest section moment for both stretches, whatever they are
bounded : (s w x y n : ℕ) → s ≤ 2486986666668 → w ≤ 2486986666667 → x + y ≤ n → n ≤ 60000 → s * x + w * y ≤ 150000000000000000
bounded s w x y n h k fits long = omega (arith, mul-le-mul_right x h, mul-le-mul_right y k)

pub volume_fits_lem : VolumeFits
unfolding split_volume
volume_fits_lem length run l r long fits broad =
    bounded _ _ _ _ length (beside_le l r broad) (uncut_le (l + r) broad) (omega arith) long
