-- Laws of the ten angles and of the ten DIFFs.
use mathlib.Core.Path.{◌≡◌, refl, sym, ◌∙◌}
use Prim.Native.Nat.{ℕ, suc, ◌+◌, ◌-◌, ◌≤◌, ◌<◌}
use native.Mathlib.Omega.{arith}
use lib.Dec.{ltb, leb, ltb→lt, leb→le}
use lib.ListN.{get_or}
use lib.IntN.{ℤ, pos, sub_ℕ, ◌-ℤ◌}
use Rattle.sign.specs.Sign.{plus, minus}
use Rattle.sign.proofs.Signs.{sub_reads, sub_eq, Reads, difference_is}
use Rattle.whole.proofs.Tables.{all_at}
use Rattle.whole.proofs.Lists.{tabulate_at}
use Rattle.arms.specs.declared.Basis.{Basis}
use Rattle.arms.specs.Angles.{angles, sines, angle, sine, width}
use Rattle.arms.specs.Arms.{kn_arm, kg_arm, righting_arm, heeling_arm, diff, diffs}
use Rattle.arms.specs.Exact.{angle_of, sine_of}

-- ---- the tables are the printed ones
pub angle_is : (k : ℕ) → angle_of k ≡ angle k
unfolding angle angle_of
angle_is k = refl

pub sine_is : (k : ℕ) → sine_of k ≡ sine k
unfolding sine sine_of
sine_is k = refl

-- ---- the tables, each rule by one test over the whole
pub angle_rises : (k : ℕ) → k < 9 → angle k < angle (suc k)
unfolding angle
angle_rises k h = ltb→lt _ _ (all_at (λ k. ltb (get_or angles k 0) (get_or angles (suc k) 0)) 9 tt k h)

pub angle_le : (k : ℕ) → k < 10 → angle k ≤ 4000
unfolding angle
angle_le k h = leb→le _ _ (all_at (λ k. leb (get_or angles k 0) 4000) 10 tt k h)

pub angle_zero : angle 0 ≡ 0
unfolding angle
angle_zero = refl

pub angle_nine : angle 9 ≡ 4000
unfolding angle
angle_nine = refl

pub width_le : (k : ℕ) → k < 9 → width k ≤ 500
unfolding angle
width_le k h = leb→le _ _ (all_at (λ k. leb (get_or angles (suc k) 0 - get_or angles k 0) 500) 9 tt k h)

pub width_some : (k : ℕ) → k < 9 → 0 < width k
width_some k h = omega (arith, angle_rises k h)

pub sine_le : (k : ℕ) → k < 10 → sine k ≤ 642788
unfolding sine
sine_le k h = leb→le _ _ (all_at (λ k. leb (get_or sines k 0) 642788) 10 tt k h)

-- ---- the ten DIFFs
pub diff_is : (b : Basis) (k : ℕ) → diff b k ≡ sub_ℕ (kn_arm b k) (kg_arm b k + heeling_arm b k)
unfolding diff righting_arm
diff_is b k =
    let r = sub_reads (kn_arm b k) (kg_arm b k) in
    let z = sub_ℕ (kn_arm b k) (kg_arm b k) in
    difference_is z (pos (heeling_arm b k))
    ∙ sub_eq (plus z + 0) (minus z + heeling_arm b k) (kn_arm b k) (kg_arm b k + heeling_arm b k) (omega (arith, r.pluses, r.minuses))

-- the k-th DIFF, by its two parts
pub diff_reads : (b : Basis) (k : ℕ) → k < 10 → Reads (kn_arm b k) (kg_arm b k + heeling_arm b k) (get_or (diffs b) k (pos 0))
diff_reads b k h = rw (tabulate_at 10 (diff b) k (pos 0) h, diff_is b k) (sub_reads (kn_arm b k) (kg_arm b k + heeling_arm b k))

-- a difference, by its parts above and below zero
pub left_over_is : (r : ℤ) (h : ℕ) → sub_ℕ (plus r) (minus r + h) ≡ r -ℤ pos h
left_over_is r h = sub_eq (plus r) (minus r + h) (plus r + 0) (minus r + h) (omega arith) ∙ sym (difference_is r (pos h))
