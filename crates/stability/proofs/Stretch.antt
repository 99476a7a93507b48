-- Laws of the stretch in which an angle lies.
use mathlib.Core.Path.{◌≡◌, refl, sym, ap, ◌∙◌}
use mathlib.Core.Bool.{Bool, true, false, cond}
use mathlib.Core.Logic.{⊎_elim}
use Prim.Native.Nat.{ℕ, zero, suc, ◌+◌, ◌≤◌, ◌<◌}
use native.Mathlib.Numerals.{add-one}
use native.Mathlib.Omega.{arith}
use native.Mathlib.Nat.{lt_of_not-le, le_of_lt, eq-or-lt_of_le}
use native.Mathlib.Decide.{dec_le}
use lib.Dec.{ltb}
use borrow.Author.Tests.{lt-ltb, le-ltb, ltb-true, ltb-false}
use Rattle.std.specs.List.{prefix_len, range_with_len}
use Rattle.arms.specs.Angles.{angle}
use Rattle.arms.proofs.Tens.{angle_zero, angle_nine, angle_rises}
use Rattle.stability.specs.Verdict.{angles_below, Stretch, StretchRule}

below_last : (n x : ℕ) → n < 9 → x ≤ angle (suc n) → Stretch x (angles_below n x)
unfolding angles_below
below_last zero x h k = record { within = omega arith; from = omega (arith, angle_zero); to = k }
below_last (suc n) x h k = go (λ f. below_last n x (omega arith) f) (dec_le x (angle (suc n)))
  where
    go : (x ≤ angle (suc n) → Stretch x (angles_below n x)) → Dec (x ≤ angle (suc n)) → Stretch x (cond (ltb (angle (suc n)) x) (suc n) (angles_below n x))
    go more (yes f) = rw (le-ltb (angle (suc n)) x f) (more f)
    go more (no f) = rw (lt-ltb (angle (suc n)) x (lt_of_not-le f)) (record { within = h; from = le_of_lt (lt_of_not-le f); to = k })

pub angle_up : (i j : ℕ) → i < j → j < 10 → angle i < angle j
angle_up i zero h k = absurd (omega arith)
angle_up i (suc j) h k =
    let last : angle j < angle (suc j) = angle_rises j (omega arith) in
    ⊎_elim (λ (e : i ≡ j). rw e last) (λ (l : i < j). omega (arith, angle_up i j l (omega arith))) (eq-or-lt_of_le {n = i} {m = j} (omega arith))

pub stretch_is : StretchRule
stretch_is x h = below_last 8 x (omega arith) (omega (arith, angle_nine))

-- the count of the angles below x, from the second on
module _ (n x : ℕ) where
  below_found : angle (n + 1) < x → angles_below (n + 1) x ≡ n + 1
  unfolding angles_below
  below_found h = rw (add-one n) (rw (lt-ltb (angle (suc n)) x (rw (add-one n) at h)) refl)

  below_not : x ≤ angle (n + 1) → angles_below (n + 1) x ≡ angles_below n x
  unfolding angles_below
  below_not h = rw (add-one n) (rw (le-ltb (angle (suc n)) x (rw (add-one n) at h)) refl)

below_no_more : (x i m : ℕ) → x ≤ angle (i + 1) → i + m < 10 → angles_below (i + m) x ≡ angles_below i x
below_no_more x i zero l h =
    let e : i + 0 ≡ i = omega arith in
    rw e refl
below_no_more x i (suc m) l h =
    let e : i + suc m ≡ i + m + 1 = omega arith in
    let up : angle (i + 1) ≤ angle (i + m + 1) =
    ⊎_elim (λ (q : i + 1 ≡ i + m + 1). rw q (omega arith)) (λ (q : i + 1 < i + m + 1). le_of_lt (angle_up (i + 1) (i + m + 1) q (omega arith))) (eq-or-lt_of_le (omega arith)) in
    ap (λ k. angles_below k x) e ∙ below_not (i + m) x (omega (arith, up)) ∙ below_no_more x i m l (omega arith)

-- behind the i-th angle, if all so far lie below x
counted_from : (x n i : ℕ) → i + n < 9 → angles_below i x ≡ i → i + prefix_len (λ k. ltb (angle k) x) (range_with_len (i + 1) n) ≡ angles_below (i + n) x
counted_from x zero i h all =
    let e : i + 0 ≡ i = omega arith in
    rw e (sym all)
counted_from x (suc n) i h all = go (counted_from x n (i + 1) (omega arith)) (ltb (angle (i + 1)) x) refl
  where
    rest : ℕ
    rest = prefix_len (λ k. ltb (angle k) x) (range_with_len (i + 1 + 1) n)

    go : (angles_below (i + 1) x ≡ i + 1 → i + 1 + rest ≡ angles_below (i + 1 + n) x) → (t : Bool) → ltb (angle (i + 1)) x ≡ t → i + cond t (1 + rest) 0 ≡ angles_below (i + suc n) x
    go more true q =
        let e : i + (1 + rest) ≡ i + 1 + rest = omega arith in
        let f : i + 1 + n ≡ i + suc n = omega arith in
        e ∙ more (below_found i x (ltb-true (angle (i + 1)) x q)) ∙ ap (λ k. angles_below k x) f
    go more false q =
        let e : i + 0 ≡ i = omega arith in
        e ∙ sym all ∙ sym (below_no_more x i (suc n) (ltb-false (angle (i + 1)) x q) (omega arith))

pub counted_is : (x : ℕ) → prefix_len (λ k. ltb (angle k) x) (range_with_len 1 8) ≡ angles_below 8 x
unfolding angles_below
counted_is x =
    let p = prefix_len (λ (k : ℕ). ltb (angle k) x) (range_with_len 1 8) in
    let e : p ≡ 0 + p = omega arith in
    e ∙ counted_from x 8 0 (omega arith) refl
