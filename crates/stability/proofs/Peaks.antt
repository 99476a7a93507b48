-- Laws of the greatest of the ten DIFFs, and of the tests at the ten angles.
use mathlib.Core.Path.{◌≡◌, refl, sym, ap, ◌∙◌}
use mathlib.Core.Bool.{Bool, true, false, cond, ◌||◌}
use mathlib.Core.List.{List, [], ◌∷◌}
use Prim.Native.Nat.{ℕ, zero, suc, ◌+◌, ◌≤◌, ◌<◌}
use native.Mathlib.Nat.{lt_of_not-le}
use native.Mathlib.Decide.{dec_le}
use native.Mathlib.Numerals.{add-one}
use native.Mathlib.Omega.{arith}
use lib.ListN.{length, get_or}
use lib.Signed.{lt_z}
use lib.IntN.{ℤ, pos, negsuc}
use borrow.Author.Tests.{le-ltb}
use Rattle.std.specs.List.{list_any, range_with_len}
use Rattle.sign.specs.Sign.{AtMost, Under}
use Rattle.sign.proofs.Signs.{lt_under, nlt_most}
use Rattle.whole.proofs.Lists.{get_d_any}
use Rattle.stability.specs.Verdict.{greater, Peak, peak, PeakRule, fails_at, fails_among}

pub peak_unique : (ds : List ℤ) (n r s : ℕ) → Peak ds n r → Peak ds n s → r ≡ s
peak_unique ds n r s p q = go (dec_le r s) (dec_le s r)
  where
    go : Dec (r ≤ s) → Dec (s ≤ r) → r ≡ s
    go (yes a) (yes b) = omega arith
    go (no a) b = absurd (omega (arith, p.least s (lt_of_not-le a), q.greatest r p.within))
    go (yes a) (no b) = absurd (omega (arith, q.least r (lt_of_not-le b), p.greatest s q.within))

irreflexive : (z : ℤ) → lt_z z z ≡ false
irreflexive (pos n) = le-ltb n n (omega arith)
irreflexive (negsuc n) = le-ltb n n (omega arith)

-- one more in front
module _ (d : ℤ) (ds : List ℤ) (j : ℕ) (p : Peak ds (length ds) j) where
  in_front : Peak (d ∷ ds) (suc (length ds)) (greater d ds j)
  in_front = go (lt_z d (get_or ds j d)) refl
    where
      same : get_or ds j d ≡ get_or ds j (pos 0)
      same = get_d_any ds j d (pos 0) p.within

      most : (k : ℕ) → AtMost d (get_or ds j (pos 0)) → k < suc (length ds) → AtMost (get_or (d ∷ ds) k (pos 0)) (get_or ds j (pos 0))
      most zero a h = a
      most (suc k) a h = p.greatest k (omega arith)

      less : (k : ℕ) → Under d (get_or ds j (pos 0)) → k < suc j → Under (get_or (d ∷ ds) k (pos 0)) (get_or ds j (pos 0))
      less zero a h = a
      less (suc k) a h = p.least k (omega arith)

      first : (k : ℕ) → AtMost (get_or ds j (pos 0)) d → k < suc (length ds) → AtMost (get_or (d ∷ ds) k (pos 0)) d
      first zero a h = omega arith
      first (suc k) a h = omega (arith, p.greatest k (omega arith))

      go : (t : Bool) → lt_z d (get_or ds j d) ≡ t → Peak (d ∷ ds) (suc (length ds)) (cond t (suc j) 0)
      go true e =
          let u : Under d (get_or ds j (pos 0)) = lt_under d (get_or ds j (pos 0)) (ap (lt_z d) (sym same) ∙ e) in
          record { within = omega (arith, p.within); greatest = λ k h. most k (omega arith) h; least = λ k h. less k u h }
      go false e =
          let u : AtMost (get_or ds j (pos 0)) d = nlt_most d (get_or ds j (pos 0)) (ap (lt_z d) (sym same) ∙ e) in
          record { within = omega arith; greatest = λ k h. first k u h; least = λ k h. absurd (omega arith) }

alone : (d : ℤ) → Peak (d ∷ []) 1 (greater d [] 0)
alone d =
    rw (irreflexive d)
    (record { within = omega arith; greatest = λ k h. only k h; least = λ k h. absurd (omega arith) })
  where
    only : (k : ℕ) → k < 1 → AtMost (get_or (d ∷ []) k (pos 0)) d
    only zero h = omega arith
    only (suc k) h = absurd (omega arith)

pub peak_is : PeakRule
unfolding peak
peak_is [] h = absurd (omega arith)
peak_is (d ∷ []) h = alone d
peak_is (d ∷ e ∷ ds) h = in_front d (e ∷ ds) (peak (e ∷ ds)) (peak_is (e ∷ ds) (omega arith))

-- a place that is the peak of all
pub peak_found : (ds : List ℤ) (n r : ℕ) → Peak ds n r → length ds ≡ n → 0 < n → r ≡ peak ds
peak_found ds n r p e h = peak_unique ds n r (peak ds) p (rw e at (peak_is ds (omega arith)))

-- ---- the tests of 42 at the ten angles, one after the other
module _ (heel up : ℕ) (ds : List ℤ) where
  or_true : (a b : Bool) → b ≡ true → true ≡ (a || b)
  or_true true b e = refl
  or_true false b e = sym e

  or_left : (a b : Bool) → true ≡ a → true ≡ (a || b)
  or_left true b e = refl
  or_left false b e = let z : ◌≡◌ {A = ℕ} 0 1 = cc in absurd (omega arith)

  pub among_found : (k n : ℕ) → k < n → fails_at heel up ds k ≡ true → true ≡ fails_among heel up ds n
  unfolding fails_among
  among_found k zero h e = absurd (omega arith)
  among_found k (suc n) h e = go (among_found k n) (dec_le n k)
    where
      go : (k < n → fails_at heel up ds k ≡ true → true ≡ fails_among heel up ds n) → Dec (n ≤ k) → true ≡ (fails_among heel up ds n || fails_at heel up ds n)
      go before (yes l) =
          let q : n ≡ k = omega arith in
          or_true (fails_among heel up ds n) (fails_at heel up ds n) (ap (fails_at heel up ds) q ∙ e)
      go before (no l) = or_left (fails_among heel up ds n) (fails_at heel up ds n) (before (lt_of_not-le l) e)

  or_none : (a : Bool) → a ≡ (a || false)
  or_none true = refl
  or_none false = refl

  or_moved : (a b d : Bool) → (a || (b || d)) ≡ ((a || b) || d)
  or_moved true b d = refl
  or_moved false b d = refl

  among_from : (n i : ℕ) → fails_among heel up ds (n + i) ≡ (fails_among heel up ds i || list_any (fails_at heel up ds) (range_with_len i n))
  unfolding fails_among
  among_from zero i =
      let e : 0 + i ≡ i = omega arith in
      rw e (or_none (fails_among heel up ds i))
  among_from (suc n) i =
      let e : suc n + i ≡ n + (i + 1) = omega arith in
      let rest = list_any (fails_at heel up ds) (range_with_len (i + 1) n) in
      ap (fails_among heel up ds) e ∙ among_from n (i + 1) ∙ ap (λ (k : ℕ). fails_among heel up ds k || rest) (add-one i)
      ∙ sym (or_moved (fails_among heel up ds i) (fails_at heel up ds i) rest)

  pub among_any : list_any (fails_at heel up ds) (range_with_len 0 10) ≡ fails_among heel up ds 10
  unfolding fails_among
  among_any = sym (among_from 10 0)
