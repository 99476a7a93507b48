-- What the statements of demand 3 range over: every angle up to 40 degrees lies on one of the nine stretches, and the heel limit and
-- UPPER are such angles.
use mathlib.Core.Path.{◌≡◌, refl, sym, ap, ◌∙◌}
use Prim.Native.Nat.{ℕ, zero, suc, ◌*◌, ◌≤◌, ◌<◌, min}
use native.Mathlib.Nat.{le_of_lt, lt_of_not-le}
use native.Mathlib.Decide.{dec_le}
use native.Mathlib.Omega.{arith}
use lib.ListN.{length, get_or}
use lib.IntN.{pos}
use Rattle.whole.proofs.Lists.{tabulate_length}
use Rattle.record.specs.declared.Rule.{Rule}
use Rattle.record.specs.declared.Rule.TheVariants.{New, Old}
use Rattle.record.specs.declared.Ship.{Ship}
use Rattle.arms.specs.declared.Basis.{Basis}
use Rattle.arms.specs.Angles.{angle}
use Rattle.stability.specs.Verdict.{at_most_edge, heel_limit, peak, verdict_of}
use Rattle.arms.specs.Arms.{diff, diffs}
use Rattle.arms.specs.Exact.{angle_of, OnStretch, Lies, EveryAngle}
use Rattle.stability.specs.Figures.{EdgeOr1200, is1200, is_edge, HeelIs, UpperIs}
use Rattle.arms.proofs.Tens.{angle_is, angle_zero, angle_nine, angle_le}
use Rattle.stability.proofs.Peaks.{peak_is}

-- ---- a stretch on which n/k lies
on : (i n k : ℕ) → 0 < k → angle i * k ≤ n → n ≤ angle (suc i) * k → OnStretch i n k
unfolding angle angle_of
on i n k p f t = record { scale = p; from = f; to = t }

up_to : (m n k : ℕ) → m < 9 → 0 < k → n ≤ angle (suc m) * k → Lies n k
up_to zero n k h p t =
    record { stretch = 0; within = h; on = on 0 n k p (omega (arith, ap (λ a. a * k) angle_zero)) t }
up_to (suc m) n k h p t = go (λ f. up_to m n k (omega arith) p f) (dec_le n (angle (suc m) * k))
  where
    go : (n ≤ angle (suc m) * k → Lies n k) → Dec (n ≤ angle (suc m) * k) → Lies n k
    go more (yes f) = more f
    go more (no f) =
        record { stretch = suc m; within = h; on = on (suc m) n k p (le_of_lt (lt_of_not-le f)) t }

pub every_angle_lem : EveryAngle
every_angle_lem n k p h = up_to 8 n k (omega arith) p (omega (arith, ap (λ a. a * k) angle_nine))

-- ---- the heel limit
pub heel_is : (s : Ship) → HeelIs s (heel_limit s)
heel_is s = go s.rule refl
  where
    capped : (e : ℕ) → s.rule ≡ New e → Dec (1200 ≤ e) → EdgeOr1200 s (min 1200 e)
    capped e q (yes h) = is1200 (omega arith)
    capped e q (no h) = is_edge e q (omega (arith, lt_of_not-le h))

    edges : (e f : ℕ) → New e ≡ New f → min 1200 e ≤ f
    edges e f q = let z : e ≡ f = cc in omega arith

    none : (e f : ℕ) → Old e ≡ New f → ⊥
    none e f q = let z : ◌≡◌ {A = ℕ} 0 1 = cc in omega arith

    go : (r : Rule) → s.rule ≡ r → HeelIs s (at_most_edge r 1200)
    go (New e) q =
        record { most = omega arith; edge = λ f p. edges e f (sym q ∙ p); is = capped e q (dec_le 1200 e) }
    go (Old e) q = record { most = omega arith; edge = λ f p. absurd (none e f (sym q ∙ p)); is = is1200 refl }

-- ---- UPPER
pub upper_is : (s : Ship) (b : Basis) → UpperIs s (λ k. get_or (diffs b) k (pos 0)) (verdict_of s b).upper
unfolding verdict_of
upper_is s b =
    let n : length (diffs b) ≡ 10 = tabulate_length 10 (diff b) in
    let p = rw n at (peak_is (diffs b) (omega arith)) in
    record {
      peak = peak (diffs b);
      within = p.within;
      greatest = p.greatest;
      least = p.least;
      is = ap (min s.flood) (sym (angle_is (peak (diffs b))));
    }

pub upper_le : (s : Ship) (b : Basis) → (verdict_of s b).upper ≤ 4000
upper_le s b =
    let u = upper_is s b in
    omega (arith, u.is, angle_is u.peak, angle_le u.peak u.within)
