-- The laws of a part beside a board.
use mathlib.Core.Path.{◌≡◌, refl, ap}
use mathlib.Core.Logic.{◌⊎◌, inl, inr}
use Prim.Native.Nat.{ℕ, ◌+◌, ◌*◌, ◌-◌, ◌≤◌, ◌<◌, max}
use native.Mathlib.Omega.{arith}
use native.Mathlib.Nat.{mul-le-mul_left, lt_of_not-le, eq-zero-or-pos}
use native.Mathlib.Decide.{dec_le}
use Rattle.whole.specs.Divide.{ceil_div}
use Rattle.slack.specs.Deck.{uncut_moment}
use Rattle.boards.specs.Split.{effective_length, beside_board, two_stretches, split_volume}
use Rattle.boards.specs.Exact.{OfOne, EffectiveLength}
use Rattle.boards.specs.Laws.{LeftOfRun, NothingLeft, OneEffectiveLength, VolumesAreMade, BoardsAddNothing, IneffectiveAlike, Laws}
use Rattle.boards.proofs.Moments.{ceil_more, uncut_near, deep_uncut, separately}
use Rattle.boards.proofs.Fits.{effective_le, volume_fits_lem}
use Rattle.boards.proofs.Near.{near_the_exact_lem}

-- ---- the effective length
left_of_run_lem : LeftOfRun
left_of_run_lem run l r p = (omega arith, omega arith, omega arith)

nothing_left_lem : NothingLeft
nothing_left_lem run l r = (λ e. omega arith, λ h. omega arith)

-- what is taken off is of the greater of the two
of_one : (taken l r : ℕ) → 7 * taken < 2 * max l r + 7 → OfOne taken l r
of_one taken l r h = by (dec_le l r)
  where
    by : Dec (l ≤ r) → OfOne taken l r
    by (yes p) = inr (omega arith)
    by (no p) = inl (omega (arith, lt_of_not-le p))

effective : (run l r : ℕ) → EffectiveLength run l r (effective_length run l r)
effective run l r =
    record { within = omega arith; left = λ p. omega arith; right = λ p. omega arith; greater = of_one (run - effective_length run l r) l r (omega arith) }

one_effective_length_lem : OneEffectiveLength
one_effective_length_lem run l r e b = by (eq-zero-or-pos e) b.greater
  where
    by : (e ≡ 0) ⊎ (0 < e) → OfOne (run - e) l r → e ≡ effective_length run l r
    by (inl z) (inl g) = omega arith
    by (inl z) (inr g) = omega arith
    by (inr p) (inl g) = omega (arith, b.within, b.left p, b.right p)
    by (inr p) (inr g) = omega (arith, b.within, b.left p, b.right p)

-- ---- the part
volumes_are_made_lem : VolumesAreMade
unfolding split_volume
volumes_are_made_lem length run l r h =
    record {
      effective = effective_length run l r;
      rest = length - effective_length run l r;
      left_moment = uncut_moment l;
      right_moment = uncut_moment r;
      whole_moment = uncut_moment (l + r);
      board = effective run l r;
      stretches = omega arith;
      left = uncut_near l;
      right = uncut_near r;
      whole = uncut_near (l + r);
      sum = refl;
    }

-- two stretches of a length, and one over all of it: with s not above w; with none of the first; with two breadths of 1 mm
stretched : (s w n e : ℕ) → s ≤ w → e ≤ n → s * e + w * (n - e) ≤ w * n
stretched s w n e h p = let t : n - e + e ≡ n = omega arith in omega (arith, mul-le-mul_left e h, ap (λ x. w * x) t)

unstretched : (s w n : ℕ) → s * 0 + w * (n - 0) ≡ w * n
unstretched s w n = let t : n - 0 ≡ n = omega arith in rw t (omega arith)

tiny : (n e : ℕ) → 1 ≤ n → n ≤ 60000 → e ≤ n → ceil_div (2 * e + 1 * (n - e)) 1000000000 ≤ ceil_div (1 * n) 1000000000
tiny n e p q h = omega arith

boards_add_nothing_lem : BoardsAddNothing
unfolding split_volume
boards_add_nothing_lem length run l r some long fits p q broad = rw (deep_uncut (l + r) broad) (by (separately l r p q))
  where
    by : (beside_board l r ≤ uncut_moment (l + r)) ⊎ ((l ≡ 1) × (r ≡ 1)) → ceil_div (two_stretches length (effective_length run l r) l r) 1000000000 ≤ ceil_div (uncut_moment (l + r) * length) 1000000000
    by (inl h) = ceil_more _ _ 1000000000 (omega arith) (stretched (beside_board l r) (uncut_moment (l + r)) length (effective_length run l r) h (effective_le length run l r fits))
    by (inr (a, b)) = rw (a, b) (tiny length (effective_length run 1 1) some long (effective_le length run 1 1 fits))

ineffective_alike_lem : IneffectiveAlike
unfolding split_volume
ineffective_alike_lem length run l r h e = rw (deep_uncut (l + r) h, e) (unstretched (beside_board l r) (uncut_moment (l + r)) length)

-- ---- all of them
pub laws : Laws
laws =
    record {
      left_of_run = left_of_run_lem;
      nothing_left = nothing_left_lem;
      one_effective_length = one_effective_length_lem;
      volumes_are_made = volumes_are_made_lem;
      near_the_exact = near_the_exact_lem;
      separately_no_more = separately;
      boards_add_nothing = boards_add_nothing_lem;
      ineffective_alike = ineffective_alike_lem;
      volume_fits = volume_fits_lem;
    }
