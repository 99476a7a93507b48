-- Between the shapes ≤ and < are alike: no part within its limits lies on an edge, since 46,631 = 13 × 17 × 211.
use mathlib.Core.Path.{◌≡◌, refl, sym, ap, ◌∙◌}
use mathlib.Core.Bool.{Bool, true, false, not, ◌||◌}
use Prim.Native.Nat.{ℕ, ◌+◌, ◌*◌, ◌-◌, ◌/◌, ◌%◌, ◌≤◌, ◌<◌}
use native.Mathlib.Omega.{arith}
use native.Mathlib.Nat.{mod-lt, div-add-mod', mul-add-mod_self_left, lt_of_not-le, mul-le-mul}
use native.Mathlib.Decide.{dec_le}
use lib.Dec.{T, eqb, eqb→eq, T_not}
use Rattle.whole.proofs.Tables.{all_below, all_at}
use Rattle.whole.proofs.Roots.{root_least}
use Rattle.slack.specs.Laws.{NoDepthMet, NoHeightMet}

-- half the breadth times the slope is never exactly a depth: 173271 × 46631 = 40399 × 200000 + 1
pub no_depth_met_lem : NoDepthMet
no_depth_met_lem b m some broad e = go (dec_le (173271 * m) (40399 * b))
  where
    go : Dec (173271 * m ≤ 40399 * b) → ⊥
    go (yes k) = omega arith
    go (no f) = omega (arith, lt_of_not-le f)

-- ---- where the number p below divides 50000 h², it divides h
-- below p by a computed test: q is 0, or p does not divide 50000 q²
abbrev none : ℕ → ℕ → Bool
none p q = eqb q 0 || not (eqb (50000 * (q * q) % p) 0)

divides : (p : ℕ) → 0 < p → T (all_below (none p) p) → (h c : ℕ) → p * c ≡ 50000 * (h * h) → h % p ≡ 0
divides p pos test h c e = go (eqb (h % p) 0) refl (all_at (none p) p test (h % p) (mod-lt h pos))
  where
    split : (k q : ℕ) → k * p + q ≡ h → p * (50000 * (k * k * p + 2 * (k * q))) + 50000 * (q * q) ≡ p * c + 0
    split k q i = omega (arith, ap (λ x. 50000 * (x * x)) i)

    rest : 50000 * (h % p * (h % p)) % p ≡ 0
    rest =
        sym (mul-add-mod_self_left p (50000 * (h / p * (h / p) * p + 2 * (h / p * (h % p)))) (50000 * (h % p * (h % p))))
        ∙ ap (λ x. x % p) (split (h / p) (h % p) (div-add-mod' h p))
        ∙ mul-add-mod_self_left p c 0
        ∙ small
      where
        small : 0 % p ≡ 0
        small = let l : 0 % p < p = mod-lt 0 pos in omega (arith, div-add-mod' 0 p)

    go : (t : Bool) → eqb (h % p) 0 ≡ t → T (t || not (eqb (50000 * (h % p * (h % p)) % p) 0)) → h % p ≡ 0
    go true i t = eqb→eq (h % p) 0 (rw i tt)
    go false i t = absurd (T_not (eqb (50000 * (h % p * (h % p)) % p) 0) t (rw rest tt))

-- ---- a number that 13, 17 and 211 divide is 0 or at least 46,631
least : (h x y z : ℕ) → h ≡ 13 * x → h ≡ 17 * y → h ≡ 211 * z → 0 < h → 46631 ≤ h
least h x y z ex ey ez some = go (dec_le (4 * y) (3 * x))
  where
    -- x = 17 d, so h = 221 d
    last : (d : ℕ) → h ≡ 221 * d → Dec (190 * z ≤ 199 * d) → 46631 ≤ h
    last d i (yes k) = omega arith
    last d i (no f) = omega (arith, lt_of_not-le f)

    go : Dec (4 * y ≤ 3 * x) → 46631 ≤ h
    go (yes k) = omega arith
    go (no f) = last (4 * y - 3 * x) (omega (arith, lt_of_not-le f)) (dec_le (190 * z) (199 * (4 * y - 3 * x)))

-- a triangle's height is never exactly the section's
pub no_height_met_lem : NoHeightMet
no_height_met_lem b d h broad cut some e =
    let k : d ≤ 9326 = omega arith in
    let a : b * d ≤ 373040000 = omega (arith, mul-le-mul broad k) in
    let l : h ≤ 18653 = root_least h 18653 (omega arith) in
    let x = divides 13 (omega arith) tt h (3587 * (b * d)) (omega arith) in
    let y = divides 17 (omega arith) tt h (2743 * (b * d)) (omega arith) in
    let z = divides 211 (omega arith) tt h (221 * (b * d)) (omega arith) in
    omega (arith, least h (h / 13) (h / 17) (h / 211) (omega arith) (omega arith) (omega arith) some)
