-- Points of the nine stretches: an angle that lies on two of them has one value, and what the tests of DIFF say of the lines.
use mathlib.Core.Path.{◌≡◌, refl, sym, ap, subst}
use mathlib.Core.Bool.{true, false}
use mathlib.Core.List.{List}
use mathlib.Core.Logic.{⊎_elim}
use Prim.Native.Nat.{ℕ, suc, ◌+◌, ◌*◌, ◌-◌, ◌≤◌, ◌<◌}
use native.Mathlib.Nat.{mul-le-mul_left, le_of_lt, lt_of_not-le, eq-or-lt_of_le, mul-one}
use native.Mathlib.Decide.{dec_le}
use native.Mathlib.Omega.{arith}
use lib.ListN.{get_or}
use lib.IntN.{ℤ, pos}
use Rattle.sign.specs.Sign.{plus, minus}
use Rattle.whole.specs.Line.{on_line}
use Rattle.sign.proofs.Signs.{not_below_lem, below}
use Rattle.whole.proofs.Lines.{line_start, line_end_lem}
use Rattle.arms.specs.Angles.{angle, width}
use Rattle.arms.specs.Arms.{plus_at, minus_at}
use Rattle.stability.specs.Verdict.{Stretch, stretch_of, diff_at, is_below}
use Rattle.arms.specs.Exact.{angle_of, wide, OnStretch, along, den, exact_kn, exact_taken, Exact, exact_at}
use Rattle.arms.specs.Figures.{TowardsLower}
use Rattle.arms.specs.declared.Basis.{Basis}
use Rattle.arms.proofs.Tens.{angle_is, angle_le, width_some}
use Rattle.stability.proofs.Stretch.{angle_up, stretch_is}
use Rattle.arms.proofs.Floors.{floor_is}
use Rattle.stability.proofs.Between.{sub_times, floor_move, floor_not_below, floor_below, floor_whole}

-- ---- width i times the value at the whole angle x on the line of the i-th stretch
abbrev pub line_of : (ℕ → ℕ) → (i x : ℕ) → ℕ
line_of f i x = on_line (width i) (x - angle i) (f i) (f (suc i))

-- the same at n/k, times k: what is said along a stretch is said of this line
abbrev pub line_along : (ℕ → ℕ) → (i n k : ℕ) → ℕ
line_along f i n k = on_line (width i * k) (n - angle i * k) (f i) (f (suc i))

pub record On (i n k : ℕ) : Type 0 where
  pub scale : 0 < k
  pub from : angle i * k ≤ n
  pub to : n ≤ angle (suc i) * k

pub on_is : (i n k : ℕ) → OnStretch i n k → On i n k
unfolding angle angle_of
on_is i n k o = record { scale = o.scale; from = o.from; to = o.to }

pub along_is : (f : ℕ → ℕ) (i n k : ℕ) → OnStretch i n k → along f i n k ≡ line_along f i n k
along_is f i n k o =
    let p = on_is i n k o in
    let e : angle (suc i) * k - n ≡ width i * k - (n - angle i * k) = rw (sub_times (angle (suc i)) (angle i) k) (omega (arith, p.from)) in
    rw (angle_is i, angle_is (suc i), e)

abbrev pub line_exact : Basis → (i n k : ℕ) → Exact
line_exact b i n k =
    record { rights = line_along (exact_kn b) i n k; takes = line_along (exact_taken b) i n k; over = width i * k * den b }

wide_is : (i : ℕ) → wide i ≡ width i
unfolding angle angle_of
wide_is i = refl

pub told : (b : Basis) (F : Exact → Type 0) (i n k : ℕ) → OnStretch i n k → F (line_exact b i n k) → F (exact_at b i n k)
told b F i n k o f =
    subst F
    (sym (alike _ _ _ _ _ _ (along_is (exact_kn b) i n k o) (along_is (exact_taken b) i n k o) (ap (λ w. w * k * den b) (wide_is i)))) f
  where
    alike : (r t w r' t' w' : ℕ) → r ≡ r' → t ≡ t' → w ≡ w' → ◌≡◌ {A = Exact} (record { rights = r; takes = t; over = w }) (record { rights = r'; takes = t'; over = w' })
    alike r t w r' t' w' d e g = rw (d, e, g) refl

pub along_whole : (f : ℕ → ℕ) (i x : ℕ) → line_along f i x 1 ≡ line_of f i x
along_whole f i x = rw (mul-one (width i), mul-one (angle i))

pub on_whole : (i x : ℕ) → i < 9 → On i x 1 → Stretch x i
on_whole i x h o = record { within = h; from = omega (arith, o.from); to = omega (arith, o.to) }

-- the j-th of the ten angles, if it lies on the i-th stretch, is one of its ends
pub ten_line : (f : ℕ → ℕ) (i j : ℕ) → j < 10 → Stretch (angle j) i → line_of f i (angle j) ≡ width i * f j
ten_line f i j hj s = go (dec_le j i) (dec_le (suc i) j)
  where
    start : j ≡ i → line_of f i (angle j) ≡ width i * f j
    start e =
        let z : angle i - angle i ≡ 0 = omega arith in
        rw (e, z) (line_start (width i) (f i) (f (suc i)))

    end : j ≡ suc i → line_of f i (angle j) ≡ width i * f j
    end e = rw e (line_end_lem (width i) (f i) (f (suc i)))

    go : Dec (j ≤ i) → Dec (suc i ≤ j) → line_of f i (angle j) ≡ width i * f j
    go (yes l) d =
        ⊎_elim start (λ (k : j < i). absurd (omega (arith, angle_up j i k (omega (arith, s.within)), s.from))) (eq-or-lt_of_le l)
    go (no n) (yes l) =
        ⊎_elim (λ (e : suc i ≡ j). end (sym e)) (λ (k : suc i < j). absurd (omega (arith, angle_up (suc i) j k hj, s.to))) (eq-or-lt_of_le l)
    go (no n) (no m) = absurd (omega (arith, lt_of_not-le n, lt_of_not-le m))

-- an angle on two stretches is an end of both, and has one value
same_later : (f : ℕ → ℕ) (i j x : ℕ) → i < j → Stretch x i → Stretch x j → line_of f i x * width j ≡ line_of f j x * width i
same_later f i j x l s t =
    let rise : angle (suc i) ≤ angle j = ⊎_elim (λ (e : suc i ≡ j). rw e (omega arith)) (λ (k : suc i < j). le_of_lt (angle_up (suc i) j k (omega (arith, t.within)))) (eq-or-lt_of_le l) in
    let e : x ≡ angle j = omega (arith, s.to, t.from) in
    let hj : j < 10 = omega (arith, t.within) in
    let a = ten_line f i j hj (subst (λ (y : ℕ). Stretch y i) e s) in
    let c = ten_line f j j hj (subst (λ (y : ℕ). Stretch y j) e t) in
    rw (e, a, c) (omega arith)

pub same_point : (f : ℕ → ℕ) (i j x : ℕ) → Stretch x i → Stretch x j → line_of f i x * width j ≡ line_of f j x * width i
same_point f i j x s t = go (dec_le i j) (dec_le j i)
  where
    go : Dec (i ≤ j) → Dec (j ≤ i) → line_of f i x * width j ≡ line_of f j x * width i
    go (yes l) d = ⊎_elim (λ (e : i ≡ j). rw e refl) (λ (k : i < j). same_later f i j x k s t) (eq-or-lt_of_le l)
    go (no n) d = sym (same_later f j i x (lt_of_not-le n) t s)

-- ---- DIFF at the whole angle x, on any stretch on which it lies
module _ (ds : List ℤ) (x i : ℕ) (s : Stretch x i) where
  here : Stretch x (stretch_of x)
  here = stretch_is x (omega (arith, s.to, angle_le (suc i) (omega (arith, s.within))))

  pub diff_floor : TowardsLower (line_of (plus_at ds) i x) (line_of (minus_at ds) i x) (width i) (diff_at ds x)
  unfolding diff_at
  diff_floor =
      let j = stretch_of x in
      let ph = width_some j here.within in
      floor_move (line_of (plus_at ds) j x) (line_of (minus_at ds) j x) (width j) (line_of (plus_at ds) i x) (line_of (minus_at ds) i x) (width i) (diff_at ds x)
      ph (width_some i s.within) (same_point (plus_at ds) i j x s here) (same_point (minus_at ds) i j x s here)
      (floor_is (line_of (plus_at ds) j x) (line_of (minus_at ds) j x) (width j) ph)

  pub diff_not_below : is_below (diff_at ds x) ≡ false → line_of (minus_at ds) i x ≤ line_of (plus_at ds) i x
  diff_not_below e =
      floor_not_below (line_of (plus_at ds) i x) (line_of (minus_at ds) i x) (width i) (diff_at ds x) (not_below_lem (diff_at ds x) e).none diff_floor

  pub diff_below_lem : is_below (diff_at ds x) ≡ true → line_of (plus_at ds) i x < line_of (minus_at ds) i x
  diff_below_lem e =
      let r = below (diff_at ds x) e in
      floor_below (line_of (plus_at ds) i x) (line_of (minus_at ds) i x) (width i) (diff_at ds x) r.none r.some diff_floor

pub rounded_along : (ds : List ℤ) (i x : ℕ) → i < 9 → OnStretch i x 1 → TowardsLower (along (plus_at ds) i x 1) (along (minus_at ds) i x 1) (wide i) (diff_at ds x)
rounded_along ds i x h o =
    rw (along_is (plus_at ds) i x 1 o, along_is (minus_at ds) i x 1 o, along_whole (plus_at ds) i x, along_whole (minus_at ds) i x, wide_is i)
    (diff_floor ds x i (on_whole i x h (on_is i x 1 o)))

-- ---- DIFF at the j-th of the ten angles
module _ (ds : List ℤ) (j i : ℕ) (h : j < 10) (s : Stretch (angle j) i) where
  pub ten_not_below : is_below (get_or ds j (pos 0)) ≡ false → line_of (minus_at ds) i (angle j) ≤ line_of (plus_at ds) i (angle j)
  ten_not_below e =
      let k : minus_at ds j ≤ plus_at ds j = omega (arith, (not_below_lem (get_or ds j (pos 0)) e).none) in
      rw (ten_line (minus_at ds) i j h s, ten_line (plus_at ds) i j h s) (mul-le-mul_left (width i) k)

  pub ten_below : is_below (get_or ds j (pos 0)) ≡ true → line_of (plus_at ds) i (angle j) ≤ line_of (minus_at ds) i (angle j)
  ten_below e =
      let k : plus_at ds j ≤ minus_at ds j = omega (arith, (below (get_or ds j (pos 0)) e).none) in
      rw (ten_line (minus_at ds) i j h s, ten_line (plus_at ds) i j h s) (mul-le-mul_left (width i) k)

  -- no rounding there
  pub ten_floor : line_of (plus_at ds) i (angle j) + minus (diff_at ds (angle j)) * width i ≤ plus (diff_at ds (angle j)) * width i + line_of (minus_at ds) i (angle j)
  ten_floor =
      let a = ten_line (plus_at ds) i j h s in
      let c = ten_line (minus_at ds) i j h s in
      rw (a, c) (floor_whole (plus_at ds j) (minus_at ds j) (width i) (diff_at ds (angle j)) (rw (a, c) at (diff_floor ds (angle j) i s)))
