-- Demand 3: the verdict's code means what it says of the exact values, and the figures shown lie near them.
use mathlib.Core.Path.{◌≡◌, refl, sym, subst, ◌∙◌}
use mathlib.Core.Bool.{Bool, true, false, cond, ◌&&◌}
use mathlib.Core.Logic.{⊎_elim}
use Prim.Native.Nat.{ℕ, suc, ◌+◌, ◌*◌, ◌-◌, ◌≤◌, ◌<◌}
use native.Mathlib.Nat.{le_of_mul-le-mul_right, mul-le-mul_right, lt_of_lt_of_le, le_trans, le_of_lt, lt_of_not-le, mul-pos, mul-one, eq-or-lt_of_le}
use native.Mathlib.Decide.{dec_le}
use native.Mathlib.Omega.{arith}
use lib.Dec.{ltb}
use lib.Signed.{lt_z}
use lib.IntN.{pos}
use borrow.Author.Tests.{lt-ltb, le-leb, ltb-true, ltb-false}
use Rattle.sign.specs.Sign.{Under}
use Rattle.whole.specs.Frac.{◌≺◌}
use Rattle.sign.proofs.Signs.{lt_under, nlt_most}
use Rattle.record.specs.declared.Ship.{Ship}
use Rattle.arms.specs.declared.Basis.{Basis}
use Rattle.std.specs.Prelude.{Ok, Err}
use Rattle.stability.specs.declared.Shortfall.TheVariants.{ShortOfGm, ShortAtHeel, ShortBeyond, ShortOfArea}
use Rattle.arms.specs.Angles.{angle, width}
use Rattle.stability.specs.Verdict.{heel_limit, Stretch, diff_at, upper, is_below, fails_among, fails_beyond, Judgement, judged_by, judgement_code, verdict_of}
use Rattle.arms.specs.Arms.{gm, diffs, plus_at, minus_at}
use Rattle.area.specs.Area.{area}
use Rattle.arms.specs.Exact.{den, exact_kn, exact_taken, OnStretch, exact_at, NotBelow, LessThan, NotUnder, LessOver, ExactGMBelow}
use Rattle.area.specs.Exact.{exact_area}
use Rattle.arms.specs.Figures.{TowardsLower}
use Rattle.stability.specs.Figures.{Figures}
use Rattle.arms.specs.Judgeable.{Judgeable}
use Rattle.stability.specs.Demand.{PassedMeans, ShortAtHeelMeans, ShortBeyondMeans, Demand3}
use Rattle.stability.specs.Margins.{Margins}
use Rattle.arms.proofs.Tens.{angle_is, angle_rises, width_some}
use Rattle.arms.proofs.Nearness.{Close, den_some, close, tenth, ten_low_lem, ten_high_lem, gm_is, gm_below_lem, gm_not_below}
use Rattle.area.proofs.Shown.{area_is, area_never_above, area_never_far}
use Rattle.stability.proofs.Between.{above_sub, between, close_line, close_not_below, close_exceeds, floor_low, floor_high, whole_high}
use Rattle.stability.proofs.Covers.{heel_is, upper_is, upper_le}
use Rattle.stability.proofs.Codes.{under_true, or_false, among_false, ten_of, named, at, codes, one_of_five}
use Rattle.stability.proofs.Points.{line_of, line_along, On, on_is, line_exact, told, along_whole, on_whole, diff_floor, rounded_along, diff_not_below, diff_below_lem, ten_not_below, ten_below, ten_floor}

module _ (b : Basis) (jd : Judgeable b) where
  -- ---- on a stretch
  stretch_close : (i n k : ℕ) → i < 9 → On i n k → Close (den b) (3 * (width i * k)) (line_along (plus_at (diffs b)) i n k) (line_along (minus_at (diffs b)) i n k) (line_along (exact_kn b) i n k) (line_along (exact_taken b) i n k)
  stretch_close i n k h o =
      let p = plus_at (diffs b) in
      let m = minus_at (diffs b) in
      close_line (den b) 3 (p i) (m i) (p (suc i)) (m (suc i)) (exact_kn b i) (exact_taken b i) (exact_kn b (suc i)) (exact_taken b (suc i))
      (close b jd i (omega arith)) (close b jd (suc i) (omega arith))
      (width i * k) (n - angle i * k) (mul-pos (width_some i h) o.scale) (above_sub (angle (suc i)) (angle i) n k o.to)

  -- the rounded lines at a whole angle: what they say of the exact ones
  righting_not_below : (i x : ℕ) → i < 9 → On i x 1 → line_of (minus_at (diffs b)) i x ≤ line_of (plus_at (diffs b)) i x → NotBelow (line_exact b i x 1)
  righting_not_below i x h o k =
      close_not_below (den b) 3 (width i * 1) (line_along (plus_at (diffs b)) i x 1) (line_along (minus_at (diffs b)) i x 1) (line_along (exact_kn b) i x 1) (line_along (exact_taken b) i x 1)
      (stretch_close i x 1 h o) (rw (along_whole (minus_at (diffs b)) i x, along_whole (plus_at (diffs b)) i x) k)

  righting_near : (i x : ℕ) → i < 9 → On i x 1 → line_of (plus_at (diffs b)) i x ≤ line_of (minus_at (diffs b)) i x → LessThan 3 (line_exact b i x 1)
  righting_near i x h o k =
      close_exceeds (den b) 3 (width i * 1) (line_along (plus_at (diffs b)) i x 1) (line_along (minus_at (diffs b)) i x 1) (line_along (exact_kn b) i x 1) (line_along (exact_taken b) i x 1)
      (stretch_close i x 1 h o) (rw (along_whole (minus_at (diffs b)) i x, along_whole (plus_at (diffs b)) i x) k)

  -- the exact lines at a whole angle
  exact_not_below : (i x : ℕ) → Stretch x i → line_of (minus_at (diffs b)) i x ≤ line_of (plus_at (diffs b)) i x → line_of (exact_taken b) i x ≤ line_of (exact_kn b) i x
  exact_not_below i x s k =
      rw (along_whole (exact_taken b) i x, along_whole (exact_kn b) i x) at
      (righting_not_below i x s.within (record { scale = omega arith; from = omega (arith, s.from); to = omega (arith, s.to) }) k)

  -- ---- from the heel limit to UPPER, where the tests of 41 and 42 pass
  module _ (heel up : ℕ) (e41 : is_below (diff_at (diffs b) heel) ≡ false) (e42 : fails_beyond heel up (diffs b) ≡ false) where
    above_ten : (i j : ℕ) → j < 10 → heel ≤ angle j → angle j ≤ up → Stretch (angle j) i → line_of (minus_at (diffs b)) i (angle j) ≤ line_of (plus_at (diffs b)) i (angle j)
    above_ten i j h l r s = ⊎_elim same past (eq-or-lt_of_le l)
      where
        same : heel ≡ angle j → line_of (minus_at (diffs b)) i (angle j) ≤ line_of (plus_at (diffs b)) i (angle j)
        same e = diff_not_below (diffs b) (angle j) i s (rw e at e41)

        past : heel < angle j → line_of (minus_at (diffs b)) i (angle j) ≤ line_of (plus_at (diffs b)) i (angle j)
        past k =
            let f = among_false heel up (diffs b) 10 (or_false (fails_among heel up (diffs b) 10) _ e42).0 j h in
            ten_not_below (diffs b) j i h s (rw (lt-ltb heel (angle j) k, le-leb (angle j) up r) at f)

    above_up : (i : ℕ) → heel ≤ up → Stretch up i → line_of (minus_at (diffs b)) i up ≤ line_of (plus_at (diffs b)) i up
    above_up i l s = ⊎_elim same past (eq-or-lt_of_le l)
      where
        same : heel ≡ up → line_of (minus_at (diffs b)) i up ≤ line_of (plus_at (diffs b)) i up
        same e = diff_not_below (diffs b) up i s (rw e at e41)

        past : heel < up → line_of (minus_at (diffs b)) i up ≤ line_of (plus_at (diffs b)) i up
        past k =
            let f = (or_false (fails_among heel up (diffs b) 10) (ltb heel up && is_below (diff_at (diffs b) up)) e42).1 in
            diff_not_below (diffs b) up i s (rw (lt-ltb heel up k) at f)

    beyond_means : (i n k : ℕ) → i < 9 → On i n k → heel * k ≤ n → n ≤ up * k → NotBelow (line_exact b i n k)
    beyond_means i n k h o l r = first (dec_le (angle i) heel)
      where
        rise : angle i < angle (suc i)
        rise = angle_rises i h

        heel_up : heel ≤ up
        heel_up = le_of_mul-le-mul_right {k = k} (le_trans l r) o.scale

        heel_to : heel ≤ angle (suc i)
        heel_to = le_of_mul-le-mul_right {k = k} (le_trans l o.to) o.scale

        from_up : angle i ≤ up
        from_up = le_of_mul-le-mul_right {k = k} (le_trans o.from r) o.scale

        last : (x : ℕ) → Stretch x i → x * k ≤ n → line_of (minus_at (diffs b)) i x ≤ line_of (plus_at (diffs b)) i x → Dec (angle (suc i) ≤ up) → NotBelow (line_exact b i n k)
        last x s f u (yes g) =
            let t : Stretch (angle (suc i)) i = record { within = h; from = le_of_lt rise; to = omega arith } in
            between (angle i) (angle (suc i)) x (angle (suc i)) n k (exact_kn b i) (exact_kn b (suc i)) (exact_taken b i) (exact_taken b (suc i)) o.scale f o.to (omega arith)
            (exact_not_below i x s u) (exact_not_below i (angle (suc i)) t (above_ten i (suc i) (omega arith) heel_to g t))
        last x s f u (no g) =
            let t : Stretch up i = record { within = h; from = from_up; to = le_of_lt (lt_of_not-le g) } in
            between (angle i) (angle (suc i)) x up n k (exact_kn b i) (exact_kn b (suc i)) (exact_taken b i) (exact_taken b (suc i)) o.scale f r t.to
            (exact_not_below i x s u) (exact_not_below i up t (above_up i heel_up t))

        first : Dec (angle i ≤ heel) → NotBelow (line_exact b i n k)
        first (yes g) =
            let s : Stretch heel i = record { within = h; from = g; to = heel_to } in
            last heel s l (diff_not_below (diffs b) heel i s e41) (dec_le (angle (suc i)) up)
        first (no g) =
            let s : Stretch (angle i) i = record { within = h; from = omega arith; to = le_of_lt rise } in
            last (angle i) s o.from (above_ten i i (omega arith) (le_of_lt (lt_of_not-le g)) from_up s) (dec_le (angle (suc i)) up)

  -- ---- DIFF at a whole angle
  module _ (x : ℕ) where
    floor_along : (i : ℕ) → Stretch x i → TowardsLower (line_along (plus_at (diffs b)) i x 1) (line_along (minus_at (diffs b)) i x 1) (width i * 1) (diff_at (diffs b) x)
    floor_along i s = rw (mul-one (width i), mul-one (angle i)) (diff_floor (diffs b) x i s)

    pub diff_low_lem : (i : ℕ) → i < 9 → On i x 1 → NotUnder (diff_at (diffs b) x) (line_exact b i x 1)
    diff_low_lem i h o =
        floor_low (den b) 3 (width i * 1) (line_along (plus_at (diffs b)) i x 1) (line_along (minus_at (diffs b)) i x 1) (line_along (exact_kn b) i x 1) (line_along (exact_taken b) i x 1)
        (stretch_close i x 1 h o) (diff_at (diffs b) x) (floor_along i (on_whole i x h o))

    pub diff_high_lem : (i : ℕ) → i < 9 → On i x 1 → LessOver (diff_at (diffs b) x) 4 (line_exact b i x 1)
    diff_high_lem i h o =
        floor_high (den b) 3 (width i * 1) (line_along (plus_at (diffs b)) i x 1) (line_along (minus_at (diffs b)) i x 1) (line_along (exact_kn b) i x 1) (line_along (exact_taken b) i x 1)
        (stretch_close i x 1 h o) (diff_at (diffs b) x) (floor_along i (on_whole i x h o))

    pub diff_high_ten_lem : (i j : ℕ) → i < 9 → j < 10 → x ≡ angle j → On i x 1 → LessOver (diff_at (diffs b) x) 3 (line_exact b i x 1)
    diff_high_ten_lem i j h hj e o =
        whole_high (den b) 3 (width i * 1) (line_along (plus_at (diffs b)) i x 1) (line_along (minus_at (diffs b)) i x 1) (line_along (exact_kn b) i x 1) (line_along (exact_taken b) i x 1)
        (stretch_close i x 1 h o) (diff_at (diffs b) x) (rw (mul-one (width i), mul-one (angle i), e) (ten_floor (diffs b) j i hj (rw e at (on_whole i x h o))))

-- ---- the figures
module _ (s : Ship) (b : Basis) (jd : Judgeable b) where
  pub figures : Figures s b (verdict_of s b) (heel_limit s) (ten_of b) (diff_at (diffs b))
  unfolding verdict_of
  figures =
      record {
        over = den_some b jd;
        gm = gm_is b jd;
        heel_limit = heel_is s;
        tens = tenth b jd;
        between = λ i x h o. rounded_along (diffs b) i x h o;
        shown = refl;
        upper = upper_is s b;
        area = area_is (diffs b) (upper s.flood (diffs b));
      }

-- ---- the theorem
module _ (s : Ship) (b : Basis) (jd : Judgeable b) where
  passed : lt_z (gm b) (pos 300000) ≡ false → is_below (diff_at (diffs b) (heel_limit s)) ≡ false → fails_beyond (heel_limit s) (upper s.flood (diffs b)) (diffs b) ≡ false → ltb (area (diffs b) (upper s.flood (diffs b))) 429718347 ≡ false → PassedMeans s b (verdict_of s b) (heel_limit s) (ten_of b) (diff_at (diffs b))
  unfolding verdict_of
  passed e₁ e₂ e₃ e₄ =
      let u = upper s.flood (diffs b) in
      let heel = heel_limit s in
      record {
        gm = gm_not_below b jd (nlt_most (gm b) (pos 300000) e₁);
        at_heel =
            λ i h o.
            let p = on_is i heel 1 o in
            told b NotBelow i heel 1 o (righting_not_below b jd i heel h p (diff_not_below (diffs b) heel i (on_whole i heel h p) e₂));
        beyond = λ i n k h o l r. told b NotBelow i n k o (beyond_means b jd heel u e₂ e₃ i n k h (on_is i n k o) l r);
        area = le_trans (mul-le-mul_right (exact_area b u).den (ltb-false (area (diffs b) u) 429718347 e₄)) (area_never_above b jd u);
      }

  -- where DIFF at a whole angle x is below zero
  pub short_at : (x : ℕ) → Under (diff_at (diffs b) x) (pos 0) → (i : ℕ) → i < 9 → OnStretch i x 1 → LessThan 3 (exact_at b i x 1)
  short_at x f i h o =
      let p = on_is i x 1 o in
      told b (LessThan 3) i x 1 o (righting_near b jd i x h p (le_of_lt (diff_below_lem (diffs b) x i (on_whole i x h p) (under_true (diff_at (diffs b) x) (pos 0) f))))

  short_at_heel : is_below (diff_at (diffs b) (heel_limit s)) ≡ true → ShortAtHeelMeans s b (verdict_of s b) (heel_limit s) (ten_of b) (diff_at (diffs b))
  unfolding verdict_of
  short_at_heel e =
      let f = lt_under (diff_at (diffs b) (heel_limit s)) (pos 0) e in
      record { fails = f; near = short_at (heel_limit s) f }

  ten_near : (j i : ℕ) → j < 10 → i < 9 → Under (ten_of b j) (pos 0) → OnStretch i (angle j) 1 → LessThan 3 (exact_at b i (angle j) 1)
  ten_near j i hj h f o =
      let p = on_is i (angle j) 1 o in
      told b (LessThan 3) i (angle j) 1 o (righting_near b jd i (angle j) h p (ten_below (diffs b) j i hj (on_whole i (angle j) h p) (under_true (ten_of b j) (pos 0) f)))

  short_beyond : fails_beyond (heel_limit s) (upper s.flood (diffs b)) (diffs b) ≡ true → ShortBeyondMeans s b (verdict_of s b) (heel_limit s) (ten_of b) (diff_at (diffs b))
  unfolding verdict_of
  short_beyond e =
      record {
        fails = named s b e;
        near_ten = λ j i hj h l r f o. subst (λ (x : ℕ). LessThan 3 (exact_at b i x 1)) (sym (angle_is j)) (ten_near j i hj h f (rw (angle_is j) at o));
        near_upper = λ i h l f o. short_at (upper s.flood (diffs b)) f i h o;
      }

  short_of_area : ltb (area (diffs b) (upper s.flood (diffs b))) 429718347 ≡ true → exact_area b (verdict_of s b).upper ≺ 429718347 + 12009
  unfolding verdict_of
  short_of_area e =
      let u = upper s.flood (diffs b) in
      let k : area (diffs b) u + 12009 ≤ 429718347 + 12009 = omega (arith, ltb-true (area (diffs b) u) 429718347 e) in
      lt_of_lt_of_le (area_never_far b jd u) (mul-le-mul_right (exact_area b u).den k)

  -- what each judgement says
  abbrev Means : Judgement → Type 0
  Means (Ok tt) = PassedMeans s b (verdict_of s b) (heel_limit s) (ten_of b) (diff_at (diffs b))
  Means (Err ShortOfGm) = ExactGMBelow b 300000
  Means (Err ShortAtHeel) = ShortAtHeelMeans s b (verdict_of s b) (heel_limit s) (ten_of b) (diff_at (diffs b))
  Means (Err ShortBeyond) = ShortBeyondMeans s b (verdict_of s b) (heel_limit s) (ten_of b) (diff_at (diffs b))
  Means (Err ShortOfArea) = exact_area b (verdict_of s b).upper ≺ 429718347 + 12009

  cases : (t₁ t₂ t₃ t₄ : Bool) → lt_z (gm b) (pos 300000) ≡ t₁ → is_below (diff_at (diffs b) (heel_limit s)) ≡ t₂ → fails_beyond (heel_limit s) (upper s.flood (diffs b)) (diffs b) ≡ t₃ → ltb (area (diffs b) (upper s.flood (diffs b))) 429718347 ≡ t₄ → Means (cond t₁ (Err ShortOfGm) (cond t₂ (Err ShortAtHeel) (cond t₃ (Err ShortBeyond) (cond t₄ (Err ShortOfArea) (Ok tt)))))
  cases true t₂ t₃ t₄ e₁ e₂ e₃ e₄ = gm_below_lem b jd (lt_under (gm b) (pos 300000) e₁)
  cases false true t₃ t₄ e₁ e₂ e₃ e₄ = short_at_heel e₂
  cases false false true t₄ e₁ e₂ e₃ e₄ = short_beyond e₃
  cases false false false true e₁ e₂ e₃ e₄ = short_of_area e₄
  cases false false false false e₁ e₂ e₃ e₄ = passed e₁ e₂ e₃ e₄

  means : Means (verdict_of s b).judgement
  unfolding verdict_of judged_by
  means =
      cases (lt_z (gm b) (pos 300000)) (is_below (diff_at (diffs b) (heel_limit s))) (fails_beyond (heel_limit s) (upper s.flood (diffs b)) (diffs b)) (ltb (area (diffs b) (upper s.flood (diffs b))) 429718347)
      refl refl refl refl

  means_at : (w : Judgement) → judgement_code (verdict_of s b).judgement ≡ judgement_code w → Means w
  means_at w = at Means (verdict_of s b).judgement w means

  -- the exact GM below 300,000 shows in the GM
  gm_shows : ExactGMBelow b 300000 → Under (verdict_of s b).gm (pos 300000)
  unfolding verdict_of
  gm_shows k = go (lt_z (gm b) (pos 300000)) refl
    where
      go : (t : Bool) → lt_z (gm b) (pos 300000) ≡ t → Under (gm b) (pos 300000)
      go true e = lt_under (gm b) (pos 300000) e
      go false e = absurd (gm_not_below b jd (nlt_most (gm b) (pos 300000) e) k)

-- (nothing is asked of the ship: it holds for every FLOOD and EDGE)
pub demand3 : (s : Ship) (b : Basis) → Judgeable b → Demand3 s b
demand3 s b jd =
    record {
      heel = heel_limit s;
      ten = ten_of b;
      diff = diff_at (diffs b);
      holds =
          record {
            figures = figures s b jd;
            codes = codes s b;
            heel_within = (heel_is s).most;
            upper_within = upper_le s b;
            one_of = one_of_five s b;
            forty_exactly = (means_at s b jd (Err ShortOfGm), λ k. (codes s b).is40.1 (gm_shows s b jd k));
            at00 = means_at s b jd (Ok tt);
            at41 = means_at s b jd (Err ShortAtHeel);
            at42 = means_at s b jd (Err ShortBeyond);
            at43 = means_at s b jd (Err ShortOfArea);
          };
    }

-- ---- the margins
pub margins : (s : Ship) (b : Basis) → Judgeable b → Margins s b
unfolding verdict_of
margins s b jd =
    let u = upper s.flood (diffs b) in
    let heel = heel_limit s in
    record {
      heel = heel;
      ten = ten_of b;
      diff = diff_at (diffs b);
      figures = figures s b jd;
      near =
          record {
            area_low = area_never_above b jd u;
            area_high = area_never_far b jd u;
            ten_low = ten_low_lem b jd;
            ten_high = ten_high_lem b jd;
            diff_low = λ i h o. told b (NotUnder (diff_at (diffs b) heel)) i heel 1 o (diff_low_lem b jd heel i h (on_is i heel 1 o));
            diff_high = λ i h o. told b (LessOver (diff_at (diffs b) heel) 4) i heel 1 o (diff_high_lem b jd heel i h (on_is i heel 1 o));
            diff_high_ten = λ i j h hj e o. told b (LessOver (diff_at (diffs b) heel) 3) i heel 1 o (diff_high_ten_lem b jd heel i j h hj (e ∙ angle_is j) (on_is i heel 1 o));
          };
    }
