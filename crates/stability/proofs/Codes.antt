-- The code by the figures shown: each test of the verdict is the comparison that document 01 prints, and the code tells the test.
use mathlib.Core.Path.{◌≡◌, refl, sym, ap, subst, ◌∙◌}
use mathlib.Core.Bool.{Bool, true, false, cond, ◌&&◌, ◌||◌}
use mathlib.Core.List.{List}
use mathlib.Core.Logic.{◌⊎◌, inl, inr, ⊎_elim}
use Prim.Native.Nat.{ℕ, zero, suc, ◌≤◌, ◌<◌}
use native.Mathlib.Nat.{eq-or-lt_of_le}
use native.Mathlib.Omega.{arith}
use lib.Dec.{leb, ltb, eqb}
use lib.ListN.{get_or}
use lib.Signed.{lt_z}
use lib.IntN.{ℤ, pos}
use borrow.Author.Tests.{lt-ltb, le-ltb, le-leb, ltb-true, ltb-false, leb-true}
use Rattle.sign.specs.Sign.{AtMost, Under}
use Rattle.whole.proofs.Lists.{and_true}
use Rattle.sign.proofs.Signs.{lt_under, nlt_most}
use Rattle.record.specs.declared.Ship.{Ship}
use Rattle.arms.specs.declared.Basis.{Basis}
use Rattle.std.specs.Prelude.{Ok, Err}
use Rattle.stability.specs.declared.Shortfall.TheVariants.{ShortOfGm, ShortAtHeel, ShortBeyond, ShortOfArea}
use Rattle.stability.specs.declared.Verdict.{Verdict}
use Rattle.arms.specs.Angles.{angle}
use Rattle.stability.specs.Verdict.{heel_limit, diff_at, upper, is_below, fails_at, fails_among, fails_beyond, Judgement, judged_by, judgement_code, verdict_of}
use Rattle.arms.specs.Arms.{gm, diffs}
use Rattle.area.specs.Area.{area}
use Rattle.stability.specs.Demand.{SomeAngleFails, one_of_ten, at_upper, NoneApplies, Codes, OneOfFive, is00, is40, is41, is42, is43}
use Rattle.arms.proofs.Tens.{angle_is}
use Rattle.stability.proofs.Peaks.{among_found}

-- ---- tests and comparisons
pub under_true : (a b : ℤ) → Under a b → lt_z a b ≡ true
under_true a b u = go (lt_z a b) refl
  where
    go : (t : Bool) → lt_z a b ≡ t → lt_z a b ≡ true
    go true e = e
    go false e = absurd (omega (arith, nlt_most a b e))

pub most_false : (a b : ℤ) → AtMost b a → lt_z a b ≡ false
most_false a b u = go (lt_z a b) refl
  where
    go : (t : Bool) → lt_z a b ≡ t → lt_z a b ≡ false
    go true e = absurd (omega (arith, lt_under a b e))
    go false e = e

clash : true ≡ false → ⊥
clash e = let z : ◌≡◌ {A = ℕ} 0 1 = cc in omega arith

pub or_false : (a b : Bool) → (a || b) ≡ false → (a ≡ false) × (b ≡ false)
or_false true b e = absurd (clash e)
or_false false b e = (refl, e)

or_either : (a b : Bool) → (a || b) ≡ true → (a ≡ true) ⊎ (b ≡ true)
or_either true b e = inl refl
or_either false b e = inr e

or_right : (a : Bool) → (a || true) ≡ true
or_right true = refl
or_right false = refl

pub among_false : (heel up : ℕ) (ds : List ℤ) (n : ℕ) → fails_among heel up ds n ≡ false → (k : ℕ) → k < n → fails_at heel up ds k ≡ false
unfolding fails_among
among_false heel up ds zero e k h = absurd (omega arith)
among_false heel up ds (suc n) e k h =
    let t = or_false (fails_among heel up ds n) (fails_at heel up ds n) e in
    ⊎_elim (λ (f : k ≡ n). rw f t.1) (λ (l : k < n). among_false heel up ds n t.0 k l) (eq-or-lt_of_le {n = k} {m = n} (omega arith))

-- one of the first n that fails
record Failing (heel up : ℕ) (ds : List ℤ) (n : ℕ) : Type 0 where
  place : ℕ
  within : place < n
  fails : fails_at heel up ds place ≡ true

failing : (heel up : ℕ) (ds : List ℤ) (n : ℕ) → fails_among heel up ds n ≡ true → Failing heel up ds n
unfolding fails_among
failing heel up ds zero e = absurd (clash (sym e))
failing heel up ds (suc n) e =
    ⊎_elim
    (λ (f : fails_among heel up ds n ≡ true). let r = failing heel up ds n f in record { place = r.place; within = omega (arith, r.within); fails = r.fails })
    (λ (f : fails_at heel up ds n ≡ true). record { place = n; within = omega arith; fails = f })
    (or_either (fails_among heel up ds n) (fails_at heel up ds n) e)

-- ---- the test of 42 at the ten angles and at UPPER
abbrev pub ten_of : Basis → ℕ → ℤ
ten_of b k = get_or (diffs b) k (pos 0)

module _ (s : Ship) (b : Basis) where
  abbrev pub Fails : Type 0
  Fails = SomeAngleFails s b (verdict_of s b) (heel_limit s) (ten_of b) (diff_at (diffs b))

  pub named : fails_beyond (heel_limit s) (upper s.flood (diffs b)) (diffs b) ≡ true → Fails
  unfolding verdict_of
  named e = ⊎_elim ten up (or_either (fails_among (heel_limit s) (upper s.flood (diffs b)) (diffs b) 10) _ e)
    where
      ten : fails_among (heel_limit s) (upper s.flood (diffs b)) (diffs b) 10 ≡ true → Fails
      ten f =
          let u = upper s.flood (diffs b) in
          let r = failing (heel_limit s) u (diffs b) 10 f in
          let j = r.place in
          let t = and_true (ltb (heel_limit s) (angle j) && leb (angle j) u) (is_below (ten_of b j)) r.fails in
          let v = and_true (ltb (heel_limit s) (angle j)) (leb (angle j) u) t.0 in
          one_of_ten j r.within (rw (angle_is j) (ltb-true (heel_limit s) (angle j) v.0)) (rw (angle_is j) (leb-true (angle j) u v.1)) (lt_under (ten_of b j) (pos 0) t.1)

      up : (ltb (heel_limit s) (upper s.flood (diffs b)) && is_below (diff_at (diffs b) (upper s.flood (diffs b)))) ≡ true → Fails
      up f =
          let u = upper s.flood (diffs b) in
          let t = and_true (ltb (heel_limit s) u) (is_below (diff_at (diffs b) u)) f in
          at_upper (ltb-true (heel_limit s) u t.0) (lt_under (diff_at (diffs b) u) (pos 0) t.1)

  fails_true : Fails → fails_beyond (heel_limit s) (upper s.flood (diffs b)) (diffs b) ≡ true
  unfolding verdict_of
  fails_true (one_of_ten j h l r f) =
      let u = upper s.flood (diffs b) in
      let e : fails_at (heel_limit s) u (diffs b) j ≡ true = rw (lt-ltb (heel_limit s) (angle j) (rw (angle_is j) at l), le-leb (angle j) u (rw (angle_is j) at r), under_true (ten_of b j) (pos 0) f) refl in
      rw (sym (among_found (heel_limit s) u (diffs b) j 10 h e)) refl
  fails_true (at_upper l f) =
      let u = upper s.flood (diffs b) in
      rw (lt-ltb (heel_limit s) u l, under_true (diff_at (diffs b) u) (pos 0) f) (or_right (fails_among (heel_limit s) u (diffs b) 10))

  fails_false : (Fails → ⊥) → fails_beyond (heel_limit s) (upper s.flood (diffs b)) (diffs b) ≡ false
  fails_false n = go (fails_beyond (heel_limit s) (upper s.flood (diffs b)) (diffs b)) refl
    where
      go : (t : Bool) → fails_beyond (heel_limit s) (upper s.flood (diffs b)) (diffs b) ≡ t → fails_beyond (heel_limit s) (upper s.flood (diffs b)) (diffs b) ≡ false
      go true e = absurd (n (named e))
      go false e = e

-- ---- the code tells the judgement
decoded : ℕ → Judgement
decoded n =
    cond (eqb n 40) (Err ShortOfGm) (cond (eqb n 41) (Err ShortAtHeel) (cond (eqb n 42) (Err ShortBeyond) (cond (eqb n 43) (Err ShortOfArea) (Ok tt))))

decodes : (v : Judgement) → decoded (judgement_code v) ≡ v
unfolding decoded
decodes (Ok tt) = refl
decodes (Err ShortOfGm) = refl
decodes (Err ShortAtHeel) = refl
decodes (Err ShortBeyond) = refl
decodes (Err ShortOfArea) = refl

same_code : (v w : Judgement) → judgement_code v ≡ judgement_code w → v ≡ w
same_code v w e = sym (decodes v) ∙ ap decoded e ∙ decodes w

-- what holds of the judgement given holds of that which the code names
pub at : (F : Judgement → Type 0) (v w : Judgement) → F v → judgement_code v ≡ judgement_code w → F w
at F v w f e = subst F (same_code v w e) f

-- ---- the five codes
module _ (s : Ship) (b : Basis) where
  abbrev v : Verdict
  v = verdict_of s b

  abbrev None : Type 0
  None = NoneApplies s b (verdict_of s b) (heel_limit s) (ten_of b) (diff_at (diffs b))

  -- what the figures say at each judgement
  abbrev Shows : Judgement → Type 0
  Shows (Ok tt) = None × (429718347 ≤ v.area)
  Shows (Err ShortOfGm) = Under v.gm (pos 300000)
  Shows (Err ShortAtHeel) = AtMost (pos 300000) v.gm × Under v.diff (pos 0)
  Shows (Err ShortBeyond) = AtMost (pos 300000) v.gm × AtMost (pos 0) v.diff × Fails s b
  Shows (Err ShortOfArea) = None × (v.area < 429718347)

  none : lt_z (gm b) (pos 300000) ≡ false → is_below (diff_at (diffs b) (heel_limit s)) ≡ false → fails_beyond (heel_limit s) (upper s.flood (diffs b)) (diffs b) ≡ false → None
  unfolding verdict_of
  none e₁ e₂ e₃ =
      record {
        gm = nlt_most (gm b) (pos 300000) e₁;
        at_heel = nlt_most (diff_at (diffs b) (heel_limit s)) (pos 0) e₂;
        beyond = λ f. clash (sym (fails_true s b f) ∙ e₃);
      }

  cases : (t₁ t₂ t₃ t₄ : Bool) → lt_z (gm b) (pos 300000) ≡ t₁ → is_below (diff_at (diffs b) (heel_limit s)) ≡ t₂ → fails_beyond (heel_limit s) (upper s.flood (diffs b)) (diffs b) ≡ t₃ → ltb (area (diffs b) (upper s.flood (diffs b))) 429718347 ≡ t₄ → Shows (cond t₁ (Err ShortOfGm) (cond t₂ (Err ShortAtHeel) (cond t₃ (Err ShortBeyond) (cond t₄ (Err ShortOfArea) (Ok tt)))))
  unfolding verdict_of
  cases true t₂ t₃ t₄ e₁ e₂ e₃ e₄ = lt_under (gm b) (pos 300000) e₁
  cases false true t₃ t₄ e₁ e₂ e₃ e₄ = (nlt_most (gm b) (pos 300000) e₁, lt_under (diff_at (diffs b) (heel_limit s)) (pos 0) e₂)
  cases false false true t₄ e₁ e₂ e₃ e₄ = (nlt_most (gm b) (pos 300000) e₁, nlt_most (diff_at (diffs b) (heel_limit s)) (pos 0) e₂, named s b e₃)
  cases false false false true e₁ e₂ e₃ e₄ = (none e₁ e₂ e₃, ltb-true (area (diffs b) (upper s.flood (diffs b))) 429718347 e₄)
  cases false false false false e₁ e₂ e₃ e₄ = (none e₁ e₂ e₃, ltb-false (area (diffs b) (upper s.flood (diffs b))) 429718347 e₄)

  shows : Shows v.judgement
  unfolding verdict_of judged_by
  shows =
      cases (lt_z (gm b) (pos 300000)) (is_below (diff_at (diffs b) (heel_limit s))) (fails_beyond (heel_limit s) (upper s.flood (diffs b)) (diffs b)) (ltb (area (diffs b) (upper s.flood (diffs b))) 429718347)
      refl refl refl refl

  -- and the other way
  passes : AtMost (pos 300000) v.gm → AtMost (pos 0) v.diff → (lt_z (gm b) (pos 300000) ≡ false) × (is_below (diff_at (diffs b) (heel_limit s)) ≡ false)
  unfolding verdict_of
  passes g d = (most_false (gm b) (pos 300000) g, most_false (diff_at (diffs b) (heel_limit s)) (pos 0) d)

  given : (w : Judgement) → Shows w → v.judgement ≡ w
  unfolding verdict_of judged_by
  given (Err ShortOfGm) g = rw (under_true (gm b) (pos 300000) g) refl
  given (Err ShortAtHeel) (g, d) = rw (most_false (gm b) (pos 300000) g, under_true (diff_at (diffs b) (heel_limit s)) (pos 0) d) refl
  given (Err ShortBeyond) (g, d, f) =
      let t = passes g d in
      rw (t.0, t.1, fails_true s b f) refl
  given (Err ShortOfArea) (n, a) =
      let t = passes n.gm n.at_heel in
      rw (t.0, t.1, fails_false s b n.beyond, lt-ltb (area (diffs b) (upper s.flood (diffs b))) 429718347 a) refl
  given (Ok tt) (n, a) =
      let t = passes n.gm n.at_heel in
      rw (t.0, t.1, fails_false s b n.beyond, le-ltb (area (diffs b) (upper s.flood (diffs b))) 429718347 a) refl

  exactly : (w : Judgement) → (judgement_code v.judgement ≡ judgement_code w → Shows w) × (Shows w → judgement_code v.judgement ≡ judgement_code w)
  exactly w = (at Shows v.judgement w shows, λ f. ap judgement_code (given w f))

  pub codes : Codes s b (verdict_of s b) (heel_limit s) (ten_of b) (diff_at (diffs b))
  codes =
      record {
        is40 = exactly (Err ShortOfGm);
        is41 = exactly (Err ShortAtHeel);
        is42 = exactly (Err ShortBeyond);
        is43 = exactly (Err ShortOfArea);
        is00 = exactly (Ok tt);
      }

  one_of : (w : Judgement) → v.judgement ≡ w → OneOfFive s b (verdict_of s b) (heel_limit s) (ten_of b) (diff_at (diffs b))
  one_of (Ok tt) e = is00 (ap judgement_code e)
  one_of (Err ShortOfGm) e = is40 (ap judgement_code e)
  one_of (Err ShortAtHeel) e = is41 (ap judgement_code e)
  one_of (Err ShortBeyond) e = is42 (ap judgement_code e)
  one_of (Err ShortOfArea) e = is43 (ap judgement_code e)

  pub one_of_five : OneOfFive s b (verdict_of s b) (heel_limit s) (ten_of b) (diff_at (diffs b))
  one_of_five = one_of v.judgement refl
