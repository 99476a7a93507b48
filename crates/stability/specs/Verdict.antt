-- Document 01, the verdict: DIFF between the ten angles, UPPER, and codes 40 to 43 in their order.
use Rattle.std.specs.Prelude.{Bool, false, cond, ◌&&◌, ◌||◌, List, [], ◌∷◌, ℕ, zero, suc, ◌-◌, ◌≤◌, ◌<◌, min, leb, ltb, length, get_or, ℤ, pos, Result, Ok, Err}
use Rattle.std.specs.Int.Signed.{lt_z}
use Rattle.sign.specs.Sign.{AtMost, Under}
use Rattle.whole.specs.Line.{line_at}
use Rattle.record.specs.declared.Rule.{Rule}
use Rattle.record.specs.declared.Rule.TheVariants.{New, Old}
use Rattle.record.specs.declared.Ship.{Ship}
use Rattle.arms.specs.declared.Basis.{Basis}
use Rattle.stability.specs.declared.Shortfall.{Shortfall}
use Rattle.stability.specs.declared.Shortfall.TheVariants.{ShortOfGm, ShortAtHeel, ShortBeyond, ShortOfArea}
use Rattle.stability.specs.declared.Verdict.{Verdict}
use Rattle.arms.specs.Angles.{angle, width}
use Rattle.arms.specs.Arms.{gm, diffs}
use Rattle.area.specs.Area.{area}

-- under `new`, EDGE; under `old` no angle
abbrev pub at_most_edge : Rule → ℕ → ℕ
at_most_edge (New edge) x = min x edge
at_most_edge (Old edge) x = x

-- the greatest heel, 12 degrees
abbrev pub greatest_heel : ℕ
greatest_heel = 1200

-- the heel limit: that; under `new`, EDGE if smaller
abbrev pub heel_limit : Ship → ℕ
heel_limit s = at_most_edge s.rule greatest_heel

-- the greatest k from 1 to n with the k-th angle below x, or 0
unfoldable pub angles_below : (n x : ℕ) → ℕ
angles_below zero x = 0
angles_below (suc n) x = cond (ltb (angle (suc n)) x) (suc n) (angles_below n x)

-- the stretch in which the angle x lies: that which begins at the last of the ten angles below x, or the first stretch
abbrev pub stretch_of : ℕ → ℕ
stretch_of x = angles_below 8 x

-- the plain rule of the stretch: x lies between its two angles (`stretch_is`, proofs/Stretch.antt)
pub record Stretch (x i : ℕ) : Type 0 where
  pub within : i < 9
  pub from : angle i ≤ x
  pub to : x ≤ angle (suc i)

abbrev pub StretchRule : Type 0
StretchRule = (x : ℕ) → x ≤ 4000 → Stretch x (stretch_of x)

-- DIFF at the angle x: on the straight line of its stretch, rounded down
unfoldable pub diff_at : List ℤ → ℕ → ℤ
diff_at ds x =
    line_at (width (stretch_of x)) (x - angle (stretch_of x)) (get_or ds (stretch_of x) (pos 0)) (get_or ds (suc (stretch_of x)) (pos 0))

-- in front of ds, greatest at the place j, stands d: the place of the greatest of all
abbrev pub greater : ℤ → List ℤ → ℕ → ℕ
greater d ds j = cond (lt_z d (get_or ds j d)) (suc j) 0

-- the least place at which a list is greatest
unfoldable pub peak : List ℤ → ℕ
peak [] = 0
peak (d ∷ ds) = greater d ds (peak ds)

-- r is the least of the first n places at which they are greatest
pub record Peak (ds : List ℤ) (n r : ℕ) : Type 0 where
  pub within : r < n
  pub greatest : (k : ℕ) → k < n → AtMost (get_or ds k (pos 0)) (get_or ds r (pos 0))
  pub least : (k : ℕ) → k < r → Under (get_or ds k (pos 0)) (get_or ds r (pos 0))

-- the plain rule of the peak: none is greater, and all before it are smaller (`peak_is`, proofs/Peaks.antt)
abbrev pub PeakRule : Type 0
PeakRule = (ds : List ℤ) → 0 < length ds → Peak ds (length ds) (peak ds)

-- UPPER: the least of the ten angles at which DIFF is greatest, or FLOOD if smaller
abbrev pub upper : ℕ → List ℤ → ℕ
upper flood ds = min flood (angle (peak ds))

-- a figure below zero
abbrev pub is_below : ℤ → Bool
is_below z = lt_z z (pos 0)

-- 42 at the k-th of the ten angles: above the heel limit, not above UPPER, and DIFF below zero
abbrev pub fails_at : (heel upper : ℕ) → List ℤ → ℕ → Bool
fails_at heel up ds k = ltb heel (angle k) && leb (angle k) up && is_below (get_or ds k (pos 0))

-- at one of the first n of them
unfoldable pub fails_among : (heel upper : ℕ) → List ℤ → ℕ → Bool
fails_among heel up ds zero = false
fails_among heel up ds (suc n) = fails_among heel up ds n || fails_at heel up ds n

-- 42: at one of the ten angles, or at UPPER itself if that is above the heel limit
abbrev pub fails_beyond : (heel upper : ℕ) → List ℤ → Bool
fails_beyond heel up ds = fails_among heel up ds 10 || ltb heel up && is_below (diff_at ds up)

-- the least GM, in µm, and the least area, in µm times hundredths of a degree: 0.075 metre-radian, rounded up
abbrev pub least_gm : ℕ
least_gm = 300000

abbrev pub least_area : ℕ
least_area = 429718347

-- what the tests find: she passes, or the first that fails
abbrev pub Judgement : Type 0
Judgement = Result (Unit {0}) Shortfall

-- the first test that fails: of GM, of DIFF at the heel limit, at the angles of 42, and of AREA
unfoldable pub judged_by : (gm diff : ℤ) → (beyond : Bool) → (area : ℕ) → Judgement
judged_by gm diff beyond area =
    cond (lt_z gm (pos least_gm)) (Err ShortOfGm)
    (cond (is_below diff) (Err ShortAtHeel)
    (cond beyond (Err ShortBeyond)
    (cond (ltb area least_area) (Err ShortOfArea) (Ok tt))))

-- the code of each test that fails, and of a judgement
abbrev pub shortfall_code : Shortfall → ℕ
shortfall_code ShortOfGm = 40
shortfall_code ShortAtHeel = 41
shortfall_code ShortBeyond = 42
shortfall_code ShortOfArea = 43

abbrev pub judgement_code : Judgement → ℕ
judgement_code (Ok u) = 0
judgement_code (Err why) = shortfall_code why

-- the verdict on figures made from GM and the ten DIFFs, with the DIFF at the heel limit
abbrev pub verdict_from : (heel upper : ℕ) → ℤ → List ℤ → Verdict
verdict_from heel up g ds =
    record {
      judgement = judged_by g (diff_at ds heel) (fails_beyond heel up ds) (area ds up);
      gm = g;
      diff = diff_at ds heel;
      upper = up;
      area = area ds up;
    }

unfoldable pub verdict_of : Ship → Basis → Verdict
verdict_of s b = verdict_from (heel_limit s) (upper s.flood (diffs b)) (gm b) (diffs b)
