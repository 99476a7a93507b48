-- How large a verdict's figures are, so that their digits can be counted.
use Prim.Native.Nat.{ℕ, zero, suc, ◌*◌, ◌-◌, ◌/◌, ◌^◌, ◌≤◌, ◌<◌}
use native.Mathlib.Omega.{arith}
use native.Mathlib.Nat.{mul-le-mul_left}
use lib.ListN.{get_or}
use lib.IntN.{pos}
use Rattle.sign.specs.Sign.{plus, minus}
use Rattle.sign.proofs.Signs.{sub_reads}
use Rattle.whole.specs.Divide.{ceil_div}
use Rattle.whole.specs.Line.{round_down}
use Rattle.whole.proofs.Dividing.{ceil_le, floor_le}
use Rattle.whole.proofs.Lines.{line_le}
use Rattle.record.specs.declared.Ship.{Ship}
use Rattle.arms.specs.declared.Basis.{Basis}
use Rattle.arms.specs.Angles.{angle, width}
use Rattle.stability.specs.Verdict.{heel_limit, stretch_of, diff_at, verdict_of}
use Rattle.arms.specs.Arms.{span, past, fluid_kg, span_km, gm, diffs, plus_at, minus_at}
use Rattle.area.specs.Area.{area_over, counted}
use Rattle.arms.specs.Judgeable.{Judgeable}
use Rattle.arms.proofs.Bounds.{column_bounds, span_some, past_le, fluid_le, diffs_bounded}
use Rattle.arms.proofs.Tens.{width_le, width_some}
use Rattle.stability.proofs.Stretch.{stretch_is}
use Rattle.stability.proofs.Covers.{heel_is, upper_le}
use Rattle.area.proofs.Stretches.{part_le}

-- a quotient rounded down of numbers up to k times the divisor
rounded_le : (p m h k : ℕ) → 0 < h → p ≤ k * h → m ≤ k * h → (plus (round_down p m h) ≤ k) × (minus (round_down p m h) ≤ k)
rounded_le p m h k s a b =
    let r = sub_reads ((p - m) / h) (ceil_div (m - p) h) in
    (omega (arith, r.pluses, floor_le (p - m) h k s (omega arith)), omega (arith, r.minuses, ceil_le (m - p) h k s (omega arith)))

module _ (b : Basis) (jd : Judgeable b) where
  gm_le : (plus (gm b) ≤ 60000000) × (minus (gm b) ≤ 60000000)
  unfolding gm
  gm_le =
      let h = span b in
      let l = line_le h (past b) b.low.km b.high.km 50000 (past_le b jd) (column_bounds b.low jd.low).km (column_bounds b.high jd.high).km in
      rounded_le (span_km b) (1000 * fluid_kg b * h) h 60000000 (span_some b jd) (omega arith) (omega (arith, mul-le-mul_left h (fluid_le b jd)))

  -- DIFF at a whole angle up to 40 degrees
  diff_le : (x : ℕ) → x ≤ 4000 → (plus (diff_at (diffs b) x) ≤ 2 ^ 34) × (minus (diff_at (diffs b) x) ≤ 2 ^ 34)
  unfolding diff_at
  diff_le x h =
      let s = stretch_is x h in
      let i = stretch_of x in
      let d = diffs_bounded b jd in
      let p = line_le (width i) (x - angle i) (plus_at (diffs b) i) (plus_at (diffs b) (suc i)) (2 ^ 34) (omega (arith, s.to)) (omega (arith, d.above i (omega (arith, s.within)))) (omega (arith, d.above (suc i) (omega (arith, s.within)))) in
      let m = line_le (width i) (x - angle i) (minus_at (diffs b) i) (minus_at (diffs b) (suc i)) (2 ^ 34) (omega (arith, s.to)) (d.below i (omega (arith, s.within))) (d.below (suc i) (omega (arith, s.within))) in
      rounded_le _ _ (width i) (2 ^ 34) (width_some i s.within) p m

  area_le : (u n : ℕ) → n ≤ 9 → area_over (plus_at (diffs b)) (minus_at (diffs b)) u n ≤ n * 2 ^ 36
  unfolding area_over
  area_le u zero h = omega arith
  area_le u (suc n) h =
      let d = diffs_bounded b jd in
      let w = width_some n (omega arith) in
      let p = part_le (width n) (counted u n) (get_or (diffs b) n (pos 0)) (get_or (diffs b) (suc n) (pos 0)) (omega arith) w (width_le n (omega arith)) (record { above = d.above n (omega arith); below = d.below n (omega arith) }) (record { above = d.above (suc n) (omega arith); below = d.below (suc n) (omega arith) }) in
      omega (arith, area_le u n (omega arith), p)

  -- all figures of a verdict
  pub record FigureBounds (s : Ship) : Type 0 where
    pub gm_above : plus (verdict_of s b).gm ≤ 2 ^ 34
    pub gm_below : minus (verdict_of s b).gm ≤ 2 ^ 34
    pub diff_above : plus (verdict_of s b).diff ≤ 2 ^ 34
    pub diff_below : minus (verdict_of s b).diff ≤ 2 ^ 34
    pub upper : (verdict_of s b).upper ≤ 4000
    pub area : (verdict_of s b).area ≤ 2 ^ 40

  pub sizes : (s : Ship) → FigureBounds s
  unfolding verdict_of
  sizes s =
      let g = gm_le in
      let d = diff_le (heel_limit s) (omega (arith, (heel_is s).most)) in
      record {
        gm_above = omega (arith, g.0);
        gm_below = omega (arith, g.1);
        diff_above = d.0;
        diff_below = d.1;
        upper = upper_le s b;
        area = omega (arith, area_le (verdict_of s b).upper 9 (omega arith));
      }
