-- How large the figures of a basis within its limits are.
use mathlib.Core.Path.{◌≡◌, ap₂, ◌∙◌}
use mathlib.Core.Bool.{true, ◌&&◌}
use mathlib.Core.List.{List}
use Prim.Native.Nat.{ℕ, ◌+◌, ◌*◌, ◌-◌, ◌≤◌, ◌<◌}
use native.Mathlib.Omega.{arith}
use native.Mathlib.Nat.{mul-le-mul, mul-le-mul_left, div-le_of_le-mul}
use lib.Dec.{eqb}
use lib.ListN.{length, get_or}
use lib.IntN.{ℤ, pos}
use Rattle.whole.specs.Lists.{within, all}
use Rattle.sign.specs.Sign.{plus, minus}
use Rattle.whole.proofs.Lists.{and_true, Within, within_true, all_at, tabulate_at, tabulate_length, filled_is}
use Rattle.sign.proofs.Signs.{sub_reads}
use Rattle.whole.proofs.Lines.{line_le}
use Rattle.whole.proofs.Dividing.{ceil_le, floor_le}
use Rattle.record.specs.declared.Column.{Column}
use Rattle.record.specs.declared.Load.{Load}
use Rattle.limits.specs.Limits.{displacement, column_limits, load_limits}
use Rattle.arms.specs.declared.Basis.{Basis}
use Rattle.arms.specs.Angles.{angle}
use Rattle.arms.specs.Arms.{span, past, fluid_kg, kn_arm, kg_arm, righting_arm, heeling_arm, diff, righting_arms, heeling_arms, diffs}
use Rattle.arms.specs.Walk.{left_over, left_overs, Small, Bounded}
use Rattle.arms.specs.Judgeable.{Judgeable}
use Rattle.arms.proofs.Tens.{sine_le, diff_reads}

pub record ColumnBounds (k : Column) : Type 0 where
  pub d : Within 100 400000 k.d
  pub km : k.km ≤ 50000
  pub kn : all (within 0 50000) k.kn ≡ true

pub column_bounds : (k : Column) → column_limits k ≡ true → ColumnBounds k
unfolding column_limits
column_bounds k e =
    let t = and_true (displacement k.d && within 1 50000 k.km && eqb (get_or k.kn 0 0) 0) (all (within 0 50000) k.kn) e in
    let u = and_true (displacement k.d && within 1 50000 k.km) (eqb (get_or k.kn 0 0) 0) t.0 in
    let v = and_true (displacement k.d) (within 1 50000 k.km) u.0 in
    record {
      d = within_true 100 400000 k.d v.0;
      km = (within_true 1 50000 k.km v.1).high;
      kn = t.1;
    }

pub value_le : (k : Column) → column_limits k ≡ true → length k.kn ≡ 10 → (i : ℕ) → i < 10 → get_or k.kn i 0 ≤ 50000
value_le k e l i h =
    (within_true 0 50000 (get_or k.kn i 0) (all_at (within 0 50000) k.kn i 0 (column_bounds k e).kn (omega arith))).high

pub record LoadBounds (l : Load) : Type 0 where
  pub d : Within 100 400000 l.d
  pub fluid : l.kg + l.fs ≤ 60000

pub load_bounds : (l : Load) → load_limits l ≡ true → LoadBounds l
unfolding load_limits
load_bounds l e =
    let t = and_true (displacement l.d && within 1 50000 l.kg) (within 0 10000 l.fs) e in
    let u = and_true (displacement l.d) (within 1 50000 l.kg) t.0 in
    let k = (within_true 1 50000 l.kg u.1).high in
    let f = (within_true 0 10000 l.fs t.1).high in
    record { d = within_true 100 400000 l.d u.0; fluid = omega arith }

module _ (b : Basis) (j : Judgeable b) where
  pub span_some : 0 < span b
  span_some = omega (arith, j.apart)

  pub span_le : span b ≤ 400000
  span_le = omega (arith, (column_bounds b.high j.high).d.high)

  pub past_le : past b ≤ span b
  past_le = omega (arith, j.to, j.from)

  pub fluid_le : fluid_kg b ≤ 60000
  fluid_le = (load_bounds b.load j.load).fluid

  module _ (k : ℕ) (h : k < 10) where
    -- KN is at most 50,000 mm, fluid KG × sine at most 38,568 mm, the heeling arm at most 10,000 m: 1,000,000,000 kg·m
    -- over 100 tonnes
    pub kn_le : kn_arm b k ≤ 50000000
    unfolding kn_arm
    kn_le =
        let l = line_le (span b) (past b) (get_or b.low.kn k 0) (get_or b.high.kn k 0) 50000 past_le (value_le b.low j.low j.ten_low k h) (value_le b.high j.high j.ten_high k h) in
        div-le_of_le-mul (span b) (omega (arith, l))

    pub kg_le : kg_arm b k ≤ 40000000
    unfolding kg_arm
    kg_le = omega (arith, mul-le-mul fluid_le (sine_le k h))

    pub heeling_le : heeling_arm b k ≤ 10000000000
    unfolding heeling_arm
    heeling_le =
        let d = (load_bounds b.load j.load).d.low in
        let w = mul-le-mul j.weight (less (angle k)) in
        let some : 0 < 20000 * b.load.d = omega arith in
        let top : 1000 * b.weight * (20000 - angle k) ≤ 10000000000 * (20000 * b.load.d) = omega (arith, w, mul-le-mul_left 20000 d) in
        -- (`floor_le` serves a must-fail edit: with the arm rounded down this bound still holds, and a law is what fails)
        search (ceil_le, floor_le)
      where
        less : (a : ℕ) → 20000 - a ≤ 20000
        less a = omega arith

    pub diff_plus : plus (get_or (diffs b) k (pos 0)) ≤ 50000000
    diff_plus = omega (arith, (diff_reads b k h).pluses, kn_le)

    pub diff_minus : minus (get_or (diffs b) k (pos 0)) ≤ 10040000000
    diff_minus = omega (arith, (diff_reads b k h).minuses, kg_le, heeling_le)

  -- the arrays of arms can be subtracted, and their differences are the ten DIFFs
  arms_small : Small (righting_arms b) (heeling_arms b)
  unfolding righting_arm
  arms_small =
      record {
        above = λ k h. rw (tabulate_at 10 (righting_arm b) k (pos 0) h) (omega (arith, (sub_reads (kn_arm b k) (kg_arm b k)).pluses, kn_le k h));
        below = λ k h. rw (tabulate_at 10 (righting_arm b) k (pos 0) h) (omega (arith, (sub_reads (kn_arm b k) (kg_arm b k)).minuses, kg_le k h));
        heeling = λ k h. rw (tabulate_at 10 (heeling_arm b) k 0 h) (omega (arith, heeling_le k h));
      }

  pub diffs_bounded : Bounded (diffs b)
  diffs_bounded = record { above = λ k h. omega (arith, diff_plus k h); below = λ k h. omega (arith, diff_minus k h) }

left_overs_are : (b : Basis) → left_overs (righting_arms b) (heeling_arms b) ≡ diffs b
unfolding diff
left_overs_are b =
    filled_is (pos 0) 10 (diff b) (left_overs (righting_arms b) (heeling_arms b)) (tabulate_length 10 _)
    (λ k h. tabulate_at 10 _ k (pos 0) h ∙ ap₂ left_over (tabulate_at 10 (righting_arm b) k (pos 0) h) (tabulate_at 10 (heeling_arm b) k 0 h))

-- the same of the arrays that a program makes
module _ (b : Basis) {rs : List ℤ} {hs : List ℕ} (e : rs ≡ righting_arms b) (f : hs ≡ heeling_arms b) where
  pub made_small : Judgeable b → Small rs hs
  made_small j = rw (e, f) (arms_small b j)

  pub made_are : {ds : List ℤ} → ds ≡ left_overs rs hs → ds ≡ diffs b
  made_are g = g ∙ ap₂ left_overs e f ∙ left_overs_are b

  pub made_bounded : {ds : List ℤ} → Judgeable b → ds ≡ left_overs rs hs → Bounded ds
  made_bounded j g = rw (made_are g) (diffs_bounded b j)
