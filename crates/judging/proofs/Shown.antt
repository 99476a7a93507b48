-- Judge's answer is a refusal with 30 to 34 or the verdict between two neighbouring columns; the upper angle of a verdict is at most 40
-- degrees, so that its reply fits.
use mathlib.Core.Path.{◌≡◌, refl}
use mathlib.Core.Bool.{Bool, true, false, cond, not, ◌&&◌}
use mathlib.Core.List.{List, [], ◌∷◌}
use Prim.Native.Nat.{ℕ, ◌≤◌}
use native.Mathlib.Omega.{arith}
use lib.Dec.{leb}
use lib.ListN.{length}
use Rattle.whole.specs.Lists.{is_one_of}
use Rattle.limits.specs.Limits.{ship_limits, load_limits}
use Rattle.record.specs.declared.Ship.{Ship}
use Rattle.record.specs.declared.Load.{Load}
use Rattle.record.specs.Held.{held}
use Rattle.columns.specs.Columns.{in_order}
use Rattle.stability.specs.declared.Verdict.{Verdict}
use Rattle.std.specs.Prelude.{Option, Some, None, Ok, Err}
use Rattle.columns.specs.Search.{columns_around}
use Rattle.stability.specs.Verdict.{verdict_of}
use Rattle.stability.proofs.Covers.{upper_le}
use Rattle.condition.specs.declared.Condition.{Condition}
use Rattle.judging.specs.declared.NotJudged.{NotJudged}
use Rattle.judging.specs.declared.NotJudged.TheVariants.{NoShip, FewColumns, NoLoad, OutsideColumns, TooHeavy}
use Rattle.judging.specs.Judge.{Judged, greatest_weight, basis_at, judged_at, judged_load, judged_ship, judged_of, refusal_code}

-- judge's refusals
abbrev pub refusals : List ℕ
refusals = 30 ∷ 31 ∷ 32 ∷ 33 ∷ 34 ∷ []

pub refusal_listed : (r : NotJudged) → is_one_of refusals (refusal_code r) ≡ true
unfolding is_one_of
refusal_listed NoShip = refl
refusal_listed FewColumns = refl
refusal_listed NoLoad = refl
refusal_listed OutsideColumns = refl
refusal_listed TooHeavy = refl

-- what every refusal and every verdict has, judge's answer has
module _ (c : Condition) (P : Judged → Type 0) (refusal : (r : NotJudged) → P (Err r)) (given : (s : Ship) (l : Load) (i : ℕ) → P (Ok (verdict_of s (basis_at c l i)))) where
  by_test : (x : Bool) {a b : Judged} → P a → P b → P (cond x a b)
  by_test true p q = p
  by_test false p q = q

  by_around : (s : Ship) (l : Load) (a : Option ℕ) → P (judged_at c s l a)
  by_around s l None = refusal OutsideColumns
  by_around s l (Some i) = by_test (leb c.total greatest_weight) (given s l i) (refusal TooHeavy)

  by_load : (s : Ship) (o : Option Load) → P (judged_load c s o)
  by_load s None = refusal NoLoad
  by_load s (Some l) = by_test (not (load_limits l)) (refusal NoLoad) (by_around s l (columns_around l.d (held c.columns)))

  by_ship : (o : Option Ship) → P (judged_ship c o)
  by_ship None = refusal NoShip
  by_ship (Some s) =
      by_test (not (ship_limits s)) (refusal NoShip)
      (by_test (not (leb 2 (length (held c.columns)) && in_order (held c.columns))) (refusal FewColumns) (by_load s c.load))

  pub judged_by_lem : P (judged_of c)
  unfolding judged_of
  judged_by_lem = by_ship c.ship

pub upper_shown_lem : (c : Condition) (v : Verdict) → judged_of c ≡ Ok v → v.upper ≤ 4000
upper_shown_lem c =
    judged_by_lem c (λ (j : Judged). (v : Verdict) → j ≡ Ok v → v.upper ≤ 4000)
    (λ r v e. let z : ◌≡◌ {A = ℕ} 0 1 = cc in absurd (omega arith))
    (λ s l i v e. let g : v ≡ verdict_of s (basis_at c l i) = cc in rw g (upper_le s (basis_at c l i)))
