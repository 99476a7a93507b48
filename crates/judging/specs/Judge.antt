-- Document 01, Judge: codes 30 to 34, and the verdict; W is the stored figure (document 02, P4), which is the sum over the holds in every
-- condition within its limits. Where a stored record is outside its limits, which lines cannot bring about, the paper leaves the answer
-- free: such a ship or load counts as none (30, 32), such columns as too few (31), and of the holds the figure alone is asked.
use Rattle.std.specs.Prelude.{◌≡◌, true, cond, not, ◌&&◌, Option, Some, None, Result, Ok, Err, ℕ, suc, leb, length, get_or}
use Rattle.record.specs.declared.Ship.{Ship}
use Rattle.record.specs.declared.Load.{Load}
use Rattle.limits.specs.Limits.{ship_limits, load_limits}
use Rattle.record.specs.Held.{held}
use Rattle.record.specs.Filler.{no_column}
use Rattle.columns.specs.Columns.{in_order}
use Rattle.arms.specs.declared.Basis.{Basis}
use Rattle.columns.specs.Search.{columns_around}
use Rattle.stability.specs.declared.Verdict.{Verdict}
use Rattle.stability.specs.Verdict.{judgement_code, verdict_of}
use Rattle.condition.specs.declared.Condition.{Condition}
use Rattle.judging.specs.declared.NotJudged.{NotJudged}
use Rattle.judging.specs.declared.NotJudged.TheVariants.{NoShip, FewColumns, NoLoad, OutsideColumns, TooHeavy}

-- weight moments together above this are refused (34)
abbrev pub greatest_weight : ℕ
greatest_weight = 1000000000

-- what the arms are read from, with a load and the two columns from the i-th on
abbrev pub basis_at : Condition → Load → ℕ → Basis
basis_at c l i =
    record {
      low = get_or (held c.columns) i no_column;
      high = get_or (held c.columns) (suc i) no_column;
      load = l;
      weight = c.total;
    }

-- what judge answers: the verdict, or why there is none
abbrev pub Judged : Type 0
Judged = Result Verdict NotJudged

-- with the columns around D found: 34, or the verdict
abbrev pub judged_at : Condition → Ship → Load → Option ℕ → Judged
judged_at c s l None = Err OutsideColumns
judged_at c s l (Some i) = cond (leb c.total greatest_weight) (Ok (verdict_of s (basis_at c l i))) (Err TooHeavy)

-- by the load: 32
abbrev pub judged_load : Condition → Ship → Option Load → Judged
judged_load c s None = Err NoLoad
judged_load c s (Some l) = cond (not (load_limits l)) (Err NoLoad) (judged_at c s l (columns_around l.d (held c.columns)))

-- by the ship: 30, and 31
abbrev pub judged_ship : Condition → Option Ship → Judged
judged_ship c None = Err NoShip
judged_ship c (Some s) =
    cond (not (ship_limits s)) (Err NoShip)
    (cond (not (leb 2 (length (held c.columns)) && in_order (held c.columns))) (Err FewColumns) (judged_load c s c.load))

unfoldable pub judged_of : Condition → Judged
judged_of c = judged_ship c c.ship

-- the code of each refusal, and of judge's answer
abbrev pub refusal_code : NotJudged → ℕ
refusal_code NoShip = 30
refusal_code FewColumns = 31
refusal_code NoLoad = 32
refusal_code OutsideColumns = 33
refusal_code TooHeavy = 34

abbrev pub judged_code : Judged → ℕ
judged_code (Ok v) = judgement_code v.judgement
judged_code (Err r) = refusal_code r

-- what judge knows before it asks for the weight: the columns i and i + 1 around D, all columns in order, a load within its limits
pub record Between (c : Condition) (l : Load) (i : ℕ) : Type 0 where
  pub places : length c.columns.places ≡ 20
  pub ordered : in_order (held c.columns) ≡ true
  pub around : columns_around l.d (held c.columns) ≡ Some i
  pub load : load_limits l ≡ true
