-- Document 01, Codes, Judge, in its own words and numbers and in the order printed: where each of 30 to 34 is given, both ways. A code
-- stands where none printed before it applies. Demand 3 says the same of 00 and 40 to 43.
use Rattle.std.specs.Prelude.{◌≡◌, Some, None, ◌↔◌, ◌⊎◌, ℕ, ◌≤◌, ◌<◌, length, get_or}
use Rattle.record.specs.Held.{held, last_d}
use Rattle.record.specs.Filler.{no_column}
use Rattle.record.specs.declared.Load.{Load}
use Rattle.condition.specs.declared.Condition.{Condition}
use Rattle.condition.specs.Condition.{There}
use Rattle.total.specs.Total.{weight}
use Rattle.judging.specs.Judge.{judged_of, judged_code}
use Rattle.judging.specs.Complete.{InRanges, Ready}

pub record JudgeCodes (c : Condition) (code : ℕ) : Type 0 where
  pub thirty : (code ≡ 30) ↔ (c.ship ≡ None)
  pub thirty_one : (code ≡ 31) ↔ (There c.ship × (length (held c.columns) < 2))
  pub thirty_two : (code ≡ 32) ↔ (There c.ship × (2 ≤ length (held c.columns)) × (c.load ≡ None))
  pub thirty_three :
      (code ≡ 33)
      ↔ (There c.ship × (2 ≤ length (held c.columns)) × ((l : Load) × (c.load ≡ Some l) × ((l.d < (get_or (held c.columns) 0 no_column).d) ⊎ (last_d (held c.columns) < l.d))))
  pub thirty_four : (code ≡ 34) ↔ (Ready c × (1000000000 < weight c))

-- on every condition whose records and sums are in their ranges, and whose figure is true
abbrev pub CodesOfJudge : Type 0
CodesOfJudge = (c : Condition) → InRanges c → JudgeCodes c (judged_code (judged_of c))
