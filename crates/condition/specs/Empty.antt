-- Document 01: clear empties everything; document 02, P5: weight items too. What an empty condition holds, by its fields.
use Rattle.std.specs.Prelude.{◌≡◌, None, ℕ, ◌-◌, ◌≤◌, length, get_or}
use Rattle.record.specs.Held.{held}
use Rattle.record.specs.Filler.{no_hold}
use Rattle.condition.specs.declared.Condition.{Condition}

-- no ship, no load, no column, no hold in any of the sixteen places, no weight moment, and no weight items
pub record Nothing (c : Condition) : Type 0 where
  pub ship : c.ship ≡ None
  pub load : c.load ≡ None
  pub columns : length (held c.columns) ≡ 0
  pub holds : (n : ℕ) → 1 ≤ n → n ≤ 16 → (get_or c.holds (n - 1) no_hold).head.count ≡ 0
  pub total : c.total ≡ 0
  pub tonnes : c.sums.tonnes ≡ 0
  pub products : c.sums.products ≡ 0
