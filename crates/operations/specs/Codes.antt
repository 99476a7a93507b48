-- Documents 01 and 02, Codes, by operation, in their own words and numbers and in the order printed: where each code of an operation but judge is
-- given, both ways. A code stands where none printed before it in its operation applies.
use Rattle.std.specs.Prelude.{◌≡◌, List, ◌↔◌, ℕ, ◌+◌, ◌-◌, ◌≤◌, ◌<◌, length, get_or}
use Rattle.record.specs.declared.Column.{Column}
use Rattle.record.specs.declared.Hold.{Hold}
use Rattle.record.specs.declared.WeightItem.{WeightItem}
use Rattle.record.specs.Held.{last_d}
use Rattle.record.specs.Filler.{no_hold}
use Rattle.limits.specs.Ranges.{ColumnRange, HoldRange, PlaceRange, ItemRange, RiseRange}
use Rattle.grain.specs.Figures.{HoldFits}
use Rattle.condition.specs.declared.Condition.{Condition}

-- ---- Ship, load: 20
pub record LimitCodes (within : Type 0) (code : ℕ) : Type 0 where
  pub twenty : (code ≡ 20) ↔ (within → ⊥)
  pub taken : (code ≡ 0) ↔ within

-- ---- Column: 20, 23, 22
pub record ColumnCodes (ks : List Column) (k : Column) (code : ℕ) : Type 0 where
  pub twenty : (code ≡ 20) ↔ (ColumnRange k → ⊥)
  pub twenty_three : (code ≡ 23) ↔ (ColumnRange k × (20 ≤ length ks))
  pub twenty_two : (code ≡ 22) ↔ (ColumnRange k × (length ks < 20) × (0 < length ks) × (k.d ≤ last_d ks))
  pub taken : (code ≡ 0) ↔ (ColumnRange k × (length ks < 20) × (0 < length ks → last_d ks < k.d))

-- ---- Hold: 20, 21
pub record HoldCodes (n : ℕ) (h : Hold) (code : ℕ) : Type 0 where
  pub twenty : (code ≡ 20) ↔ (PlaceRange n × HoldRange h → ⊥)
  pub twenty_one : (code ≡ 21) ↔ ((PlaceRange n × HoldRange h) × (HoldFits h → ⊥))
  pub taken : (code ≡ 0) ↔ ((PlaceRange n × HoldRange h) × HoldFits h)

-- ---- Drop: 20, 24
pub record DropCodes (c : Condition) (n code : ℕ) : Type 0 where
  pub twenty : (code ≡ 20) ↔ (PlaceRange n → ⊥)
  pub twenty_four : (code ≡ 24) ↔ (PlaceRange n × (0 < (get_or c.holds (n - 1) no_hold).head.count → ⊥))
  pub taken : (code ≡ 0) ↔ (PlaceRange n × (0 < (get_or c.holds (n - 1) no_hold).head.count))

-- ---- Weight: 20, 26, the sum would pass 400,000
pub record WeightCodes (c : Condition) (i : WeightItem) (code : ℕ) : Type 0 where
  pub twenty : (code ≡ 20) ↔ (ItemRange i → ⊥)
  pub twenty_six : (code ≡ 26) ↔ (ItemRange i × (400000 < c.sums.tonnes + i.tonnes))
  pub taken : (code ≡ 0) ↔ (ItemRange i × (c.sums.tonnes + i.tonnes ≤ 400000))

-- ---- Weighed: 20, 27, a sum under 100
pub record WeighedCodes (c : Condition) (fs code : ℕ) : Type 0 where
  pub twenty : (code ≡ 20) ↔ (RiseRange fs → ⊥)
  pub twenty_seven : (code ≡ 27) ↔ (RiseRange fs × (c.sums.tonnes < 100))
  pub taken : (code ≡ 0) ↔ (RiseRange fs × (100 ≤ c.sums.tonnes))
