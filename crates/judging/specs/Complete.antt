-- Documents 01 and 02, in their numbers: a condition whose records and sums are in their ranges and whose figure is true, one that judge is ready for, and one that is complete.
use Rattle.std.specs.Prelude.{◌≡◌, Some, ℕ, ◌+◌, ◌≤◌, ◌<◌, length, get_or}
use Rattle.record.specs.Held.{held, last_d}
use Rattle.record.specs.Filler.{no_column, no_part, no_hold}
use Rattle.record.specs.declared.Ship.{Ship}
use Rattle.record.specs.declared.Load.{Load}
use Rattle.limits.specs.Ranges.{ShipRange, LoadRange, ColumnRange, HoldRange}
use Rattle.grain.specs.Figures.{HoldFits}
use Rattle.weights.specs.Items.{SumsRange}
use Rattle.condition.specs.declared.Condition.{Condition}
use Rattle.total.specs.Total.{weight}

-- array lengths as the type has them, and no more columns than places
pub record Places (c : Condition) : Type 0 where
  pub hold_places : length c.holds ≡ 16
  pub column_places : length c.columns.places ≡ 20
  pub column_count : c.columns.count ≤ 20
  pub kn_places : (i : ℕ) → i < c.columns.count → length (get_or c.columns.places i no_column).kn ≡ 10
  pub part_places : (n : ℕ) → n < 16 → length (get_or c.holds n no_hold).parts ≡ 6
  pub cell_places : (n : ℕ) → n < 16 → (i : ℕ) → i < 6 → length (get_or (get_or c.holds n no_hold).parts i no_part).cells ≡ 8

-- each record in its ranges, each D above the one before, every void fits, the stored figure is the sum over the holds, and the sums of the
-- weight items are in their range
pub record InRanges (c : Condition) : Type 0 where
  pub ship : (s : Ship) → c.ship ≡ Some s → ShipRange s
  pub load : (l : Load) → c.load ≡ Some l → LoadRange l
  pub columns : (i : ℕ) → i < length (held c.columns) → ColumnRange (get_or (held c.columns) i no_column)
  pub rising :
      (i : ℕ) → i + 1 < length (held c.columns) →
      (get_or (held c.columns) i no_column).d < (get_or (held c.columns) (i + 1) no_column).d
  pub holds :
      (n : ℕ) → n < 16 → 0 < (get_or c.holds n no_hold).head.count →
      HoldRange (get_or c.holds n no_hold) × HoldFits (get_or c.holds n no_hold)
  pub total : c.total ≡ weight c
  pub sums : SumsRange c.sums

-- none of 30 to 33 applies, each said by its own words: a ship; two columns; a load; D neither below the first nor above the last
-- column
pub record Ready (c : Condition) : Type 0 where
  pub ship : Ship
  pub shipped : c.ship ≡ Some ship
  pub columns : 2 ≤ length (held c.columns)
  pub load : Load
  pub loaded : c.load ≡ Some load
  pub from_first : (get_or (held c.columns) 0 no_column).d ≤ load.d
  pub to_last : load.d ≤ last_d (held c.columns)

-- and 34 does not either: weight moments together at most 1,000,000,000
pub record Complete (c : Condition) : Type 0 where
  pub ready : Ready c
  pub weights : weight c ≤ 1000000000
