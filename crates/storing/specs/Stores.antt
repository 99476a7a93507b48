-- What an operation that is taken leaves behind, field by field: its own record in its place, everything else as it was.
use Rattle.std.specs.Prelude.{◌≡◌, Some, [], ◌∷◌, ◌++◌, ℕ, ◌+◌, ◌*◌, ◌-◌, ◌≤◌, ◌<◌, length, get_or}
use Rattle.record.specs.declared.Ship.{Ship}
use Rattle.record.specs.declared.Load.{Load}
use Rattle.record.specs.declared.Column.{Column}
use Rattle.record.specs.declared.Hold.{Hold}
use Rattle.record.specs.declared.WeightItem.{WeightItem}
use Rattle.record.specs.Held.{held}
use Rattle.record.specs.Filler.{no_hold}
use Rattle.weights.specs.Items.{SumsRange, KgOf}
use Rattle.condition.specs.declared.Condition.{Condition}

abbrev pub SameShip : Condition → Condition → Type 0
SameShip c after = after.ship ≡ c.ship

abbrev pub SameLoad : Condition → Condition → Type 0
SameLoad c after = after.load ≡ c.load

-- the holds, and the stored figure of their weight moments
abbrev pub SameHolds : Condition → Condition → Type 0
SameHolds c after = (after.holds ≡ c.holds) × (after.total ≡ c.total)

-- the sums of the weight items
abbrev pub SameItems : Condition → Condition → Type 0
SameItems c after = (after.sums.tonnes ≡ c.sums.tonnes) × (after.sums.products ≡ c.sums.products)

-- every place of the sixteen but the n-th, counted from 1, is as it was
abbrev pub OtherPlaces : ℕ → Condition → Condition → Type 0
OtherPlaces n c after = (m : ℕ) → 1 ≤ m → m ≤ 16 → (m ≡ n → ⊥) → get_or after.holds (m - 1) no_hold ≡ get_or c.holds (m - 1) no_hold

abbrev pub ShipStored : Condition → Ship → (after : Condition) → Type 0
ShipStored c s after =
    (after.ship ≡ Some s) × SameLoad c after × (after.columns ≡ c.columns) × SameHolds c after
    × SameItems c after

abbrev pub LoadStored : Condition → Load → (after : Condition) → Type 0
LoadStored c l after =
    (after.load ≡ Some l) × SameShip c after × (after.columns ≡ c.columns) × SameHolds c after
    × SameItems c after

abbrev pub ColumnStored : Condition → Column → (after : Condition) → Type 0
ColumnStored c k after =
    length c.columns.places ≡ 20 →
    (held after.columns ≡ held c.columns ++ k ∷ []) × SameShip c after × SameLoad c after × SameHolds c after × SameItems c after

-- of the stored figure after a hold or a drop `StepsStayWithin` speaks (demands/specs/Demands.antt): it is true again
abbrev pub HoldStored : Condition → ℕ → Hold → (after : Condition) → Type 0
HoldStored c n h after =
    length c.holds ≡ 16 →
    (get_or after.holds (n - 1) no_hold ≡ h)
    × OtherPlaces n c after × SameShip c after × SameLoad c after × (after.columns ≡ c.columns) × SameItems c after

abbrev pub HoldDropped : Condition → ℕ → (after : Condition) → Type 0
HoldDropped c n after =
    length c.holds ≡ 16 →
    ((get_or after.holds (n - 1) no_hold).head.count ≡ 0)
    × OtherPlaces n c after × SameShip c after × SameLoad c after × (after.columns ≡ c.columns) × SameItems c after

-- ---- document 02, P5
-- all but the load and the weight items
abbrev pub SameElse : Condition → Condition → Type 0
SameElse c after = SameShip c after × (after.columns ≡ c.columns) × SameHolds c after

-- an item is added; of its product that is said where 64 bits hold the sum, as they do in every condition within its limits
abbrev pub ItemStored : Condition → WeightItem → (after : Condition) → Type 0
ItemStored c i after =
    (after.sums.tonnes ≡ c.sums.tonnes + i.tonnes)
    × (c.sums.products + i.tonnes * i.height ≤ 18446744073709551615 → after.sums.products ≡ c.sums.products + i.tonnes * i.height)
    × SameLoad c after × SameElse c after

-- the items make the load, and stay; KG is said of sums that items give
abbrev pub WeighedStored : Condition → (fs : ℕ) → (after : Condition) → Type 0
WeighedStored c fs after =
    ((l : Load) × (after.load ≡ Some l) × (l.d ≡ c.sums.tonnes) × (SumsRange c.sums → 0 < c.sums.tonnes → KgOf c.sums l.kg) × (l.fs ≡ fs))
    × SameItems c after × SameElse c after

-- all items are removed
abbrev pub ItemsRemoved : Condition → (after : Condition) → Type 0
ItemsRemoved c after = (after.sums.tonnes ≡ 0) × (after.sums.products ≡ 0) × SameLoad c after × SameElse c after
