-- The laws of the load that items make. Proved in proofs/Items.antt.
use Rattle.std.specs.Prelude.{◌↔◌, ℕ, ◌≤◌, ◌<◌}
use Rattle.record.specs.declared.ItemSums.{ItemSums}
use Rattle.limits.specs.Ranges.{LoadRange, RiseRange}
use Rattle.weights.specs.Weights.{weighed_kg, weighed_load}
use Rattle.weights.specs.Items.{SumsRange, KgOf}

-- of sums that items give, its KG is that of the paper's words
abbrev pub KgOfSums : Type 0
KgOfSums = (s : ItemSums) → SumsRange s → 0 < s.tonnes → KgOf s (weighed_kg s)

-- it is within the limits of a load exactly where items give the sums, of at least 100 tonnes, and FS is within its own: of other sums, which lines
-- cannot bring about, judge counts it as no load
abbrev pub WeighedIsALoad : Type 0
WeighedIsALoad = (s : ItemSums) (fs : ℕ) → LoadRange (weighed_load s fs) ↔ (SumsRange s × (100 ≤ s.tonnes) × RiseRange fs)
