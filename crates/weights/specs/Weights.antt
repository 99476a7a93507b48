-- Document 02, P5: the sums of the weight items that were taken, and the load that they make.
use Rattle.std.specs.Prelude.{Bool, ℕ, ◌+◌, ◌*◌, min, max, leb}
use Rattle.whole.specs.Divide.{ceil_div}
use Rattle.record.specs.declared.Load.{Load}
use Rattle.record.specs.declared.WeightItem.{WeightItem}
use Rattle.record.specs.declared.ItemSums.{ItemSums}

-- the most that items weigh together, and the least that makes a load, in tonnes
abbrev pub greatest_sum : ℕ
greatest_sum = 400000

abbrev pub least_sum : ℕ
least_sum = 100

-- one item more: the sum does not pass the greatest (else 26)
abbrev pub has_room : ItemSums → WeightItem → Bool
has_room s i = leb (s.tonnes + i.tonnes) greatest_sum

-- its tonnes and its product are added. Where the products are none that items give, which lines cannot bring about, they stay within 64 bits
unfoldable pub with_item : ItemSums → WeightItem → ItemSums
with_item s i =
    record { tonnes = s.tonnes + i.tonnes; products = min (s.products + i.tonnes * i.height) 18446744073709551615 }

-- the items make a load: the sum is not under the least (else 27)
abbrev pub makes_load : ItemSums → Bool
makes_load s = leb least_sum s.tonnes

-- KG: the summed products divided by D, rounded up, with 1 for a KG of 0. Where the sums are none that items give, it stays within 16 bits; KG or D
-- is then outside the limits of a load, so that judge counts it as none (32)
unfoldable pub weighed_kg : ItemSums → ℕ
weighed_kg s = min (max 1 (ceil_div s.products s.tonnes)) 65535

-- the load: D the sum, KG, FS
abbrev pub weighed_load : ItemSums → (fs : ℕ) → Load
weighed_load s fs = record { d = s.tonnes; kg = weighed_kg s; fs = fs }
