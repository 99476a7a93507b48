-- Document 02, P5, in its own words: the sums of a list of weight items, which sums taken items give, and the KG of a load that they make. Nothing here
-- rests on the definitions by which the program is proved (Weights.antt); proofs/Items.antt has the laws.
use Rattle.std.specs.Prelude.{◌≡◌, List, [], ◌∷◌, ◌++◌, ◌↔◌, ℕ, zero, suc, ◌+◌, ◌*◌, ◌-◌, ◌/◌, ◌%◌, ◌≤◌, ◌<◌, length, get_or}
use Rattle.whole.specs.Lists.{sum_of}
use Rattle.record.specs.declared.WeightItem.{WeightItem}
use Rattle.record.specs.declared.ItemSums.{ItemSums}
use Rattle.record.specs.Filler.{no_item}
use Rattle.limits.specs.Ranges.{ItemRange}

-- their tonnes, and the products of tonnes and height
abbrev pub sums_of : List WeightItem → ItemSums
sums_of items =
    record {
      tonnes = sum_of (λ (i : WeightItem). i.tonnes) items;
      products = sum_of (λ (i : WeightItem). i.tonnes * i.height) items;
    }

-- items that can all be taken: each within its limits, together at most 400,000 tonnes
pub record CanBeTaken (items : List WeightItem) : Type 0 where
  pub ranges : (n : ℕ) → n < length items → ItemRange (get_or items n no_item)
  pub most : (sums_of items).tonnes ≤ 400000

-- sums that taken items, or none, give
pub record ItemsGive (s : ItemSums) : Type 0 where
  pub items : List WeightItem
  pub taken : CanBeTaken items
  pub sums : s ≡ sums_of items

-- the same by the two sums: T at most 400,000, the products at most 50,000 T. (Where T is 0 the products are 0 too: no items.)
abbrev pub SumsRange : ItemSums → Type 0
SumsRange s = (s.tonnes ≤ 400000) × (s.products ≤ 50000 * s.tonnes)

abbrev pub SumsOfItems : Type 0
SumsOfItems = (s : ItemSums) → ItemsGive s ↔ SumsRange s

-- at most two items that give these sums: with products q T + r, T − r tonnes at q, and r at q + 1 where r is above 0
abbrev pub item_if : (tonnes height : ℕ) → List WeightItem
item_if zero h = []
item_if (suc t) h = record { tonnes = suc t; height = h } ∷ []

unfoldable pub items_of : ItemSums → List WeightItem
items_of s =
    let q = s.products / s.tonnes in
    let r = s.products % s.tonnes in
    item_if (s.tonnes - r) q ++ item_if r (q + 1)

abbrev pub ItemsOfSums : Type 0
ItemsOfSums = (s : ItemSums) → SumsRange s → CanBeTaken (items_of s) × (sums_of (items_of s) ≡ s)

-- KG of the load that items make: the summed products divided by D, rounded up; 1 where that is 0
pub record KgOf (s : ItemSums) (kg : ℕ) : Type 0 where
  pub none : s.products ≡ 0 → kg ≡ 1
  pub up : 0 < s.products → (s.products ≤ kg * s.tonnes) × (kg * s.tonnes < s.products + s.tonnes)
