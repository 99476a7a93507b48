-- Which sums taken items give, what one item more makes of them, and the load of such sums.
use mathlib.Core.Path.{◌≡◌, refl, sym, ap, ◌∙◌}
use mathlib.Core.Bool.{true}
use mathlib.Core.List.{List, [], ◌∷◌, ◌++◌}
use mathlib.Core.Logic.{◌⊎◌, inl, inr, ⊎_elim}
use Prim.Native.Nat.{ℕ, zero, suc, ◌+◌, ◌*◌, ◌-◌, ◌/◌, ◌%◌, ◌≤◌, ◌<◌, min}
use native.Mathlib.Omega.{arith}
use native.Mathlib.Nat.{mod-lt, div-add-mod', mul-le-mul_left, lt_of_mul-lt-mul_left, eq-zero-or-pos, lt_of_not-le}
use native.Mathlib.Decide.{dec_le}
use lib.ListN.{length, get_or}
use borrow.Author.Tests.{leb-true, le-leb}
use Rattle.whole.specs.Lists.{sum_of}
use Rattle.whole.specs.Divide.{ceil_div}
use Rattle.whole.proofs.Dividing.{ceil_low, ceil_high, ceil_le, floor_le}
use Rattle.record.specs.declared.WeightItem.{WeightItem}
use Rattle.record.specs.declared.ItemSums.{ItemSums}
use Rattle.record.specs.Filler.{no_item, no_sums}
use Rattle.limits.specs.Ranges.{ItemRange}
use Rattle.weights.specs.Weights.{has_room, with_item, weighed_kg}
use Rattle.weights.specs.Items.{sums_of, CanBeTaken, SumsRange, SumsOfItems, item_if, items_of, ItemsOfSums, KgOf}
use Rattle.weights.specs.Laws.{KgOfSums, WeighedIsALoad}
use Rattle.weights.proofs.Weights.{kg_none, kg_far, up_least, kg_up_lem}

-- ---- items have products of at most 50,000 for each tonne
products_le : (items : List WeightItem) → ((n : ℕ) → n < length items → ItemRange (get_or items n no_item)) → (sums_of items).products ≤ 50000 * (sums_of items).tonnes
unfolding sum_of
products_le [] r = omega arith
products_le (i ∷ items) r =
    omega (arith, mul-le-mul_left i.tonnes (r 0 (omega arith)).2, products_le items (λ n h. r (suc n) (omega arith)))

pub taken_range : (items : List WeightItem) → CanBeTaken items → SumsRange (sums_of items)
taken_range items t = (t.most, products_le items t.ranges)

-- ---- two items, or fewer: a tonnes at q, and b at q + 1
two_sums : (a b q : ℕ) → ((sums_of (item_if a q ++ item_if b (q + 1))).tonnes ≡ a + b) × ((sums_of (item_if a q ++ item_if b (q + 1))).products ≡ a * q + b * (q + 1))
unfolding sum_of
two_sums zero zero q = (omega arith, omega arith)
two_sums zero (suc b) q = (omega arith, omega arith)
two_sums (suc a) zero q = (omega arith, omega arith)
two_sums (suc a) (suc b) q = (omega arith, omega arith)

two_ranges : (a b q : ℕ) → a + b ≤ 400000 → q ≤ 50000 → (0 < b → q < 50000) → (n : ℕ) → n < length (item_if a q ++ item_if b (q + 1)) → ItemRange (get_or (item_if a q ++ item_if b (q + 1)) n no_item)
two_ranges zero zero q m h k n p = absurd (omega arith)
two_ranges zero (suc b) q m h k zero p = (omega arith, omega arith, omega (arith, k (omega arith)))
two_ranges zero (suc b) q m h k (suc n) p = absurd (omega arith)
two_ranges (suc a) zero q m h k zero p = (omega arith, omega arith, h)
two_ranges (suc a) zero q m h k (suc n) p = absurd (omega arith)
two_ranges (suc a) (suc b) q m h k zero p = (omega arith, omega arith, h)
two_ranges (suc a) (suc b) q m h k (suc zero) p = (omega arith, omega arith, omega (arith, k (omega arith)))
two_ranges (suc a) (suc b) q m h k (suc (suc n)) p = absurd (omega arith)

two_taken : (a b q : ℕ) → a + b ≤ 400000 → q ≤ 50000 → (0 < b → q < 50000) → CanBeTaken (item_if a q ++ item_if b (q + 1))
two_taken a b q m h k = record { ranges = two_ranges a b q m h k; most = omega (arith, (two_sums a b q).0) }

module _ (s : ItemSums) (range : SumsRange s) where
  abbrev T : ℕ
  T = s.tonnes

  abbrev S : ℕ
  S = s.products

  -- S is q T + r
  module _ (some : 0 < T) where
    parted : S ≡ S / T * T + S % T
    parted = sym (div-add-mod' S T)

    rest : S % T < T
    rest = mod-lt S some

    high : 0 < S % T → S / T < 50000
    high h = lt_of_mul-lt-mul_left T (omega (arith, parted, range.1))

    some_taken : CanBeTaken (items_of s) × (sums_of (items_of s) ≡ s)
    unfolding items_of
    some_taken =
        let all : T - S % T + S % T ≡ T = omega (arith, rest) in
        let t = two_sums (T - S % T) (S % T) (S / T) in
        let products : (T - S % T) * (S / T) + S % T * (S / T + 1) ≡ S = omega (arith, parted, ap (λ x. x * (S / T)) all) in
        (two_taken (T - S % T) (S % T) (S / T) (omega (arith, all, range.0)) (floor_le S T 50000 some range.1) high, rw (t.0, t.1, all, products) refl)

  none_taken : T ≡ 0 → CanBeTaken (items_of s) × (sums_of (items_of s) ≡ s)
  unfolding items_of sum_of
  none_taken e =
      let z : S ≡ 0 = omega (arith, range.1) in
      rw (e, z) (record { ranges = λ n h. absurd (omega arith); most = omega arith }, cc)

  given_by : CanBeTaken (items_of s) × (sums_of (items_of s) ≡ s)
  given_by = ⊎_elim none_taken some_taken (eq-zero-or-pos T)

pub items_of_sums : ItemsOfSums
items_of_sums = given_by

pub sums_of_items_lem : SumsOfItems
sums_of_items_lem s = (
  λ g. rw g.sums (taken_range g.items g.taken),
  λ r. let t = items_of_sums s r in record { items = items_of s; taken = t.0; sums = sym t.1 },
)

-- ---- one item more
module _ (s : ItemSums) (i : WeightItem) (range : SumsRange s) (inside : ItemRange i) (room : has_room s i ≡ true) where
  sum_le : s.tonnes + i.tonnes ≤ 400000
  sum_le = leb-true (s.tonnes + i.tonnes) 400000 room

  pub more_is : with_item s i ≡ record { tonnes = s.tonnes + i.tonnes; products = s.products + i.tonnes * i.height }
  unfolding with_item
  more_is =
      let small : min (s.products + i.tonnes * i.height) 18446744073709551615 ≡ s.products + i.tonnes * i.height = omega (arith, range.1, sum_le, mul-le-mul_left i.tonnes inside.2) in
      rw small

  pub more_range : SumsRange (with_item s i)
  more_range = rw more_is (sum_le, omega (arith, range.1, mul-le-mul_left i.tonnes inside.2))

-- ---- items, one after the other
unfoldable pub add_all : ItemSums → List WeightItem → ItemSums
add_all s [] = s
add_all s (i ∷ items) = add_all (with_item s i) items

added_to : (s : ItemSums) (items : List WeightItem) → SumsRange s → ((n : ℕ) → n < length items → ItemRange (get_or items n no_item)) → s.tonnes + (sums_of items).tonnes ≤ 400000 →
    add_all s items ≡ record { tonnes = s.tonnes + (sums_of items).tonnes; products = s.products + (sums_of items).products }
unfolding add_all sum_of
added_to s [] range r most = let t : s.tonnes + 0 ≡ s.tonnes = omega arith in let p : s.products + 0 ≡ s.products = omega arith in rw (t, p)
added_to s (i ∷ items) range r most =
    let fits = le-leb (s.tonnes + i.tonnes) 400000 (omega arith) in
    let m = more_is s i range (r 0 (omega arith)) fits in
    let t : s.tonnes + i.tonnes + (sums_of items).tonnes ≡ s.tonnes + (i.tonnes + (sums_of items).tonnes) = omega arith in
    let p : s.products + i.tonnes * i.height + (sums_of items).products ≡ s.products + (i.tonnes * i.height + (sums_of items).products) = omega arith in
    added_to (with_item s i) items (more_range s i range (r 0 (omega arith)) fits) (λ n h. r (suc n) (omega arith)) (rw m (omega arith)) ∙ rw (m, t, p)

-- to none: just these items' sums
pub added : (items : List WeightItem) → CanBeTaken items → add_all no_sums items ≡ sums_of items
added items t =
    let tonnes : 0 + (sums_of items).tonnes ≡ (sums_of items).tonnes = omega arith in
    let products : 0 + (sums_of items).products ≡ (sums_of items).products = omega arith in
    added_to no_sums items (omega arith, omega arith) t.ranges (omega (arith, t.most)) ∙ rw (tonnes, products)

-- ---- the load that items make
module _ (s : ItemSums) (range : SumsRange s) (some : 0 < s.tonnes) where
  kg_rounded : 0 < s.products → weighed_kg s ≡ ceil_div s.products s.tonnes
  kg_rounded h = kg_up_lem s some h (omega (arith, range.1))

  kg_in_words : KgOf s (weighed_kg s)
  kg_in_words =
      record {
        none = kg_none s;
        up = λ h. rw (kg_rounded h) (omega (arith, ceil_low s.products s.tonnes some), omega (arith, ceil_high s.products s.tonnes some));
      }

  kg_range : (1 ≤ weighed_kg s) × (weighed_kg s ≤ 50000)
  kg_range =
      ⊎_elim (λ (e : s.products ≡ 0). rw (kg_none s e) (omega arith, omega arith))
      (λ (h : 0 < s.products). rw (kg_rounded h) (up_least s some h, ceil_le s.products s.tonnes 50000 some range.1))
      (eq-zero-or-pos s.products)

pub kg_of_sums : KgOfSums
kg_of_sums = kg_in_words

-- a KG within its limits has products of at most 50,000 for each tonne
kg_within : (s : ItemSums) → 0 < s.tonnes → weighed_kg s ≤ 50000 → s.products ≤ 50000 * s.tonnes
kg_within s some h = by (dec_le s.products (65535 * s.tonnes)) (eq-zero-or-pos s.products)
  where
    by : Dec (s.products ≤ 65535 * s.tonnes) → (s.products ≡ 0) ⊎ (0 < s.products) → s.products ≤ 50000 * s.tonnes
    by (no f) z = absurd (omega (arith, kg_far s some (lt_of_not-le f), h))
    by (yes l) (inl z) = omega arith
    by (yes l) (inr p) = omega (arith, ceil_low s.products s.tonnes some, mul-le-mul_left s.tonnes (rw (kg_up_lem s some p l) at h))

pub weighed_is_a_load : WeighedIsALoad
weighed_is_a_load s fs = (
  λ (a, b, c, d, f). ((b, kg_within s (omega arith) d), a, f),
  λ (range, least, rise). let k = kg_range s range (omega arith) in (least, range.0, k.0, k.1, rise),
)
