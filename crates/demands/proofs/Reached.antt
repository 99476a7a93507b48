-- Every condition that lines can reach is within its limits: it is so at the start, and a line that is taken puts in a record that passed
-- its tests, or takes one out, keeps the figure true and the sums in their range.
use mathlib.Core.Path.{◌≡◌, refl, sym, ap, ◌∙◌}
use mathlib.Core.Bool.{Bool, true, false}
use mathlib.Core.List.{List, [], ◌∷◌}
use Prim.Native.Nat.{ℕ, zero, suc, ◌+◌, ◌-◌, ◌≤◌, ◌<◌}
use native.Mathlib.Omega.{arith}
use lib.Dec.{eqb}
use lib.ListN.{length, get_or, take, set, length-take, length-set, get_or-replicate}
use lib.Seq.{get_or-set_same, get_or-set_other, get_or-take, take-suc, take-length, length-take-le}
use borrow.Author.Tests.{eqb-true, eqb-false, ltb-true, leb-true}
use Rattle.whole.specs.Lists.{sum_of}
use Rattle.whole.proofs.Lists.{get_d_any}
use Rattle.record.specs.declared.Column.{Column}
use Rattle.record.specs.declared.Columns.{Columns}
use Rattle.record.specs.declared.Part.{Part}
use Rattle.record.specs.declared.Hold.{Hold}
use Rattle.record.specs.declared.ItemSums.{ItemSums}
use Rattle.record.specs.declared.Weighing.{Weighing}
use Rattle.record.specs.declared.Weighing.TheVariants.{Weight, Weighed, Unweigh}
use Rattle.std.specs.Prelude.{Option, Some, None, Ok}
use Rattle.record.specs.declared.Ship.{Ship}
use Rattle.record.specs.declared.Load.{Load}
use Rattle.record.specs.Filler.{no_column, no_part, no_hold, no_sums}
use Rattle.limits.specs.Ranges.{ColumnRange}
use Rattle.limits.proofs.Ranges.{ship_range, load_range, column_range, hold_range, place_range, item_range, rise_range}
use Rattle.weights.specs.Weights.{with_item, weighed_load}
use Rattle.weights.specs.Items.{SumsRange}
use Rattle.weights.proofs.Items.{sums_of_items_lem, more_range, weighed_is_a_load}
use Rattle.columns.proofs.Adding.{above_is, answer_above}
use Rattle.grain.specs.Sum.{hold_moment, weight_moment, total_weight}
use Rattle.grain.proofs.Weights.{nothing_weighs}
use Rattle.grain.proofs.Figures.{hold_fits_lem}
use Rattle.limits.specs.Limits.{ship_limits, load_limits, place_limits}
use Rattle.record.specs.Held.{held}
use Rattle.columns.specs.Columns.{is_above, column_answer, with_column}
use Rattle.text.specs.Token.{Token, tokens}
use Rattle.forms.specs.declared.Request.{Request}
use Rattle.forms.specs.declared.Request.TheVariants.{ShipLine, ColumnLine, LoadLine, HoldLine, DropLine, JudgeLine, ClearLine, ShowLine, TotalLine, WeighingLine}
use Rattle.request.proofs.Lengths.{SixPlaces, Sized, request_sized}
use Rattle.condition.specs.declared.Condition.{Condition}
use Rattle.condition.specs.Condition.{empty, is_held}
use Rattle.total.specs.Total.{weight}
use Rattle.total.proofs.Sound.{PlaceSound}
use Rattle.total.proofs.Figure.{exchange_true}
use Rattle.judging.specs.Judge.{judged_of}
use Rattle.judging.specs.Complete.{Places}
use Rattle.storing.specs.Storing.{with_hold, with_sums}
use Rattle.operations.specs.Operations.{weighing_operation}
use Rattle.panel.specs.Step.{outcome_of, step_of, Sent, condition_after}
use Rattle.sending.specs.Within.{Within, ColumnsTaken}
use Rattle.demands.specs.Codes.{request}
use Rattle.demands.specs.Demands.{StepsStayWithin, ReachedAreWithin, RangesAreWithin}
use Rattle.storing.proofs.Taking.{place_within}
use Rattle.demands.proofs.Asked.{asked_for, taken_as}
use Rattle.operations.proofs.Effects.{HoldPassed, ship_passed, ship_taken, load_passed, load_taken, column_passed, column_taken, hold_passed, hold_taken, drop_passed, drop_taken, weight_passed, weight_taken, weighed_passed, weighed_taken, unweigh_taken}
use Rattle.storing.proofs.Columns.{Fitting, fitting_more, held_more, below_twenty}
use Rattle.panel.proofs.Effects.{judge_same}
use Rattle.demands.proofs.Within.{hold_sound}
use Rattle.demands.proofs.Sequence.{taken_more}
use Rattle.demands.proofs.Demand1.{refusals_change_nothing_lem}

-- ---- what each record of a condition keeps: a ship or load that is there passed its tests; a hold that is there passed those of its
-- place; the columns were each taken in their order; and arrays have their lengths
record GoodHold (n : ℕ) (h : Hold) : Type 0 where
  sized : SixPlaces h
  passed : is_held h ≡ true → HoldPassed (n + 1) h

record GoodHolds (hs : List Hold) : Type 0 where
  long : length hs ≡ 16
  each : (n : ℕ) → n < 16 → GoodHold n (get_or hs n no_hold)

record GoodColumns (cs : Columns) : Type 0 where
  fitting : Fitting cs
  ten : (i : ℕ) → i < cs.count → (k : Column) → length (get_or cs.places i k).kn ≡ 10
  taken : ColumnsTaken empty (held cs)

record Good (c : Condition) : Type 0 where
  ship : (s : Ship) → c.ship ≡ Some s → ship_limits s ≡ true
  load : (l : Load) → c.load ≡ Some l → load_limits l ≡ true
  columns : GoodColumns c.columns
  holds : GoodHolds c.holds
  total : c.total ≡ weight c
  sums : SumsRange c.sums

good_within : (c : Condition) → Good c → Within c
good_within c g =
    record {
      places = record {
        hold_places = g.holds.long;
        column_places = g.columns.fitting.places;
        column_count = g.columns.fitting.count;
        kn_places = λ i h. g.columns.ten i h no_column;
        part_places = λ n h. (g.holds.each n h).sized.parts;
        cell_places = λ n h i q. (g.holds.each n h).sized.cells i q no_part;
      };
      ship = λ s e. ap (λ ch. ch.code) (ship_taken empty s (g.ship s e));
      load = λ l e. ap (λ ch. ch.code) (load_taken empty l (g.load l e));
      columns = g.columns.taken;
      holds = λ n h e. ap (λ ch. ch.code) (hold_taken empty (n + 1) (get_or c.holds n no_hold) ((g.holds.each n h).passed e));
      total = g.total;
      sums = (sums_of_items_lem c.sums).1 g.sums;
    }

-- ---- nothing held
no_hold_lem : (n : ℕ) → GoodHold n no_hold
no_hold_lem n =
    record {
      sized = record { parts = refl; cells = λ i h p. rw (get_or-replicate 6 i no_part p h) };
      passed = λ e. let z : ◌≡◌ {A = ℕ} 0 1 = cc in absurd (omega arith);
    }

no_weight : weight empty ≡ 0
unfolding total_weight sum_of weight_moment hold_moment
no_weight = refl

good_empty : Good empty
good_empty =
    record {
      ship = λ s e. let z : ◌≡◌ {A = ℕ} 0 1 = cc in absurd (omega arith);
      load = λ l e. let z : ◌≡◌ {A = ℕ} 0 1 = cc in absurd (omega arith);
      columns = record { fitting = record { places = refl; count = omega arith }; ten = λ i h k. absurd (omega arith); taken = tt };
      holds = record { long = refl; each = λ n h. rw (get_or-replicate 16 n no_hold no_hold h) (no_hold_lem n) };
      total = sym no_weight;
      sums = (omega arith, omega arith);
    }

-- ---- one entry replaced: what it and each other one has
module _ {A : Type 0} (P : ℕ → A → Type 0) (l : List A) (i : ℕ) (a : A) (small : i < length l) (new : P i a) where
  set_each : (d : A) (j : ℕ) → ((j ≡ i → ⊥) → P j (get_or l j d)) → P j (get_or (set l i a) j d)
  set_each d j old = go (eqb j i) refl
    where
      go : (x : Bool) → eqb j i ≡ x → P j (get_or (set l i a) j d)
      go true e = let q = eqb-true j i e in rw (q, get_or-set_same l i a d small) new
      go false e = let q = eqb-false j i e in rw (get_or-set_other l i j a d q) (old q)

put_hold : (hs : List Hold) (n : ℕ) (h : Hold) → GoodHolds hs → place_limits n ≡ true → GoodHold (n - 1) h → GoodHolds (set hs (n - 1) h)
put_hold hs n h g p new =
    let w = place_within n p in
    record {
      long = length-set hs (n - 1) h ∙ g.long;
      each = λ j q. set_each GoodHold hs (n - 1) h (omega (arith, g.long, w.0, w.1)) new no_hold j (λ f. g.each j q);
    }

-- the figure is true again
put_figure : (c : Condition) (n : ℕ) (h : Hold) → Good c → place_limits n ≡ true → PlaceSound h → (with_hold c n h (weight_moment h)).total ≡ weight (with_hold c n h (weight_moment h))
put_figure c n h g p s =
    let w = place_within n p in
    rw g.total
    (exchange_true c.holds g.holds.long (λ i q e. let t = (g.holds.each i q).passed e in record { limits = t.limits; fits = t.fits })
    (n - 1) h (omega (arith, w.0, w.1)) s)

put_column : (cs : Columns) (k : Column) → GoodColumns cs → length k.kn ≡ 10 → column_answer (held cs) k ≡ Ok tt → GoodColumns (with_column cs k)
put_column cs k g ten e =
    record {
      fitting = fitting_more cs k g.fitting e;
      ten = λ i h d.
          set_each (λ (n : ℕ) (k : Column). length k.kn ≡ 10) cs.places cs.count k
          (omega (arith, below_twenty cs k g.fitting e, g.fitting.places)) ten d i (λ f. g.ten i (omega arith) d);
      taken = rw (held_more cs k g.fitting e) (taken_more empty (held cs) k good_empty.columns.fitting g.taken e);
    }

-- what one record has, each that is stored has
only : {A : Type 0} (f : A → Bool) {x : A} → f x ≡ true → (y : A) → Some x ≡ Some y → f y ≡ true
only f {x} p y e = let same : x ≡ y = cc in rw same at p

-- ---- each line that is taken
module _ (c : Condition) (g : Good c) where
  with_sums_lem : (s : ItemSums) → SumsRange s → Good (with_sums c s)
  with_sums_lem s range = record { ship = g.ship; load = g.load; columns = g.columns; holds = g.holds; total = g.total; sums = range }

  weighing_good : (w : Weighing) → (weighing_operation c w).code ≡ 0 → Good (weighing_operation c w).after
  weighing_good (Weight i) e =
      let p = weight_passed c i e in
      rw (weight_taken c i p.0 p.1) (with_sums_lem (with_item c.sums i) (more_range c.sums i g.sums ((item_range i).0 p.0) p.1))
  weighing_good (Weighed fs) e =
      let p = weighed_passed c fs e in
      let l = weighed_load c.sums fs in
      let good = (load_range l).1 ((weighed_is_a_load c.sums fs).1 (g.sums, leb-true 100 c.sums.tonnes p.1, (rise_range fs).0 p.0)) in
      rw (weighed_taken c fs p.0 p.1) (record { ship = g.ship; load = only load_limits good; columns = g.columns; holds = g.holds; total = g.total; sums = g.sums })
  weighing_good Unweigh e = rw (unweigh_taken c) (with_sums_lem no_sums (omega arith, omega arith))

  good_by : (ts : List Token) (lent : ℕ) (r : Request) → Sized r → (outcome_of c ts lent r).code ≡ 0 → Good (outcome_of c ts lent r).after
  unfolding outcome_of
  good_by ts lent (ShipLine s) z e =
      let p = ship_passed c s e in
      rw (ship_taken c s p) (record { ship = only ship_limits p; load = g.load; columns = g.columns; holds = g.holds; total = g.total; sums = g.sums })
  good_by ts lent (ColumnLine col) sc e =
      let p = column_passed c col e in
      rw (column_taken c col p)
      (record { ship = g.ship; load = g.load; columns = put_column c.columns col g.columns sc p; holds = g.holds; total = g.total; sums = g.sums })
  good_by ts lent (LoadLine l) z e =
      let p = load_passed c l e in
      rw (load_taken c l p) (record { ship = g.ship; load = only load_limits p; columns = g.columns; holds = g.holds; total = g.total; sums = g.sums })
  good_by ts lent (HoldLine n h) sh e =
      let p = hold_passed c n h e in
      let same : n - 1 + 1 ≡ n = omega (arith, (place_within n p.place).0) in
      let new : GoodHold (n - 1) h = record { sized = sh; passed = λ t. rw same p } in
      rw (hold_taken c n h p)
      (record {
        ship = g.ship;
        load = g.load;
        columns = g.columns;
        holds = put_hold c.holds n h g.holds p.place new;
        total = put_figure c n h g p.place (λ t. record { limits = p.limits; fits = p.fits });
        sums = g.sums;
      })
  good_by ts lent (DropLine n) z e =
      let p = drop_passed c n e in
      let figure = put_figure c n no_hold g p.0 (λ t. let z : ◌≡◌ {A = ℕ} 0 1 = cc in absurd (omega arith)) in
      rw (drop_taken c n p.0 p.1)
      (record {
        ship = g.ship;
        load = g.load;
        columns = g.columns;
        holds = put_hold c.holds n no_hold g.holds p.0 (no_hold_lem (n - 1));
        total = rw (nothing_weighs no_hold refl) at figure;
        sums = g.sums;
      })
  good_by ts lent JudgeLine z e = rw (judge_same c (judged_of c)) g
  good_by ts lent ClearLine z e = good_empty
  good_by ts lent ShowLine z e = g
  good_by ts lent TotalLine z e = g
  good_by ts lent (WeighingLine w) z e = weighing_good w e

  -- any line
  module _ (line : List ℕ) (lent : ℕ) where
    good_taken : (step_of c line lent).code ≡ 0 → Good (step_of c line lent).after
    good_taken e =
        let o = taken_as c line lent (request line) refl e in
        rw o (by (request line) refl (rw o at e))
      where
        by : (p : Option Request) → request line ≡ p → (asked_for c line lent p).code ≡ 0 → Good (asked_for c line lent p).after
        by (Some r) q z = good_by (tokens line) lent r (request_sized (tokens line) r q) z
        by None q z = absurd (omega arith)

    good_code : (x : Bool) → eqb (step_of c line lent).code 0 ≡ x → Good (step_of c line lent).after
    good_code true e = good_taken (eqb-true (step_of c line lent).code 0 e)
    good_code false e = rw (refusals_change_nothing_lem c line lent (eqb-false (step_of c line lent).code 0 e)) g

    good_step : Good (step_of c line lent).after
    good_step = good_code (eqb (step_of c line lent).code 0) refl

good_after : (c : Condition) (ls : List Sent) → Good c → Good (condition_after c ls)
unfolding condition_after
good_after c [] g = g
good_after c (l ∷ ls) g = good_after (step_of c l.line l.lent).after ls (good_step c g l.line l.lent)

pub reached_are_within_lem : ReachedAreWithin
reached_are_within_lem ls = good_within (condition_after empty ls) (good_after empty ls good_empty)

-- ---- a condition of which each record passed its tests, in places of the right number
places_good :
    (c : Condition) → Places c → ((s : Ship) → c.ship ≡ Some s → ship_limits s ≡ true) → ((l : Load) → c.load ≡ Some l → load_limits l ≡ true) →
    ColumnsTaken empty (held c.columns) → ((n : ℕ) → n < 16 → is_held (get_or c.holds n no_hold) ≡ true → HoldPassed (n + 1) (get_or c.holds n no_hold)) →
    c.total ≡ weight c → SumsRange c.sums → Good c
places_good c p ship load columns passed total sums =
    record {
      ship = ship;
      load = load;
      columns = record {
        fitting = record { places = p.column_places; count = p.column_count };
        ten = λ i h k.
            ap (λ (x : Column). length x.kn) (get_d_any c.columns.places i k no_column (omega (arith, p.column_places, p.column_count))) ∙ p.kn_places i h;
        taken = columns;
      };
      holds = record {
        long = p.hold_places;
        each = λ m h.
            let x = get_or c.holds m no_hold in
            record {
              sized = record {
                parts = p.part_places m h;
                cells = λ i q d. ap (λ (y : Part). length y.cells) (get_d_any x.parts i d no_part (omega (arith, p.part_places m h))) ∙ p.cell_places m h i q;
              };
              passed = passed m h;
            };
      };
      total = total;
      sums = sums;
    }

-- one within its limits
pub steps_stay_within_lem : StepsStayWithin
steps_stay_within_lem c line lent w =
    let g = places_good c w.places (λ s e. ship_passed empty s (w.ship s e)) (λ l e. load_passed empty l (w.load l e)) w.columns (hold_sound c w) w.total ((sums_of_items_lem c.sums).0 w.sums) in
    good_within (step_of c line lent).after (good_step c g line lent)

-- one whose records are in the paper's ranges
module _ (ks : List Column) (few : length ks ≤ 20) (ranges : (i : ℕ) → i < length ks → ColumnRange (get_or ks i no_column)) (rising : (i : ℕ) → i + 1 < length ks → (get_or ks i no_column).d < (get_or ks (i + 1) no_column).d) where
  above_before : (n : ℕ) → n < length ks → is_above (get_or ks n no_column).d (take n ks) ≡ true
  above_before n h =
      let l = length-take-le n ks (omega arith) in
      (above_is (get_or ks n no_column).d (take n ks) no_column).1
      (λ p.
      let e : n - 1 + 1 ≡ n = omega arith in
      let r = rw e at (rising (n - 1) (omega arith)) in
      rw (l, get_or-take n ks (n - 1) no_column (omega arith)) r)

  taken_up_to : (n : ℕ) → n ≤ length ks → ColumnsTaken empty (take n ks)
  taken_up_to zero h = tt
  taken_up_to (suc n) h =
      let k = get_or ks n no_column in
      let l = length-take-le n ks (omega arith) in
      let a = answer_above (take n ks) k ((column_range k).1 (ranges n h)) true (omega arith) (above_before n h) in
      rw (take-suc ks n no_column h) (taken_more empty (take n ks) k good_empty.columns.fitting (taken_up_to n (omega arith)) (sym a))

pub ranges_are_within_lem : RangesAreWithin
ranges_are_within_lem c p r =
    let ks = held c.columns in
    let n = length-take c.columns.count c.columns.places in
    good_within c
    (places_good c p (λ s e. (ship_range s).1 (r.ship s e)) (λ l e. (load_range l).1 (r.load l e))
    (rw (take-length ks) at (taken_up_to ks (omega (arith, p.column_count)) r.columns r.rising (length ks) (omega arith)))
    (λ m h e.
    let x = get_or c.holds m no_hold in
    let t = r.holds m h (ltb-true 0 x.head.count e) in
    record { place = (place_range (m + 1)).1 (omega arith, omega arith); limits = (hold_range x).1 t.0; fits = (hold_fits_lem x).1 t.1 })
    r.total r.sums)
