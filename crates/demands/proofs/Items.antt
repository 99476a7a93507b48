-- Document 02, P5: the sums are those of the items taken, the load that they make, and which lines are those of weights.
use mathlib.Core.Path.{◌≡◌, refl, sym, ◌∙◌, ap}
use mathlib.Core.Bool.{Bool, true, false, cond}
use mathlib.Core.List.{List, [], ◌∷◌}
use Prim.Native.Nat.{ℕ, zero, suc, ◌+◌, ◌*◌, ◌≤◌, ◌<◌}
use native.Mathlib.Omega.{arith}
use lib.Dec.{eqb}
use lib.ListN.{length, get_or}
use borrow.Author.Tests.{eqb-true, eqb-false, leb-true}
use Rattle.whole.specs.Lists.{sum_of}
use Rattle.record.specs.declared.WeightItem.{WeightItem}
use Rattle.record.specs.declared.Weighing.TheVariants.{Weight, Weighed, Unweigh}
use Rattle.record.specs.Filler.{no_item, no_sums}
use Rattle.limits.specs.Ranges.{ItemRange}
use Rattle.limits.proofs.Ranges.{item_range, rise_range}
use Rattle.weights.specs.Weights.{has_room, with_item, weighed_load}
use Rattle.weights.specs.Items.{sums_of, CanBeTaken}
use Rattle.weights.proofs.Items.{taken_range, sums_of_items_lem, more_is, kg_of_sums, weighed_is_a_load}
use Rattle.std.specs.Prelude.{Option, Some, None}
use Rattle.text.specs.Token.{Token, tokens}
use Rattle.forms.specs.declared.Request.{Request}
use Rattle.forms.specs.declared.Request.TheVariants.{ShipLine, ColumnLine, LoadLine, HoldLine, DropLine, JudgeLine, ClearLine, ShowLine, TotalLine, WeighingLine}
use Rattle.showing.proofs.Own.{taken_as_weighing, weighing_only}
use Rattle.condition.specs.declared.Condition.{Condition}
use Rattle.condition.specs.Condition.{empty}
use Rattle.judging.specs.Judge.{judged_of}
use Rattle.operations.specs.Operations.{weighing_operation}
use Rattle.operations.proofs.Effects.{ship_effect, load_effect, column_effect, hold_effect, drop_effect, weight_passed, weight_effect, weighed_passed, weighed_effect, unweigh_taken}
use Rattle.panel.specs.Step.{Outcome, outcome_of, outcome_asked, step_of, Sent, condition_after}
use Rattle.panel.proofs.Effects.{judge_same}
use Rattle.demands.specs.Codes.{request}
use Rattle.demands.specs.Items.{history, items_by, items_from, items_taken, SumsAreOfTheItems, ItemsCanBeTaken, WeighedMakesTheLoad, WeighedIsWithin, WeighingStandsAlone, WeighingWithOther}
use Rattle.demands.proofs.Asked.{taken_as, code_of}
use Rattle.demands.proofs.Demand1.{refusals_change_nothing_lem}

-- ---- the condition keeps the sums of these items, which can all be taken
record Keeps (c : Condition) (items : List WeightItem) : Type 0 where
  sums : c.sums ≡ sums_of items
  taken : CanBeTaken items

none_kept : (c : Condition) → c.sums ≡ no_sums → Keeps c []
unfolding sum_of
none_kept c e = record { sums = e; taken = record { ranges = λ n h. absurd (omega arith); most = omega arith } }

-- one more, the first of them
module _ (i : WeightItem) (items : List WeightItem) (inside : ItemRange i) (t : CanBeTaken items) where
  more_ranges : (n : ℕ) → n < length (i ∷ items) → ItemRange (get_or (i ∷ items) n no_item)
  more_ranges zero h = inside
  more_ranges (suc n) h = t.ranges n (omega arith)

  module _ (room : has_room (sums_of items) i ≡ true) where
    more_taken : CanBeTaken (i ∷ items)
    unfolding sum_of
    more_taken = record { ranges = more_ranges; most = omega (arith, leb-true ((sums_of items).tonnes + i.tonnes) 400000 room) }

    more_sums : with_item (sums_of items) i ≡ sums_of (i ∷ items)
    unfolding sum_of
    more_sums =
        let tonnes : (sums_of items).tonnes + i.tonnes ≡ i.tonnes + (sums_of items).tonnes = omega arith in
        let products : (sums_of items).products + i.tonnes * i.height ≡ i.tonnes * i.height + (sums_of items).products = omega arith in
        more_is (sums_of items) i (taken_range items t) inside room ∙ rw (tonnes, products)

module _ (c : Condition) (items : List WeightItem) (k : Keeps c items) where
  weight_kept : (i : WeightItem) → (weighing_operation c (Weight i)).code ≡ 0 → Keeps (weighing_operation c (Weight i)).after (i ∷ items)
  weight_kept i e =
      let p = weight_passed c i e in
      let room : has_room (sums_of items) i ≡ true = rw k.sums at p.1 in
      let inside = (item_range i).0 p.0 in
      rw (← weight_effect c i e)
      (record { sums = rw k.sums (more_sums i items inside k.taken room); taken = more_taken i items inside k.taken room })

  -- a line that is taken
  kept_by : (ts : List Token) (lent : ℕ) (o : Option Request) → (outcome_asked c ts lent o).code ≡ 0 → Keeps (outcome_asked c ts lent o).after (items_by o items)
  unfolding outcome_of
  kept_by ts lent (Some (ShipLine s)) e = rw (← ship_effect c s e) (record { sums = k.sums; taken = k.taken })
  kept_by ts lent (Some (ColumnLine col)) e = rw (← column_effect c col e) (record { sums = k.sums; taken = k.taken })
  kept_by ts lent (Some (LoadLine l)) e = rw (← load_effect c l e) (record { sums = k.sums; taken = k.taken })
  kept_by ts lent (Some (HoldLine n h)) e = rw (← hold_effect c n h e) (record { sums = k.sums; taken = k.taken })
  kept_by ts lent (Some (DropLine n)) e = rw (← drop_effect c n e) (record { sums = k.sums; taken = k.taken })
  kept_by ts lent (Some JudgeLine) e = rw (judge_same c (judged_of c)) k
  kept_by ts lent (Some ClearLine) e = none_kept empty refl
  kept_by ts lent (Some ShowLine) e = k
  kept_by ts lent (Some TotalLine) e = k
  kept_by ts lent (Some (WeighingLine (Weight i))) e = weight_kept i e
  kept_by ts lent (Some (WeighingLine (Weighed fs))) e = rw (← weighed_effect c fs e) (record { sums = k.sums; taken = k.taken })
  kept_by ts lent (Some (WeighingLine Unweigh)) e = rw (unweigh_taken c) (none_kept _ refl)
  kept_by ts lent None e = absurd (omega arith)

  -- any line, with its code
  module _ (line : List ℕ) (lent : ℕ) where
    kept_step : (x : Bool) → eqb (step_of c line lent).code 0 ≡ x → Keeps (step_of c line lent).after (cond x (items_by (request line) items) items)
    kept_step true e =
        let zero = eqb-true (step_of c line lent).code 0 e in
        let o = taken_as c line lent (request line) refl zero in
        rw o (kept_by (tokens line) lent (request line) (rw o at zero))
    kept_step false e = rw (refusals_change_nothing_lem c line lent (eqb-false (step_of c line lent).code 0 e)) k

kept_after : (c : Condition) (items : List WeightItem) (ls : List Sent) → Keeps c items → Keeps (condition_after c ls) (items_from items (history c ls))
unfolding condition_after history items_from
kept_after c items [] k = k
kept_after c items (l ∷ ls) k =
    kept_after (step_of c l.line l.lent).after _ ls (kept_step c items k l.line l.lent (eqb (step_of c l.line l.lent).code 0) refl)

kept : (ls : List Sent) → Keeps (condition_after empty ls) (items_taken ls)
kept ls = kept_after empty [] ls (none_kept empty refl)

pub sums_are_of_the_items_lem : SumsAreOfTheItems
sums_are_of_the_items_lem ls = (kept ls).sums

pub items_can_be_taken_lem : ItemsCanBeTaken
items_can_be_taken_lem ls = (kept ls).taken

-- ---- the load that a weighed line makes
module _ (c : Condition) (line : List ℕ) (lent fs : ℕ) (asked : request line ≡ Some (WeighingLine (Weighed fs))) (taken : (step_of c line lent).code ≡ 0) where
  done : step_of c line lent ≡ outcome_of c (tokens line) lent (WeighingLine (Weighed fs))
  done = taken_as c line lent (Some (WeighingLine (Weighed fs))) asked taken

  own : (weighing_operation c (Weighed fs)).code ≡ 0
  unfolding outcome_of
  own = ap (λ (o : Outcome). o.code) (sym done) ∙ taken

  made : (step_of c line lent).after.load ≡ Some (weighed_load c.sums fs)
  unfolding outcome_of
  made = ap (λ (o : Outcome). o.after.load) done ∙ ap (λ (d : Condition). d.load) (sym (weighed_effect c fs own))

  enough : 100 ≤ c.sums.tonnes
  enough = leb-true 100 c.sums.tonnes (weighed_passed c fs own).1

pub weighed_is_within_lem : WeighedIsWithin
weighed_is_within_lem c line lent fs w asked taken = (
  weighed_load c.sums fs,
  made c line lent fs asked taken,
  (weighed_is_a_load c.sums fs).1 ((sums_of_items_lem c.sums).0 w.sums, enough c line lent fs asked taken, (rise_range fs).0 (weighed_passed c fs (own c line lent fs asked taken)).0),
)

pub weighed_makes_the_load_lem : WeighedMakesTheLoad
weighed_makes_the_load_lem ls line lent fs asked taken =
    let c = condition_after empty ls in
    let k = kept ls in
    let r = taken_range (items_taken ls) k.taken in
    let least : 100 ≤ (sums_of (items_taken ls)).tonnes = rw k.sums at (enough c line lent fs asked taken) in
    let rise = (rise_range fs).0 (weighed_passed c fs (own c line lent fs asked taken)).0 in (
      weighed_load (sums_of (items_taken ls)) fs,
      made c line lent fs asked taken ∙ rw k.sums refl,
      record {
        d = refl;
        kg = kg_of_sums (sums_of (items_taken ls)) r (omega arith);
        rise = refl;
        range = (weighed_is_a_load (sums_of (items_taken ls)) fs).1 (r, least, rise);
      },
    )

-- ---- which lines they are
pub weighing_stands_alone_lem : WeighingStandsAlone
weighing_stands_alone_lem line lent w = (
  λ a. (a.room, a.sound, (taken_as_weighing (tokens line) w).0 a.asked),
  λ (room, sound, e). record { room = room; sound = sound; asked = (taken_as_weighing (tokens line) w).1 e },
)

pub weighing_with_other_lem : WeighingWithOther
weighing_with_other_lem c line lent word behind room sound o e more =
    code_of c line lent None (record { room = room; sound = sound; asked = rw e (weighing_only word behind o (rw e at more)) })
