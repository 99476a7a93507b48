-- The records of a condition within its limits, printed and spelled, can be sent to an empty panel.
use mathlib.Core.Path.{◌≡◌, refl, sym, ◌∙◌, ap}
use mathlib.Core.Bool.{Bool, true, false, cond}
use mathlib.Core.List.{List, [], ◌∷◌, ◌++◌, map, append-nil}
use Prim.Native.Nat.{ℕ, suc, ◌+◌, ◌-◌, ◌≤◌, ◌<◌}
use native.Mathlib.Omega.{arith}
use lib.Dec.{eqb}
use borrow.Author.Tests.{le-leb}
use lib.ListN.{length, get_or, replicate, length-append, length-map, get_or-map}
use lib.Seq.{set_at, append_snoc, length-take-le, get_or-take}
use Rattle.whole.specs.Lists.{all, sum_of}
use Rattle.record.specs.declared.Ship.{Ship}
use Rattle.record.specs.declared.Load.{Load}
use Rattle.record.specs.declared.Column.{Column}
use Rattle.record.specs.declared.Columns.{Columns}
use Rattle.record.specs.declared.Hold.{Hold}
use Rattle.record.specs.declared.WeightItem.{WeightItem}
use Rattle.record.specs.Filler.{no_column, no_columns, no_part, no_hold, no_item, no_sums}
use Rattle.record.specs.Held.{held, parts_of}
use Rattle.std.specs.Prelude.{Option, Some, None, Ok}
use Rattle.columns.specs.Columns.{column_answer, with_column}
use Rattle.limits.specs.Limits.{ship_limits, load_limits}
use Rattle.grain.specs.Sum.{weight_moment}
use Rattle.limits.specs.Ranges.{ItemRange}
use Rattle.limits.proofs.Ranges.{ship_range, load_range, column_range, hold_range, item_range}
use Rattle.weights.specs.Weights.{has_room, with_item}
use Rattle.weights.specs.Items.{sums_of, SumsRange, items_of}
use Rattle.weights.proofs.Items.{sums_of_items_lem, items_of_sums, more_is, more_range, add_all, added}
use Rattle.text.specs.Token.{Token}
use Rattle.items.proofs.Yields.{Each}
use Rattle.spelling.specs.Spelling.{spell}
use Rattle.condition.specs.declared.Condition.{Condition}
use Rattle.condition.specs.Condition.{empty, is_held}
use Rattle.storing.specs.Storing.{with_ship, with_load, with_columns, with_hold, with_sums}
use Rattle.storing.proofs.Taking.{taken_is}
use Rattle.storing.proofs.Columns.{Fitting, held_length, fitting_more, held_more}
use Rattle.operations.specs.Operations.{taken}
use Rattle.operations.proofs.Effects.{ship_passed, ship_taken, load_passed, load_taken, column_passed, column_taken, column_effect, hold_passed, hold_taken, weight_taken}
use Rattle.panel.specs.Step.{Outcome, answered, outcome_of, step_of, condition_after, outcomes}
use Rattle.sending.specs.Within.{Within, ColumnsTaken}
use Rattle.sending.specs.Printed.{ship_tokens, load_tokens, column_tokens, hold_tokens, item_tokens}
use Rattle.sending.specs.Sending.{form_if, form_of, hold_forms, as_lines, SameHold}
use Rattle.sending.specs.Laws.{RecordsCanBeSent}
use Rattle.sending.proofs.Lines.{line_does}
use Rattle.sending.proofs.Printed.{each_from, print_ship, print_load, print_column, print_hold, print_item}
use Rattle.sending.proofs.Refilled.{refilled, refilled_place, GoodPart, GoodHold, same_place, refilled_passes}

-- ---- what one record does
module _ (lent : ℕ) (room : 96 ≤ lent) (c : Condition) where
  ship_does : (s : Ship) → ship_limits s ≡ true → step_of c (spell (ship_tokens s)) lent ≡ answered (taken (with_ship c s))
  unfolding outcome_of
  ship_does s e = line_does (print_ship s ((ship_range s).0 e)) c lent room ∙ ap answered (ship_taken c s e)

  load_does : (l : Load) → load_limits l ≡ true → step_of c (spell (load_tokens l)) lent ≡ answered (taken (with_load c l))
  unfolding outcome_of
  load_does l e = line_does (print_load l ((load_range l).0 e)) c lent room ∙ ap answered (load_taken c l e)

  column_does : (k : Column) → length k.kn ≡ 10 → column_answer (held c.columns) k ≡ Ok tt → step_of c (spell (column_tokens k)) lent ≡ answered (taken (with_columns c (with_column c.columns k)))
  unfolding outcome_of
  column_does k n e =
      line_does (print_column k ((column_range k).0 (taken_is (held c.columns) k e).limits) n) c lent room
      ∙ ap answered (column_taken c k e)

  hold_does : (n : ℕ) (h : Hold) → GoodHold n h → step_of c (spell (hold_tokens n h)) lent ≡ answered (taken (with_hold c n (refilled h) (weight_moment (refilled h))))
  unfolding outcome_of
  hold_does n h g =
      line_does (print_hold n h g) c lent room ∙ ap answered (hold_taken c n (refilled h) (refilled_passes n h g))

  item_does : (i : WeightItem) → ItemRange i → has_room c.sums i ≡ true → step_of c (spell (item_tokens i)) lent ≡ answered (taken (with_sums c (with_item c.sums i)))
  unfolding outcome_of
  item_does i r h = line_does (print_item i r) c lent room ∙ ap answered (weight_taken c i ((item_range i).1 r) h)

-- ---- forms that are sent one after the other, each taken with 00, lead from one condition to another
data Leads (lent : ℕ) : Condition → List (List Token) → Condition → Type 0 where
  none : {c : Condition} → Leads lent c [] c
  one : {c d e : Condition} {ts : List Token} {fs : List (List Token)} → step_of c (spell ts) lent ≡ answered (taken d) → Leads lent d fs e → Leads lent c (ts ∷ fs) e

leads_then : {lent : ℕ} {c d e : Condition} {fs gs : List (List Token)} → Leads lent c fs d → Leads lent d gs e → Leads lent c (fs ++ gs) e
leads_then none m = m
leads_then (one s l) m = one s (leads_then l m)

leads_codes : {lent : ℕ} {c d : Condition} {fs : List (List Token)} → Leads lent c fs d → all (λ (o : Outcome). eqb o.code 0) (outcomes c (as_lines lent fs)) ≡ true
unfolding all outcomes
leads_codes none = refl
leads_codes (one s l) = rw s (leads_codes l)

leads_after : {lent : ℕ} {c d : Condition} {fs : List (List Token)} → Leads lent c fs d → condition_after c (as_lines lent fs) ≡ d
unfolding condition_after
leads_after none = refl
leads_after {lent = lent} (one {fs = fs} s l) = ap (λ (o : Outcome). condition_after o.after (as_lines lent fs)) s ∙ leads_after l

-- the columns with these behind them
abbrev with_all : Columns → List Column → Columns
with_all cs [] = cs
with_all cs (k ∷ ks) = with_all (with_column cs k) ks

-- on the way from the empty condition: a ship or none, a load or none, these columns, holds and figure, and no weight items
abbrev on : Option Ship → Option Load → Columns → List Hold → (figure : ℕ) → Condition
on x y cs hs t = record { ship = x; load = y; columns = cs; holds = hs; total = t; sums = no_sums }

module _ (lent : ℕ) (room : 96 ≤ lent) where
  ship_leads : (x : Option Ship) → ((s : Ship) → x ≡ Some s → ship_limits s ≡ true) → Leads lent empty (form_of ship_tokens x) (on x None no_columns (replicate 16 no_hold) 0)
  ship_leads (Some s) p = one (ship_does lent room empty s (p s refl)) none
  ship_leads None p = none

  module _ (x : Option Ship) where
    columns_lead : (cs : Columns) (ks : List Column) (hs : List Hold) → Fitting cs → ColumnsTaken (with_columns empty cs) ks → Each (λ k. length k.kn ≡ 10) ks →
        Leads lent (on x None cs hs 0) (map column_tokens ks) (on x None (with_all cs ks) hs 0) × (held (with_all cs ks) ≡ held cs ++ ks)
    columns_lead cs [] hs f t n = (none, sym (append-nil (held cs)))
    columns_lead cs (k ∷ ks) hs f t n =
        let e = column_passed (with_columns empty cs) k t.0 in
        let r = columns_lead (with_column cs k) ks hs (fitting_more cs k f e) (rw (← column_effect (with_columns empty cs) k t.0) at t.1) n.1 in
        (one (column_does lent room (on x None cs hs 0) k n.0 e) r.0, r.1 ∙ rw (held_more cs k f e) (append_snoc (held cs) k ks))

    load_leads : (y : Option Load) (cs : Columns) (hs : List Hold) → ((l : Load) → y ≡ Some l → load_limits l ≡ true) → Leads lent (on x None cs hs 0) (form_of load_tokens y) (on x y cs hs 0)
    load_leads (Some l) cs hs p = one (load_does lent room (on x None cs hs 0) l (p l refl)) none
    load_leads None cs hs p = none

    -- what the figure is on the way is of no account: it is true in every condition that lines can reach
    module _ (y : Option Load) (cs : Columns) where
      hold_leads : (here : Bool) (m : ℕ) (done rest : List Hold) (h : Hold) (t : ℕ) → length done ≡ m → (here ≡ true → GoodHold (suc m) h) →
          (u : ℕ) × Leads lent (on x y cs (done ++ no_hold ∷ rest) t) (form_if here (hold_tokens (suc m) h)) (on x y cs (done ++ cond here (refilled h) no_hold ∷ rest) u)
      hold_leads true m done rest h t n g =
          let put = hold_does lent room (on x y cs (done ++ no_hold ∷ rest) t) (suc m) h (g refl) in
          (_, one (rw (set_at done no_hold rest (refilled h) (suc m - 1) (omega arith)) at put) none)
      hold_leads false m done rest h t n g = (t, none)

      holds_lead : (m : ℕ) (done hs : List Hold) (t : ℕ) → length done ≡ m →
          ((i n : ℕ) → m + i + 1 ≡ n → i < length hs → is_held (get_or hs i no_hold) ≡ true → GoodHold n (get_or hs i no_hold)) →
          (u : ℕ) × Leads lent (on x y cs (done ++ replicate (length hs) no_hold) t) (hold_forms (suc m) hs) (on x y cs (done ++ map refilled_place hs) u)
      unfolding hold_forms
      holds_lead m done [] t n g = (t, none)
      holds_lead m done (h ∷ hs) t n g =
          let here = hold_leads (is_held h) m done (replicate (length hs) no_hold) h t n (g 0 (suc m) (omega arith) (omega arith)) in
          let behind = holds_lead (suc m) (done ++ refilled_place h ∷ []) hs here.0 (length-append done (refilled_place h ∷ []) ∙ omega arith) (λ i k e l. g (suc i) k (omega arith) (omega arith)) in
          (behind.0, leads_then here.1 (rw (append_snoc done (refilled_place h) (replicate (length hs) no_hold), append_snoc done (refilled_place h) (map refilled_place hs)) at behind.1))

-- ---- weight items, sent to any condition, add their sums
items_lead :
    (lent : ℕ) → 96 ≤ lent → (c : Condition) (items : List WeightItem) → SumsRange c.sums → ((n : ℕ) → n < length items → ItemRange (get_or items n no_item)) →
    c.sums.tonnes + (sums_of items).tonnes ≤ 400000 → Leads lent c (map item_tokens items) (with_sums c (add_all c.sums items))
unfolding sum_of add_all
items_lead lent room c [] range r most = none
items_lead lent room c (i ∷ items) range r most =
    let fits = le-leb (c.sums.tonnes + i.tonnes) 400000 (omega arith) in
    let m = more_is c.sums i range (r 0 (omega arith)) fits in
    one (item_does lent room c i (r 0 (omega arith)) fits)
    (items_lead lent room (with_sums c (with_item c.sums i)) items (more_range c.sums i range (r 0 (omega arith)) fits) (λ n h. r (suc n) (omega arith)) (rw m (omega arith)))

-- ---- what a condition within its limits gives
module _ (c : Condition) (w : Within c) where
  tens : Each (λ k. length k.kn ≡ 10) (held c.columns)
  tens =
      let l = held_length c.columns (record { places = w.places.column_places; count = w.places.column_count }) in
      each_from (λ k. length k.kn ≡ 10) (held c.columns) no_column
      (λ i b. let p : i < c.columns.count = omega arith in rw (get_or-take c.columns.count c.columns.places i no_column p) (w.places.kn_places i p))

  good : (i n : ℕ) → 0 + i + 1 ≡ n → i < length c.holds → is_held (get_or c.holds i no_hold) ≡ true → GoodHold n (get_or c.holds i no_hold)
  good i n e b q =
      let h = get_or c.holds i no_hold in
      let p : i < 16 = omega (arith, w.places.hold_places) in
      let s : i + 1 ≡ n = omega arith in
      let t = rw s at (hold_passed empty (i + 1) h (w.holds i p q)) in
      let r = (hold_range h).0 t.limits in
      let l = length-take-le h.head.count h.parts (omega (arith, w.places.part_places i p)) in
      record {
        passed = t;
        places = w.places.part_places i p;
        parts = record {
          every = each_from (GoodPart h.head.mode) (parts_of h) no_part
              (λ j d. record { range = r.4 j d; places = rw (get_or-take h.head.count h.parts j no_part (omega arith)) (w.places.cell_places i p j (omega arith)) });
          some = omega arith;
          most = omega arith;
        };
      }

  same_holds : (n : ℕ) → n < 16 → SameHold (get_or c.holds n no_hold) (get_or (map refilled_place c.holds) n no_hold)
  same_holds n p =
      rw (get_or-map refilled_place c.holds n no_hold)
      (same_place (n + 1) (get_or c.holds n no_hold) (good n (n + 1) (omega arith) (omega (arith, w.places.hold_places))))

pub records_can_be_sent_lem : RecordsCanBeSent
records_can_be_sent_lem c lent w room =
    let x = c.ship in
    let y = c.load in
    let ks = held c.columns in
    let cs = with_all no_columns ks in
    let hs = replicate 16 no_hold in
    let ship = ship_leads lent room x (λ s e. ship_passed empty s (w.ship s e)) in
    let columns = columns_lead lent room x no_columns ks hs (record { places = refl; count = omega arith }) w.columns (tens c w) in
    let load = load_leads lent room x y cs hs (λ l e. load_passed empty l (w.load l e)) in
    let put = holds_lead lent room x y cs 0 [] c.holds 0 refl (good c w) in
    let holds : Leads lent (on x y cs hs 0) (hold_forms 1 c.holds) (on x y cs (map refilled_place c.holds) put.0) = rw w.places.hold_places at put.1 in
    let given = items_of_sums c.sums ((sums_of_items_lem c.sums).0 w.sums) in
    let items = items_lead lent room (on x y cs (map refilled_place c.holds) put.0) (items_of c.sums) (omega arith, omega arith) given.0.ranges (omega (arith, given.0.most)) in
    let all = leads_then ship (leads_then columns.0 (leads_then load (leads_then holds items))) in (
      leads_codes all,
      rw (leads_after all)
          (record {
            ship = refl;
            columns = columns.1;
            load = refl;
            places = length-map c.holds refilled_place ∙ w.places.hold_places;
            holds = same_holds c w;
            sums = added (items_of c.sums) given.0 ∙ given.1;
          }),
    )
