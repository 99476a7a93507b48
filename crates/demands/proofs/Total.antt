-- Document 02, P4: the stored figure is the sum over the holds, and total shows it.
use mathlib.Core.Path.{◌≡◌, refl, sym, ◌∙◌, ap, subst}
use mathlib.Core.Bool.{Bool, true, false}
use mathlib.Core.List.{List}
use Prim.Native.Nat.{ℕ, ◌≤◌, ◌<◌}
use native.Mathlib.Omega.{arith}
use lib.ListN.{length, get_or}
use borrow.Author.Tests.{ltb-false}
use Rattle.record.specs.declared.Hold.{Hold}
use Rattle.record.specs.Filler.{no_hold}
use Rattle.limits.specs.Limits.{hold_limits}
use Rattle.text.specs.Token.{tokens}
use Rattle.grain.specs.Figures.{total}
use Rattle.grain.specs.Sum.{weight_moment, total_weight}
use Rattle.grain.proofs.Totals.{total_same, sum_total}
use Rattle.grain.proofs.Weights.{hold_within}
use Rattle.forms.specs.declared.Request.TheVariants.{TotalLine}
use Rattle.reply.specs.Shown.{TotalShown}
use Rattle.reply.proofs.Shown.{total_shown_lem}
use Rattle.condition.specs.declared.Condition.{Condition}
use Rattle.condition.specs.Condition.{empty, is_held}
use Rattle.total.specs.Total.{weight}
use Rattle.total.proofs.Figure.{total_le}
use Rattle.showing.proofs.Own.{taken_as_total, total_only}
use Rattle.std.specs.Prelude.{Some, None}
use Rattle.panel.specs.Step.{Outcome, outcome_of, step_of, condition_after}
use Rattle.sending.specs.Within.{Within}
use Rattle.sending.specs.Sending.{SameRecords, record_forms, as_lines}
use Rattle.sending.proofs.Weighing.{same_weight}
use Rattle.sending.proofs.Sending.{records_can_be_sent_lem}
use Rattle.demands.specs.Codes.{Asks}
use Rattle.demands.specs.Total.{StoredIsTheSum, TotalStandsAlone, TotalWithItems, TotalGiven, TotalsAreShown, StoredIsShown, SentWeighTheSame}
use Rattle.demands.proofs.Asked.{asked, code_of}
use Rattle.demands.proofs.Within.{hold_sound}
use Rattle.demands.proofs.Reached.{reached_are_within_lem}

pub stored_is_the_sum_lem : StoredIsTheSum
stored_is_the_sum_lem ls = (reached_are_within_lem ls).total

pub total_stands_alone_lem : TotalStandsAlone
total_stands_alone_lem line lent = (
  λ a. (a.room, a.sound, (taken_as_total (tokens line)).0 a.asked),
  λ (room, sound, e). record { room = room; sound = sound; asked = (taken_as_total (tokens line)).1 e },
)

pub total_with_items_lem : TotalWithItems
total_with_items_lem c line lent behind room sound e more =
    code_of c line lent None (record { room = room; sound = sound; asked = rw e (total_only behind more) })

-- ---- the sum has fewer than twenty digits
module _ (c : Condition) (w : Within c) where
  weight_le : weight c < 100000000000000000000
  weight_le =
      omega (arith, total_le c.holds w.places.hold_places (λ i p e. let t = hold_sound c w i p e in record { limits = t.limits; fits = t.fits }))

-- what is shown is the stored figure
given : (c : Condition) (line : List ℕ) (lent : ℕ) → c.total < 100000000000000000000 → Asks line lent (Some TotalLine) → TotalGiven c c.total (step_of c line lent)
unfolding outcome_of
given c line lent small a =
    let o = asked c line lent (Some TotalLine) a in
    record {
      code = ap (λ (o : Outcome). o.code) o;
      after = ap (λ (o : Outcome). o.after) o;
      shown = rw o (total_shown_lem c.total small);
    }

pub stored_is_shown_lem : StoredIsShown
stored_is_shown_lem c line lent small a = given c line lent (omega arith) a

pub totals_are_shown_lem : TotalsAreShown
totals_are_shown_lem c line lent w a =
    let g = given c line lent (omega (arith, w.total, weight_le c w)) a in
    record {
      code = g.code;
      after = g.after;
      shown = subst (λ (n : ℕ). TotalShown n (step_of c line lent).reply) w.total g.shown;
    }

-- ---- the same records weigh the same
-- a hold has no more parts than places
parts_by_lem : (h : Hold) (x : Bool) → is_held h ≡ x → (is_held h ≡ true → hold_limits h ≡ true) → length h.parts ≡ 6 → h.head.count ≤ length h.parts
parts_by_lem h true e l n = omega (arith, (hold_within h (l e)).count)
parts_by_lem h false e l n = omega (arith, ltb-false 0 h.head.count e)

parts_le : (c : Condition) → Within c → (n : ℕ) → n < 16 → (get_or c.holds n no_hold).head.count ≤ length (get_or c.holds n no_hold).parts
parts_le c w n p =
    let h = get_or c.holds n no_hold in
    parts_by_lem h (is_held h) refl (λ e. (hold_sound c w n p e).limits) (w.places.part_places n p)

same_sum : (c d : Condition) → Within c → Within d → SameRecords c d → weight d ≡ weight c
unfolding total_weight
same_sum c d w v s =
    sum_total weight_moment d.holds no_hold
    ∙ ap (λ (n : ℕ). total n (λ i. weight_moment (get_or d.holds i no_hold))) v.places.hold_places
    ∙ total_same 16 _ _ (λ i p. same_weight (get_or c.holds i no_hold) (get_or d.holds i no_hold) (s.holds i p) (parts_le c w i p) (parts_le d v i p))
    ∙ sym (sum_total weight_moment c.holds no_hold ∙ ap (λ (n : ℕ). total n (λ i. weight_moment (get_or c.holds i no_hold))) w.places.hold_places)

pub sent_weigh_the_same_lem : SentWeighTheSame
sent_weigh_the_same_lem c lent w room =
    let ls = as_lines lent (record_forms c) in
    let v = reached_are_within_lem ls in
    v.total ∙ same_sum c (condition_after empty ls) w v (records_can_be_sent_lem c lent w room).1 ∙ sym w.total
