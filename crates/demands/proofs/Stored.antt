-- Demand 1: what a line that is taken brings is stored, and its reply shows the code.
use mathlib.Core.Path.{◌≡◌, refl, sym, ap, ◌∙◌}
use mathlib.Core.Bool.{true}
use mathlib.Core.List.{List}
use Prim.Native.Nat.{ℕ, ◌≤◌}
use native.Mathlib.Omega.{arith}
use native.Mathlib.Nat.{lt_of_not-le}
use native.Mathlib.Decide.{dec_le}
use borrow.Author.Tests.{lt-ltb}
use Rattle.whole.specs.Lists.{is_one_of}
use Rattle.record.specs.declared.Weighing.TheVariants.{Weight, Weighed, Unweigh}
use Rattle.stability.specs.declared.Shortfall.TheVariants.{ShortOfGm, ShortAtHeel, ShortBeyond, ShortOfArea}
use Rattle.stability.specs.Verdict.{Judgement, judgement_code, verdict_of}
use Rattle.text.specs.Token.{tokens}
use Rattle.std.specs.Prelude.{Option, Some, None, Ok, Err}
use Rattle.line_codes.specs.Line.{Reading, reading_of}
use Rattle.forms.specs.declared.Request.{Request}
use Rattle.forms.specs.declared.Request.TheVariants.{ShipLine, ColumnLine, LoadLine, HoldLine, DropLine, JudgeLine, ClearLine, ShowLine, TotalLine, WeighingLine}
use Rattle.reply.specs.Replies.{answer_reply}
use Rattle.reply.specs.Shown.{RefusalShown}
use Rattle.reply.proofs.Shown.{answer_shown, refusal_shown}
use Rattle.condition.specs.declared.Condition.{Condition}
use Rattle.condition.proofs.Empty.{starts_empty_lem}
use Rattle.judging.specs.Judge.{Judged, basis_at, judged_of, refusal_code}
use Rattle.judging.proofs.Shown.{refusals, judged_by_lem}
use Rattle.operations.proofs.Stores.{ship_stored, load_stored, column_stored, hold_stored, hold_dropped, item_stored, weighed_stored, items_removed}
use Rattle.panel.specs.Step.{Outcome, verdict_given, form_shown, outcome_of, step_of}
use Rattle.panel.proofs.Effects.{judge_same}
use Rattle.demands.specs.Codes.{request, Asks}
use Rattle.demands.specs.Demands.{Stores, RecordsAreStored, RepliesShowTheCode}
use Rattle.demands.proofs.Asked.{asked_for, none_applies, short, at_reading, hears, asked, taken_as}

module _ (c : Condition) (line : List ℕ) (lent : ℕ) where
  -- ---- what is stored
  module _ (zero : (step_of c line lent).code ≡ 0) where
    module _ (k : Option Request) (e : request line ≡ k) where
      done : step_of c line lent ≡ asked_for c line lent k
      done = taken_as c line lent k e zero

      own : (asked_for c line lent k).code ≡ 0
      own = ap (λ (o : Outcome). o.code) (sym done) ∙ zero

      after : (step_of c line lent).after ≡ (asked_for c line lent k).after
      after = ap (λ (o : Outcome). o.after) done

    stores : Stores c line (step_of c line lent).after
    unfolding outcome_of
    stores =
        record {
          ship = λ s e. rw (after (Some (ShipLine s)) e) (ship_stored c s (own (Some (ShipLine s)) e));
          load = λ l e. rw (after (Some (LoadLine l)) e) (load_stored c l (own (Some (LoadLine l)) e));
          column = λ k e. rw (after (Some (ColumnLine k)) e) (column_stored c k (own (Some (ColumnLine k)) e));
          hold = λ n h e. rw (after (Some (HoldLine n h)) e) (hold_stored c n h (own (Some (HoldLine n h)) e));
          drop = λ n e. rw (after (Some (DropLine n)) e) (hold_dropped c n (own (Some (DropLine n)) e));
          judge = λ e. after (Some JudgeLine) e ∙ judge_same c (judged_of c);
          clear = λ e. rw (after (Some ClearLine) e) starts_empty_lem;
          show = λ e. after (Some ShowLine) e;
          total = λ e. after (Some TotalLine) e;
          weight = λ i e. rw (after (Some (WeighingLine (Weight i))) e) (item_stored c i (own (Some (WeighingLine (Weight i))) e));
          weighed = λ fs e. rw (after (Some (WeighingLine (Weighed fs))) e) (weighed_stored c fs (own (Some (WeighingLine (Weighed fs))) e));
          unweigh = λ e. rw (after (Some (WeighingLine Unweigh)) e) (items_removed c);
        }

  -- ---- the reply of every line but judge, a show with room for its reply, and total
  module _ (room : 96 ≤ lent) (other : Asks line lent (Some JudgeLine) → ⊥) (unshown : Asks line lent (Some ShowLine) → 2100 ≤ lent → ⊥) (uncounted : Asks line lent (Some TotalLine) → ⊥) where
    abbrev Answered : Outcome → Type 0
    Answered o = o.reply ≡ answer_reply o.code

    answered_request : reading_of line ≡ Ok tt → (o : Option Request) → request line ≡ o → Answered (asked_for c line lent o)
    unfolding outcome_of
    answered_request s (Some (ShipLine x)) e = refl
    answered_request s (Some (ColumnLine k)) e = refl
    answered_request s (Some (LoadLine l)) e = refl
    answered_request s (Some (HoldLine n h)) e = refl
    answered_request s (Some (DropLine n)) e = refl
    answered_request s (Some JudgeLine) e = absurd (other (record { room = room; sound = none_applies line s; asked = e }))
    answered_request s (Some ClearLine) e = refl
    answered_request s (Some ShowLine) e = by (dec_le 2100 lent)
      where
        by : Dec (2100 ≤ lent) → Answered (form_shown c (tokens line) lent)
        by (yes h) = absurd (unshown (record { room = room; sound = none_applies line s; asked = e }) h)
        by (no h) = rw (lt-ltb lent 2100 (lt_of_not-le h))
    answered_request s (Some TotalLine) e = absurd (uncounted (record { room = room; sound = none_applies line s; asked = e }))
    answered_request s (Some (WeighingLine w)) e = refl
    answered_request s None e = refl

    answered_by : (t : Reading) → reading_of line ≡ t → Answered (step_of c line lent)
    answered_by (Ok tt) e = rw (hears c line lent room e).outcome (answered_request e (request line) refl)
    answered_by (Err f) e = rw (at_reading c line lent room (Err f) e)

-- ---- judge's reply
-- no verdict has a code of the refusals
no_verdict : (j : Judgement) → is_one_of refusals (judgement_code j) ≡ true → ⊥
unfolding is_one_of
no_verdict (Ok u) e = let z : ◌≡◌ {A = ℕ} 0 1 = cc in omega arith
no_verdict (Err ShortOfGm) e = let z : ◌≡◌ {A = ℕ} 0 1 = cc in omega arith
no_verdict (Err ShortAtHeel) e = let z : ◌≡◌ {A = ℕ} 0 1 = cc in omega arith
no_verdict (Err ShortBeyond) e = let z : ◌≡◌ {A = ℕ} 0 1 = cc in omega arith
no_verdict (Err ShortOfArea) e = let z : ◌≡◌ {A = ℕ} 0 1 = cc in omega arith

judge_shows : (c : Condition) → is_one_of refusals (verdict_given c (judged_of c)).code ≡ true → RefusalShown (verdict_given c (judged_of c)).code (verdict_given c (judged_of c)).reply
judge_shows c =
    judged_by_lem c (λ (j : Judged). is_one_of refusals (verdict_given c j).code ≡ true → RefusalShown (verdict_given c j).code (verdict_given c j).reply)
    (λ r t. refusal_shown (refusal_code r))
    (λ s l i t. absurd (no_verdict (verdict_of s (basis_at c l i)).judgement t))

-- ---- all of them
pub records_are_stored_lem : RecordsAreStored
records_are_stored_lem = stores

pub replies_show_the_code_lem : RepliesShowTheCode
unfolding outcome_of
replies_show_the_code_lem c line lent =
    record {
      short = λ h. rw (short c line lent h);
      judge = λ a. rw (asked c line lent (Some JudgeLine) a) (judge_shows c);
      other = λ room other unshown uncounted. rw (answered_by c line lent room other unshown uncounted (reading_of line) refl) (answer_shown (step_of c line lent).code);
    }
