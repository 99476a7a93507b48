-- Demand 1: each code is given exactly where the paper's words give it.
use mathlib.Core.Path.{◌≡◌, refl, sym, ap, ◌∙◌}
use mathlib.Core.Bool.{Bool, true, false, not, ◌||◌}
use mathlib.Core.List.{List, [], ◌∷◌}
use mathlib.Core.Logic.{◌↔◌}
use Prim.Native.Nat.{ℕ, ◌≤◌, ◌<◌}
use native.Mathlib.Omega.{arith}
use native.Mathlib.Nat.{lt_of_not-le}
use native.Mathlib.Decide.{dec_le}
use lib.Dec.{eqb}
use borrow.Author.Tests.{eqb-true, not-true, lt-ltb, le-ltb}
use Rattle.whole.specs.Lists.{all, is_one_of}
use Rattle.whole.proofs.Lists.{clash, and_true}
use Rattle.record.specs.declared.Weighing.TheVariants.{Weight, Weighed, Unweigh}
use Rattle.line_codes.specs.declared.Fault.{Fault}
use Rattle.line_codes.specs.declared.Fault.TheVariants.{TooLong, BadByte, NotOneForm, BadNumber, NoShape}
use Rattle.text.specs.Token.{tokens}
use Rattle.line_codes.specs.Line.{Reading, reading_of, reading_code, fault_code}
use Rattle.line_codes.proofs.Codes.{line_code}
use Rattle.forms.specs.declared.Request.{Request}
use Rattle.forms.specs.declared.Request.TheVariants.{ShipLine, ColumnLine, LoadLine, HoldLine, DropLine, JudgeLine, ClearLine, ShowLine, TotalLine, WeighingLine}
use Rattle.condition.specs.declared.Condition.{Condition}
use Rattle.std.specs.Prelude.{Option, Some, None, Ok, Err}
use Rattle.judging.specs.Judge.{Judged, judged_of, judged_code}
use Rattle.judging.proofs.Codes.{sound_codes}
use Rattle.operations.proofs.Codes.{ship_codes, load_codes, column_codes, hold_codes, drop_codes, weight_codes, weighed_codes}
use Rattle.operations.specs.Operations.{Change}
use Rattle.operations.proofs.Effects.{unweigh_taken}
use Rattle.panel.specs.Step.{Outcome, verdict_given, outcome_of, step_of}
use Rattle.panel.proofs.Codes.{codes_of, request_codes, right_by, request_code}
use Rattle.demands.specs.Codes.{request, Asks, EveryLine, ByOperation}
use Rattle.demands.specs.Demands.{CodesByOperation}
use Rattle.demands.proofs.Asked.{early, asked_for, requested, short, at_reading, hears, heard, asks, code_of}
use Rattle.demands.proofs.Within.{within_sound}

-- the code of judge's answer is shown
verdict_code : (c : Condition) (j : Judged) → (verdict_given c j).code ≡ judged_code j
verdict_code c (Err r) = refl
verdict_code c (Ok v) = refl

-- ---- every line
-- no request has 14, and a show alone has 16
only : (r : Request) → (is_one_of (codes_of r) 14 ≡ true → ⊥) × (is_one_of (codes_of r) 16 ≡ true → r ≡ ShowLine)
unfolding is_one_of
only (ShipLine s) = (λ e. clash e, λ e. cc)
only (ColumnLine k) = (λ e. clash e, λ e. cc)
only (LoadLine l) = (λ e. clash e, λ e. cc)
only (HoldLine n h) = (λ e. clash e, λ e. cc)
only (DropLine n) = (λ e. clash e, λ e. cc)
only JudgeLine = (λ e. clash e, λ e. cc)
only ClearLine = (λ e. clash e, λ e. cc)
only ShowLine = (λ e. clash e, λ e. cc)
only TotalLine = (λ e. clash e, λ e. cc)
only (WeighingLine (Weight i)) = (λ e. clash e, λ e. cc)
only (WeighingLine (Weighed fs)) = (λ e. clash e, λ e. cc)
only (WeighingLine Unweigh) = (λ e. clash e, λ e. cc)

-- no request has a code that is given before it is looked at
apart : (ms : List ℕ) (n : ℕ) → all (λ m. not (is_one_of early m)) ms ≡ true → is_one_of ms n ≡ true → is_one_of early n ≡ false
unfolding all is_one_of
apart [] n a e = clash e
apart (m ∷ ms) n a e = by (eqb n m) refl e (λ f. apart ms n (and_true (not (is_one_of early m)) (all (λ m. not (is_one_of early m)) ms) a).1 f)
  where
    by : (x : Bool) → eqb n m ≡ x → (x || is_one_of ms n) ≡ true → (is_one_of ms n ≡ true → is_one_of early n ≡ false) → is_one_of early n ≡ false
    by true p f more = rw (eqb-true n m p) (not-true _ (and_true (not (is_one_of early m)) (all (λ m. not (is_one_of early m)) ms) a).0)
    by false p f more = more f

module _ (c : Condition) (line : List ℕ) (lent : ℕ) where
  abbrev given : ℕ
  given = (step_of c line lent).code

  module _ (room : 96 ≤ lent) where
    to_fault : (f : Fault) → reading_of line ≡ Err f → given ≡ fault_code f
    to_fault f e = ap (λ (o : Outcome). o.code) (at_reading c line lent room (Err f) e)

    to_reading : (t : Reading) → reading_of line ≡ t → 0 < reading_code t → given ≡ reading_code t
    to_reading (Ok u) e h = absurd (omega arith)
    to_reading (Err f) e h = to_fault f e

    -- the code is that of the tests, or none that they give
    by_reading : (t : Reading) → reading_of line ≡ t → (n : ℕ) → is_one_of early n ≡ true → given ≡ n → reading_code t ≡ n
    unfolding all is_one_of
    by_reading (Ok tt) e n t g =
        let o = (hears c line lent room e).outcome in
        let l = request_code c (tokens line) lent (request line) in
        let a = apart request_codes (requested c line lent).code refl l in
        let b : is_one_of early n ≡ false = rw (sym (ap (λ (o : Outcome). o.code) o) ∙ g) at a in
        clash (sym b ∙ t)
    by_reading (Err f) e n t g = sym (to_fault f e) ∙ g

    same_code : (n : ℕ) → is_one_of early n ≡ true → 0 < n → (given ≡ n) ↔ (reading_code (reading_of line) ≡ n)
    same_code n t h = (by_reading (reading_of line) refl n t, λ e. to_reading (reading_of line) refl (omega arith) ∙ e)

  no_room : lent < 96 → given ≡ 15
  no_room h = ap (λ (o : Outcome). o.code) (short c line lent h)

  no_reading : (t : Reading) → reading_code t ≡ 15 → ⊥
  no_reading (Ok u) e = omega arith
  no_reading (Err TooLong) e = omega arith
  no_reading (Err BadByte) e = omega arith
  no_reading (Err NotOneForm) e = omega arith
  no_reading (Err BadNumber) e = omega arith
  no_reading (Err NoShape) e = omega arith

  -- a code of the tests, said with the room for its reply
  with_room : {P : Type 0} (n : ℕ) → is_one_of early n ≡ true → 0 < n → (n ≡ 15 → ⊥) → (reading_code (reading_of line) ≡ n) ↔ P → (given ≡ n) ↔ ((96 ≤ lent) × P)
  with_room {P} n t h f p = (λ e. by (dec_le 96 lent) e, λ (room, q). (same_code room n t h).1 (p.1 q))
    where
      by : Dec (96 ≤ lent) → given ≡ n → (96 ≤ lent) × P
      by (yes room) e = (room, p.0 ((same_code room n t h).0 e))
      by (no room) e = absurd (f (sym e ∙ no_room (lt_of_not-le room)))

  fifteen : (given ≡ 15) ↔ (lent < 96)
  unfolding is_one_of
  fifteen = (λ e. by (dec_le 96 lent) e, no_room)
    where
      by : Dec (96 ≤ lent) → given ≡ 15 → lent < 96
      by (yes room) e = absurd (no_reading (reading_of line) (by_reading room (reading_of line) refl 15 refl e))
      by (no room) e = lt_of_not-le room

  every_line : EveryLine line lent given
  unfolding is_one_of
  every_line =
      let l = line_code line in
      record {
        fifteen = fifteen;
        ten = with_room 10 refl (omega arith) (λ z. omega arith) l.ten;
        eleven = with_room 11 refl (omega arith) (λ z. omega arith) l.eleven;
        twelve = with_room 12 refl (omega arith) (λ z. omega arith) l.twelve;
        thirteen = with_room 13 refl (omega arith) (λ z. omega arith) l.thirteen;
      }

  -- a code that only one line has: that of no shape, or of one request
  one_asked : (n : ℕ) (o : Option Request) → is_one_of early n ≡ false → ((p : Option Request) → (asked_for c line lent p).code ≡ n → p ≡ o) → given ≡ n → Asks line lent o
  one_asked n o late only e =
      let h = heard c line lent n e late in
      asks c line lent o h (only (request line) (ap (λ (o : Outcome). o.code) (sym h.outcome) ∙ e))

  shapeless : (p : Option Request) → (asked_for c line lent p).code ≡ 14 → p ≡ None
  shapeless None e = refl
  shapeless (Some r) e = absurd ((only r).0 (rw e at (right_by c (tokens line) lent r).listed))

  shows : (p : Option Request) → (asked_for c line lent p).code ≡ 16 → p ≡ Some ShowLine
  shows None e = absurd (omega arith)
  shows (Some r) e = ap Some ((only r).1 (rw e at (right_by c (tokens line) lent r).listed))

  no_shape_lem : given ≡ 14 → Asks line lent None
  unfolding is_one_of
  no_shape_lem = one_asked 14 None refl shapeless

  -- show
  show_short : Asks line lent (Some ShowLine) → lent < 2100 → given ≡ 16
  unfolding outcome_of
  show_short a h = code_of c line lent (Some ShowLine) a ∙ rw (lt-ltb lent 2100 h)

  show_taken : Asks line lent (Some ShowLine) → 2100 ≤ lent → given ≡ 0
  unfolding outcome_of
  show_taken a h = code_of c line lent (Some ShowLine) a ∙ rw (le-ltb lent 2100 h)

  sixteen : given ≡ 16 → Asks line lent (Some ShowLine) × (lent < 2100)
  unfolding is_one_of
  sixteen e =
      let a = one_asked 16 (Some ShowLine) refl shows e in
      (a, by a (dec_le 2100 lent))
    where
      by : Asks line lent (Some ShowLine) → Dec (2100 ≤ lent) → lent < 2100
      by a (yes h) = absurd (omega (arith, show_taken a h))
      by a (no h) = lt_of_not-le h

  -- ---- all of them
  by_operation : ByOperation c line lent given
  unfolding outcome_of
  by_operation =
      record {
        every = every_line;
        no_shape = (no_shape_lem, λ a. code_of c line lent None a);
        ship = λ s a. rw (code_of c line lent (Some (ShipLine s)) a) (ship_codes c s);
        load = λ l a. rw (code_of c line lent (Some (LoadLine l)) a) (load_codes c l);
        column = λ k a. rw (code_of c line lent (Some (ColumnLine k)) a) (column_codes c k);
        hold = λ n h a. rw (code_of c line lent (Some (HoldLine n h)) a) (hold_codes c n h);
        drop = λ n a. rw (code_of c line lent (Some (DropLine n)) a) (drop_codes c n);
        judge = λ w a. rw (code_of c line lent (Some JudgeLine) a, verdict_code c (judged_of c)) (sound_codes c (within_sound c w));
        clear = λ a. code_of c line lent (Some ClearLine) a;
        sixteen = (sixteen, λ (a, h). show_short a h);
        show = show_taken;
        total = λ a. code_of c line lent (Some TotalLine) a;
        weight = λ i a. rw (code_of c line lent (Some (WeighingLine (Weight i))) a) (weight_codes c i);
        weighed = λ fs a. rw (code_of c line lent (Some (WeighingLine (Weighed fs))) a) (weighed_codes c fs);
        unweigh = λ a. code_of c line lent (Some (WeighingLine Unweigh)) a ∙ ap (λ (t : Change). t.code) (unweigh_taken c);
      }

pub codes_by_operation_lem : CodesByOperation
codes_by_operation_lem = by_operation
