-- A reading takes tokens from the front, and reads them alike whatever stands behind. A form's law follows its grammar.
use mathlib.Core.Path.{◌≡◌, refl, sym, ◌∙◌, ap}
use mathlib.Core.List.{List, [], ◌∷◌, ◌++◌, append_assoc}
use Prim.Native.Nat.{ℕ, zero, suc}
use native.Mathlib.Omega.{arith}
use Rattle.std.specs.Prelude.{Option, Some, None}
use Rattle.record.specs.declared.Mode.{Mode}
use Rattle.record.specs.declared.Mode.TheVariants.{Trimmed, Voided, Partial}
use Rattle.record.specs.declared.Cell.{Cell}
use Rattle.record.specs.declared.Part.{Part}
use Rattle.text.specs.Token.{Token, opened, closed, run, number_of}
use Rattle.items.specs.Grammar.{Parsed, got, none, ◌and_then◌, open?, close?, run?, head?, behind?, number?, numbers?, nth, last_numbers?, items?, some_of, several?}
use Rattle.parts.specs.declared.CellWord.{CellWord}
use Rattle.parts.specs.declared.PartWord.{PartWord}
use Rattle.parts.specs.declared.PartWord.TheVariants.{PlainWord, SplitWord}
use Rattle.parts.specs.Shape.{cell_named, numbers_of, cell_of, cell_by, cell?, part_named, section_record, slack_record, split_record, section?, slack?, split?, body?, part?}
use Rattle.forms.specs.declared.RuleWord.{RuleWord}
use Rattle.forms.specs.declared.FormWord.{FormWord}
use Rattle.forms.specs.declared.FormWord.TheVariants.{ShipWord, ColumnWord, LoadWord, HoldWord, DropWord, JudgeWord, ClearWord}
use Rattle.forms.specs.declared.Request.TheVariants.{ColumnLine, LoadLine, HoldLine, DropLine, JudgeLine, ClearLine}
use Rattle.forms.specs.declared.Request.{Request}
use Rattle.forms.specs.Shape.{hold_record, rule_named, ship_request, ship_by, ship?, column?, load?, mode_named, parts?, hold?, drop?, bare?, form_word, form_by, form?}

-- the tokens that were read, in front of those that are left; behind them anything may stand
pub record Takes {A : Type 0} (p : List Token → Parsed A) (ts : List Token) (a : A) (us : List Token) : Type 0 where
  pub front : List Token
  pub same : ts ≡ front ++ us
  pub again : (ws : List Token) → p (front ++ ws) ≡ got a ws

abbrev pub Frames : {A : Type 0} → (List Token → Parsed A) → Type 0
Frames {A = A} p = (ts : List Token) (a : A) (us : List Token) → p ts ≡ got a us → Takes p ts a us

pub clash : {A B : Type 0} {a : A} {us : List Token} → none ≡ got a us → B
clash e = let z : ◌≡◌ {A = ℕ} 0 1 = cc in absurd (omega arith)

pub read_same : {A : Type 0} {a b : A} {ts us : List Token} → got a ts ≡ got b us → (a ≡ b) × (ts ≡ us)
read_same e = (cc, cc)

-- ---- the ways to join readings
frames_none : {A : Type 0} → Frames {A = A} (λ ts. none)
frames_none ts a us e = clash e

frames_got : {A : Type 0} (b : A) → Frames (λ ts. got b ts)
frames_got b ts a us e = let t = read_same e in record { front = []; same = t.1; again = λ ws. rw t.0 }

frames_behind : {W A : Type 0} {f : W → List Token → Parsed A} → ((w : W) → Frames (f w)) → (w : Option W) → Frames (behind? f w)
frames_behind h (Some w) = h w
frames_behind h None = frames_none

frames_then : {A B : Type 0} {p : List Token → Parsed A} {f : A → List Token → Parsed B} → Frames p → ((a : A) → Frames (f a)) → Frames (λ ts. p ts and_then f)
frames_then {A = A} {p = p} {f = f} first second ts b vs e = by (p ts) refl e
  where
    by : (r : Parsed A) → p ts ≡ r → (r and_then f) ≡ got b vs → Takes (λ ts. p ts and_then f) ts b vs
    by none q e = clash e
    by (got a us) q e =
        let t = first ts a us q in
        let u = second a us b vs e in
        record {
          front = t.front ++ u.front;
          same = t.same ∙ ap (λ l. t.front ++ l) u.same ∙ sym (append_assoc t.front u.front vs);
          again = λ ws. rw (append_assoc t.front u.front ws, t.again (u.front ++ ws)) (u.again ws);
        }

-- ---- a token
run_frames : Frames run?
run_frames [] a us e = clash e
run_frames (opened ∷ ts) a us e = clash e
run_frames (closed ∷ ts) a us e = clash e
run_frames (run r ∷ ts) a us e = let t = read_same e in record { front = run r ∷ []; same = ap (λ l. run r ∷ l) t.1; again = λ ws. rw t.0 }

open_frames : Frames open?
open_frames [] a us e = clash e
open_frames (opened ∷ ts) a us e = let t = read_same e in record { front = opened ∷ []; same = ap (λ l. opened ∷ l) t.1; again = λ ws. rw t.0 }
open_frames (closed ∷ ts) a us e = clash e
open_frames (run r ∷ ts) a us e = clash e

close_frames : Frames close?
close_frames [] a us e = clash e
close_frames (opened ∷ ts) a us e = clash e
close_frames (closed ∷ ts) a us e = let t = read_same e in record { front = closed ∷ []; same = ap (λ l. closed ∷ l) t.1; again = λ ws. rw t.0 }
close_frames (run r ∷ ts) a us e = clash e

head_frames : Frames head?
head_frames = frames_then open_frames (λ u. run_frames)

-- ---- numbers
number_frames : Frames number?
number_frames = frames_then run_frames (λ r. frames_behind frames_got (number_of r))

numbers_frame : (k : ℕ) → Frames (numbers? k)
unfolding numbers?
numbers_frame zero = frames_got []
numbers_frame (suc k) =
    frames_then number_frames (λ v.
    frames_then (numbers_frame k) (λ vs. frames_got (v ∷ vs)))

last_frame : (k : ℕ) → Frames (last_numbers? k)
unfolding last_numbers?
last_frame k =
    frames_then (numbers_frame k) (λ vs.
    frames_then close_frames (λ u. frames_got vs))

-- ---- items that open with a bracket and a word, up to a closing bracket
module _ {A : Type 0} (body : List ℕ → List Token → Parsed A) (each : (r : List ℕ) → Frames (body r)) where
  abbrev item : List Token → Parsed A
  item ts = head? ts and_then body

  abbrev more : ℕ → A → List Token → Parsed (List A)
  more k x us = items? k item us and_then λ xs ws. got (x ∷ xs) ws

  items_frame : (k : ℕ) → Frames (items? k item)
  unfolding items?
  items_frame zero ts a us e = frames_then close_frames (λ u. frames_got []) ts a us e
  items_frame (suc k) [] a us e = clash e
  items_frame (suc k) (closed ∷ ts) a us e =
      let t = read_same e in record { front = closed ∷ []; same = ap (λ l. closed ∷ l) t.1; again = λ ws. rw t.0 }
  items_frame (suc k) (run r ∷ ts) a us e = clash e
  items_frame (suc k) (opened ∷ []) a us e = clash e
  items_frame (suc k) (opened ∷ opened ∷ ts) a us e = clash e
  items_frame (suc k) (opened ∷ closed ∷ ts) a us e = clash e
  items_frame (suc k) (opened ∷ run r ∷ ts) a us e =
      let t : Takes (λ us. body r us and_then more k) ts a us = frames_then (each r) (λ x. frames_then (items_frame k) (λ xs. frames_got (x ∷ xs))) ts a us e in
      record { front = opened ∷ run r ∷ t.front; same = ap (λ l. opened ∷ run r ∷ l) t.same; again = t.again }

  some_frame : (xs : List A) → Frames (some_of xs)
  some_frame [] = frames_none
  some_frame (x ∷ xs) = frames_got (x ∷ xs)

  several_frame : (k : ℕ) → Frames (several? k item)
  several_frame k = frames_then (items_frame k) some_frame

-- ---- cells and parts
cell_by_frames : (w : CellWord) → Frames (cell_by w)
cell_by_frames w = frames_then (last_frame (numbers_of w)) (λ v. frames_got (cell_of w v))

abbrev cell_body : List ℕ → List Token → Parsed Cell
cell_body r us = behind? cell_by (cell_named r) us

cells_frame : (k : ℕ) → Frames (several? k cell?)
cells_frame k = several_frame cell_body (λ r. frames_behind cell_by_frames (cell_named r)) k

section_frames : Frames section?
section_frames =
    frames_then number_frames (λ v.
    frames_then (cells_frame 8) (λ cs. frames_got (section_record v cs)))

slack_frames : Frames slack?
slack_frames = frames_then (last_frame 4) (λ v. frames_got (slack_record v))

split_frames : Frames split?
split_frames = frames_then (last_frame 4) (λ v. frames_got (split_record v))

body_frames : (m : Mode) (w : PartWord) → Frames (body? m w)
body_frames Trimmed PlainWord = section_frames
body_frames Trimmed SplitWord = frames_none
body_frames Voided PlainWord = section_frames
body_frames Voided SplitWord = frames_none
body_frames Partial PlainWord = slack_frames
body_frames Partial SplitWord = split_frames

abbrev part_body : Mode → List ℕ → List Token → Parsed Part
part_body m r us = behind? (body? m) (part_named r) us

parts_frame : (m : Mode) (k : ℕ) → Frames (several? k (part? m))
parts_frame m k = several_frame (part_body m) (λ r. frames_behind (body_frames m) (part_named r)) k

-- ---- the forms
hold_by_frames : (n : ℕ) (m : Mode) → Frames (parts? n m)
hold_by_frames n m =
    frames_then number_frames (λ v.
    frames_then (parts_frame m 6) (λ ps. frames_got (HoldLine n (hold_record m v ps))))

hold_frames : Frames hold?
hold_frames =
    frames_then number_frames (λ n.
    frames_then run_frames (λ r. frames_behind (hold_by_frames n) (mode_named r)))

ship_by_frames : (w : RuleWord) → Frames (ship_by w)
ship_by_frames w = frames_then (last_frame 2) (λ v. frames_got (ship_request w v))

ship_frames : Frames ship?
ship_frames = frames_then run_frames (λ r. frames_behind ship_by_frames (rule_named r))

abbrev load_request : ℕ → List ℕ → Request
load_request d v = LoadLine (record { d = d; kg = nth v 0; fs = nth v 1 })

abbrev column_of : ℕ → ℕ → List ℕ → Request
column_of d km kn = ColumnLine (record { d = d; km = km; kn = kn })

column_frames : Frames column?
column_frames =
    frames_then number_frames (λ d.
    frames_then number_frames (λ km.
    frames_then open_frames (λ u.
    frames_then (last_frame 10) (λ kn.
    frames_then close_frames (λ u. frames_got (column_of d km kn))))))

load_frames : Frames load?
load_frames =
    frames_then number_frames (λ d.
    frames_then (last_frame 2) (λ v. frames_got (load_request d v)))

drop_frames : Frames drop?
drop_frames =
    frames_then number_frames (λ n.
    frames_then close_frames (λ u. frames_got (DropLine n)))

bare_frames : (r : Request) → Frames (bare? r)
bare_frames r = frames_then close_frames (λ u. frames_got r)

form_by_frames : (w : FormWord) → Frames (form_by w)
form_by_frames ShipWord = ship_frames
form_by_frames ColumnWord = column_frames
form_by_frames LoadWord = load_frames
form_by_frames HoldWord = hold_frames
form_by_frames DropWord = drop_frames
form_by_frames JudgeWord = bare_frames JudgeLine
form_by_frames ClearWord = bare_frames ClearLine

pub form_frames : Frames form?
form_frames = frames_then head_frames (λ r. frames_behind form_by_frames (form_word r))
