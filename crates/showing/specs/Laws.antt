-- The laws of show, of the holds that have no split, and of the lines that show does not take: total and those of weights. Proved in
-- proofs/Laws.antt, Forms.antt, Boards.antt, Splits.antt and Own.antt.
use Rattle.std.specs.Prelude.{◌≡◌, List, [], ◌∷◌, ◌++◌, ◌↔◌, ℕ, ◌≤◌, length, replicate, Option, Some, None, Ok}
use Rattle.whole.specs.Bytes.{bytes}
use Rattle.record.specs.declared.Ship.{Ship}
use Rattle.record.specs.declared.Load.{Load}
use Rattle.record.specs.declared.Column.{Column}
use Rattle.record.specs.declared.Hold.{Hold}
use Rattle.record.specs.declared.Mode.TheVariants.{Partial}
use Rattle.record.specs.declared.Slack.TheVariants.{Split}
use Rattle.record.specs.declared.Part.{Part}
use Rattle.record.specs.declared.Weighing.{Weighing}
use Rattle.record.specs.declared.Weighing.TheVariants.{Weight, Weighed, Unweigh}
use Rattle.record.specs.Filler.{no_cell}
use Rattle.text.specs.Token.{Token, opened, closed, run, tokens, number_of}
use Rattle.items.specs.Grammar.{got}
use Rattle.parts.specs.Shape.{part?}
use Rattle.line_codes.specs.Line.{reading_of}
use Rattle.spelling.specs.Spelling.{spell, bracket_gaps}
use Rattle.forms.specs.declared.Request.{Request}
use Rattle.forms.specs.declared.Request.TheVariants.{ShipLine, ColumnLine, LoadLine, HoldLine, DropLine, JudgeLine, ClearLine, ShowLine, TotalLine, WeighingLine}
use Rattle.request.specs.Shape.{request_of}
use Rattle.showing.specs.Show.{form_inside, show_reply}

-- document 01's forms
pub data OfDocument01 : Option Request → Type 0 where
  ship : {s : Ship} → OfDocument01 (Some (ShipLine s))
  column : {k : Column} → OfDocument01 (Some (ColumnLine k))
  load : {l : Load} → OfDocument01 (Some (LoadLine l))
  hold : {n : ℕ} {h : Hold} → OfDocument01 (Some (HoldLine n h))
  drop : {n : ℕ} → OfDocument01 (Some (DropLine n))
  judge : OfDocument01 (Some JudgeLine)
  clear : OfDocument01 (Some ClearLine)

-- these tokens are a show of this form, which is one of document 01's
abbrev pub ShowOf : List Token → List Token → Type 0
ShowOf ts form = (ts ≡ opened ∷ run (bytes "show") ∷ form ++ closed ∷ []) × OfDocument01 (request_of form)

-- a line is taken as show exactly where it is a show of such a form: not of a show, of nothing, of two forms, of a part alone
abbrev pub TakenAsShow : Type 0
TakenAsShow = (ts : List Token) → (request_of ts ≡ Some ShowLine) ↔ ((form : List Token) × ShowOf ts form)

-- and that form is the one inside it
abbrev pub InsideIsTheForm : Type 0
InsideIsTheForm = (ts form : List Token) → ShowOf ts form → form_inside ts ≡ form

-- a form has at most 54 gaps beside brackets (spelling/specs/Spelling.antt): a hold of six parts with eight cells each
abbrev pub FormsHaveFewGaps : Type 0
FormsHaveFewGaps = (form : List Token) → OfDocument01 (request_of form) → bracket_gaps form ≤ 54

-- so the reply to a line of at most 2,000 bytes has at most 2,049, its newline with it: 6 fewer for `(show` and `)`, 54 more for gaps
abbrev pub ShowIsShort : Type 0
ShowIsShort = (line : List ℕ) → length line ≤ 2000 → request_of (tokens line) ≡ Some ShowLine → length (show_reply (tokens line)) ≤ 2049

-- some line reaches it
abbrev pub SomeShowIsSoLong : Type 0
SomeShowIsSoLong =
    (line : List ℕ) × (length line ≡ 2000) × (reading_of line ≡ Ok tt) × (request_of (tokens line) ≡ Some ShowLine) × (length (show_reply (tokens line)) ≡ 2049)

-- the form inside a line that passes the tests 10 to 13, spelled, passes them too where it has at most 2,000 bytes, and asks for the same
abbrev pub SpelledIsSound : Type 0
SpelledIsSound =
    (line : List ℕ) (form : List Token) → reading_of line ≡ Ok tt → ShowOf (tokens line) form → length (spell form) ≤ 2000 →
    reading_of (spell form) ≡ Ok tt

abbrev pub SpelledAsksTheSame : Type 0
SpelledAsksTheSame = (line : List ℕ) (form : List Token) → ShowOf (tokens line) form → request_of (tokens (spell form)) ≡ request_of form

-- document 02, P7: the modes whose parts have cells
pub data ModeOfCells : List ℕ → Type 0 where
  trimmed : ModeOfCells (bytes "trimmed")
  voided : ModeOfCells (bytes "voided")

-- a hold form with the word `split` anywhere behind such a mode has no shape
abbrev pub NoSplitAmongCells : Type 0
NoSplitAmongCells =
    (n mode : List ℕ) (front behind : List Token) → ModeOfCells mode →
    request_of (opened ∷ run (bytes "hold") ∷ run n ∷ run mode ∷ front ++ run (bytes "split") ∷ behind) ≡ None

-- in one of mode partial a part beside a board is read exactly from `(split LENGTH RUN LEFT RIGHT)`, whatever the four numbers: outside their limits they are 20,
-- not 14
pub record SplitOf (p : Part) (ts behind : List Token) : Type 0 where
  pub length : List ℕ
  pub along : List ℕ
  pub left : List ℕ
  pub right : List ℕ
  pub is : ts ≡ opened ∷ run (bytes "split") ∷ run length ∷ run along ∷ run left ∷ run right ∷ closed ∷ behind
  pub a : ℕ
  pub l : ℕ
  pub r : ℕ
  pub lengths : (number_of length ≡ Some p.length) × (number_of along ≡ Some a)
  pub breadths : (number_of left ≡ Some l) × (number_of right ≡ Some r)
  pub slack : p.slack ≡ Split a l r
  pub cells : (p.count ≡ 0) × (p.cells ≡ replicate 8 no_cell)

abbrev pub TakenAsSplit : Type 0
TakenAsSplit =
    (ts behind : List Token) (p : Part) (a l r : ℕ) → p.slack ≡ Split a l r → (part? Partial ts ≡ got p behind) ↔ SplitOf p ts behind

-- document 02, P4: a line is taken as total exactly where it is `(total)`, whatever the spaces
abbrev pub TakenAsTotal : Type 0
TakenAsTotal = (ts : List Token) → (request_of ts ≡ Some TotalLine) ↔ (ts ≡ opened ∷ run (bytes "total") ∷ closed ∷ [])

-- with anything else behind its word it has no shape
abbrev pub TotalOnly : Type 0
TotalOnly = (behind : List Token) → (behind ≡ closed ∷ [] → ⊥) → request_of (opened ∷ run (bytes "total") ∷ behind) ≡ None

-- document 02, P5: these tokens are a line of weights that asks for this, whatever the spaces: `(weight T H)`, `(weighed FS)`, `(unweigh)`
abbrev pub WeighingOf : Weighing → List Token → Type 0
WeighingOf (Weight i) ts =
    (t : List ℕ) × ((h : List ℕ) × (ts ≡ opened ∷ run (bytes "weight") ∷ run t ∷ run h ∷ closed ∷ []) × (number_of t ≡ Some i.tonnes) × (number_of h ≡ Some i.height))
WeighingOf (Weighed fs) ts = (r : List ℕ) × (ts ≡ opened ∷ run (bytes "weighed") ∷ run r ∷ closed ∷ []) × (number_of r ≡ Some fs)
WeighingOf Unweigh ts = ts ≡ opened ∷ run (bytes "unweigh") ∷ closed ∷ []

abbrev pub TakenAsWeighing : Type 0
TakenAsWeighing = (ts : List Token) (w : Weighing) → (request_of ts ≡ Some (WeighingLine w)) ↔ WeighingOf w ts

-- their words
pub data WeighingWord : List ℕ → Type 0 where
  weight : WeighingWord (bytes "weight")
  weighed : WeighingWord (bytes "weighed")
  unweigh : WeighingWord (bytes "unweigh")

-- with anything else behind one of them a line has no shape
abbrev pub WeighingOnly : Type 0
WeighingOnly =
    (word : List ℕ) (behind : List Token) → WeighingWord word → ((w : Weighing) → WeighingOf w (opened ∷ run word ∷ behind) → ⊥) →
    request_of (opened ∷ run word ∷ behind) ≡ None
