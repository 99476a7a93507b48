-- A line that is read as a shape has no bad number: each run that was read is a number, or a word, which begins with a letter. It follows the grammar.
use mathlib.Core.Path.{◌≡◌, refl, sym, ◌∙◌, ap}
use mathlib.Core.Bool.{Bool, true, false, cond, not, ◌||◌}
use mathlib.Core.List.{List, [], ◌∷◌}
use Prim.Native.Nat.{ℕ, zero, suc}
use Prim.Native.String.{String}
use native.Mathlib.Omega.{arith}
use Rattle.std.specs.Prelude.{Option, Some, None, option_map, Ok}
use Rattle.whole.specs.Bytes.{bytes}
use Rattle.whole.specs.Lists.{all, within}
use Rattle.whole.proofs.Lists.{and_true}
use Rattle.record.specs.declared.Mode.{Mode}
use Rattle.record.specs.declared.Mode.TheVariants.{Trimmed, Voided, Partial}
use Rattle.record.specs.declared.Weighing.TheVariants.{Unweigh}
use Rattle.text.specs.Token.{Token, opened, closed, run, tokens, is_digit, value, is_number, number_of}
use Rattle.text.proofs.Runs.{same_true}
use Rattle.line_codes.specs.Line.{number_if_digit, sound_token}
use Rattle.line_codes.specs.Alike.{AllowedLine}
use Rattle.items.specs.Grammar.{Parsed, got, none, ◌and_then◌, open?, close?, run?, head?, is, named, behind?, number?, numbers?, last_numbers?, items?, some_of, several?}
use Rattle.parts.specs.declared.PartWord.{PartWord}
use Rattle.parts.specs.declared.PartWord.TheVariants.{PlainWord, SplitWord}
use Rattle.parts.specs.Shape.{cell_named, numbers_of, cell_by, cell?, part_named, section?, body?, part?}
use Rattle.forms.specs.declared.FormWord.{FormWord}
use Rattle.forms.specs.declared.FormWord.TheVariants.{ShipWord, ColumnWord, LoadWord, HoldWord, DropWord, JudgeWord, ClearWord}
use Rattle.forms.specs.declared.Request.TheVariants.{JudgeLine, ClearLine, ShowLine, TotalLine, WeighingLine}
use Rattle.forms.specs.declared.Request.{Request}
use Rattle.forms.specs.Carried.{carried_request}
use Rattle.forms.specs.Shape.{rule_named, ship_by, ship?, column?, load?, mode_named, parts?, hold?, drop?, bare?, form_word, form_by}
use Rattle.request.specs.declared.LineWord.{LineWord}
use Rattle.request.specs.declared.LineWord.TheVariants.{OfForm, TotalWord, WeightWord, WeighedWord, UnweighWord}
use Rattle.request.specs.Shape.{line_words, line_word, line_by, show?, line?, request_of}
use Rattle.hearing.specs.Hearing.{ShapesAreSound, heard_of}
use Rattle.showing.proofs.Forms.{shape_read}
use Rattle.showing.proofs.Laws.{line_sound}
use Rattle.showing.proofs.Shapes.{Leaves, leaves, nothing, leaves_with, leaves_else}

-- ---- runs that stand for something are sound
abbrev Sound : {W : Type 0} → (List ℕ → Option W) → Type 0
Sound {W = W} name = (r : List ℕ) (w : W) → name r ≡ Some w → number_if_digit r ≡ true

no_word : {W B : Type 0} {w : W} → None ≡ Some w → B
no_word e = let z : ◌≡◌ {A = ℕ} 0 1 = cc in absurd (omega arith)

number_sound : Sound number_of
unfolding number_of
number_sound [] v e = refl
number_sound (b ∷ r) v e = by (is_digit b) (is_number (b ∷ r)) e
  where
    by : (x y : Bool) → cond y (Some (value (b ∷ r))) None ≡ Some v → (not x || y) ≡ true
    by true true f = refl
    by true false f = no_word f
    by false y f = refl

word_sound : (r : List ℕ) (w : String) → number_if_digit (bytes w) ≡ true → is r w ≡ true → number_if_digit r ≡ true
word_sound r w e f = rw (same_true r (bytes w) f) e

-- words of a table, whose first bytes are letters
module _ {W : Type 0} (other : List ℕ → Option W) (others : Sound other) where
  table_sound : (table : List (String × Option W)) → all (λ e. number_if_digit (bytes e.0)) table ≡ true → Sound (λ r. named table (other r) r)
  unfolding named all
  table_sound [] l r w e = others r w e
  table_sound ((v, a) ∷ table) l r w e =
      let t = and_true (number_if_digit (bytes v)) (all (λ e. number_if_digit (bytes e.0)) table) l in
      by (is r v) refl t.0 (table_sound table t.1 r w) e
    where
      by : (x : Bool) → is r v ≡ x → number_if_digit (bytes v) ≡ true → (named table (other r) r ≡ Some w → number_if_digit r ≡ true) → cond x a (named table (other r) r) ≡ Some w → number_if_digit r ≡ true
      by true p s ih f = word_sound r v s p
      by false p s ih f = ih f

none_sound : {W : Type 0} → Sound {W = W} (λ r. None)
none_sound r w e = no_word e

cell_word_sound : Sound cell_named
unfolding all within
cell_word_sound = table_sound (λ r. None) none_sound _ refl

part_word_sound : Sound part_named
unfolding all within
part_word_sound = table_sound (λ r. None) none_sound _ refl

rule_word_sound : Sound rule_named
unfolding all within
rule_word_sound = table_sound (λ r. None) none_sound _ refl

mode_word_sound : Sound mode_named
unfolding all within
mode_word_sound = table_sound (λ r. None) none_sound _ refl

form_word_sound : Sound form_word
unfolding all within
form_word_sound = table_sound (λ r. None) none_sound _ refl

own_word_sound : Sound (λ r. option_map OfForm (form_word r))
own_word_sound r w e = by (form_word r) refl e
  where
    by : (x : Option FormWord) → form_word r ≡ x → option_map OfForm x ≡ Some w → number_if_digit r ≡ true
    by (Some v) f g = form_word_sound r v f
    by None f g = no_word g

line_word_sound : Sound line_word
unfolding all within
line_word_sound = table_sound (λ r. option_map OfForm (form_word r)) own_word_sound line_words refl

-- ---- what a reading leaves: where it is sound, the whole is
module _ (whole : Type 0) where
  abbrev Left : List Token → Type 0
  Left ts = all sound_token ts ≡ true → whole

  open_left : (ts : List Token) → Left ts → Leaves Left (open? ts)
  unfolding all
  open_left [] p = nothing
  open_left (opened ∷ ts) p = leaves {ts = ts} p
  open_left (closed ∷ ts) p = nothing
  open_left (run r ∷ ts) p = nothing

  close_left : (ts : List Token) → Left ts → Leaves Left (close? ts)
  unfolding all
  close_left [] p = nothing
  close_left (opened ∷ ts) p = nothing
  close_left (closed ∷ ts) p = leaves {ts = ts} p
  close_left (run r ∷ ts) p = nothing

  behind_run : (r : List ℕ) (ts : List Token) → number_if_digit r ≡ true → Left (run r ∷ ts) → Left ts
  unfolding all
  behind_run r ts e p s = p (rw (e, s) refl)

  -- a run by what it stands for, and what is read behind it; alone, or behind a bracket
  module _ {W A : Type 0} (name : List ℕ → Option W) (sound : Sound name) (shape : W → List Token → Parsed A) (each : (w : W) (ts : List Token) → Left ts → Leaves Left (shape w ts)) where
    run_left : (ts : List Token) → Left ts → Leaves Left (run? ts and_then λ r us. behind? shape (name r) us)
    run_left [] p = nothing
    run_left (opened ∷ ts) p = nothing
    run_left (closed ∷ ts) p = nothing
    run_left (run r ∷ ts) p = by (name r) refl
      where
        by : (x : Option W) → name r ≡ x → Leaves Left (behind? shape x ts)
        by (Some w) e = each w ts (behind_run r ts (sound r w e) p)
        by None e = nothing

    head_left : (ts : List Token) → Left ts → Leaves Left (head? ts and_then λ r us. behind? shape (name r) us)
    unfolding all
    head_left [] p = nothing
    head_left (opened ∷ ts) p = run_left ts p
    head_left (closed ∷ ts) p = nothing
    head_left (run r ∷ ts) p = nothing

  -- ---- numbers
  number_left : (ts : List Token) → Left ts → Leaves Left (number? ts)
  number_left = run_left number_of number_sound got (λ v ts p. leaves p)

  numbers_left : (k : ℕ) (ts : List Token) → Left ts → Leaves Left (numbers? k ts)
  unfolding numbers?
  numbers_left zero ts p = leaves p
  numbers_left (suc k) ts p =
      leaves_with (number_left ts p) (λ v us q. leaves_with (numbers_left k us q) (λ vs ws w. leaves w))

  last_left : (k : ℕ) (ts : List Token) → Left ts → Leaves Left (last_numbers? k ts)
  unfolding last_numbers?
  last_left k ts p = leaves_with (numbers_left k ts p) (λ vs us q. leaves_with (close_left us q) (λ u ws w. leaves w))

  -- ---- items up to a closing bracket
  module _ {A : Type 0} (item : List Token → Parsed A) (each : (ts : List Token) → Left ts → Leaves Left (item ts)) where
    items_left : (k : ℕ) (ts : List Token) → Left ts → Leaves Left (items? k item ts)
    unfolding items?
    items_left zero ts p = leaves_with (close_left ts p) (λ u us q. leaves q)
    items_left (suc k) ts p =
        leaves_else (leaves_with (close_left ts p) (λ u us q. leaves q))
        (leaves_with (each ts p) (λ x us q. leaves_with (items_left k us q) (λ xs ws w. leaves w)))

    some_left : (xs : List A) (ts : List Token) → Left ts → Leaves Left (some_of xs ts)
    some_left [] ts p = nothing
    some_left (x ∷ xs) ts p = leaves {a = x ∷ xs} p

    several_left : (k : ℕ) (ts : List Token) → Left ts → Leaves Left (several? k item ts)
    several_left k ts p = leaves_with (items_left k ts p) some_left

  -- ---- cells and parts
  cell_left : (ts : List Token) → Left ts → Leaves Left (cell? ts)
  cell_left = head_left cell_named cell_word_sound cell_by (λ w ts p. leaves_with (last_left (numbers_of w) ts p) (λ v us q. leaves q))

  section_left : (ts : List Token) → Left ts → Leaves Left (section? ts)
  section_left ts p =
      leaves_with (number_left ts p) (λ v us q. leaves_with (several_left cell? cell_left 8 us q) (λ cs ws w. leaves w))

  body_left : (m : Mode) (w : PartWord) (ts : List Token) → Left ts → Leaves Left (body? m w ts)
  body_left Trimmed PlainWord ts p = section_left ts p
  body_left Trimmed SplitWord ts p = nothing
  body_left Voided PlainWord ts p = section_left ts p
  body_left Voided SplitWord ts p = nothing
  body_left Partial PlainWord ts p = leaves_with (last_left 4 ts p) (λ v us q. leaves q)
  body_left Partial SplitWord ts p = leaves_with (last_left 4 ts p) (λ v us q. leaves q)

  part_left : (m : Mode) (ts : List Token) → Left ts → Leaves Left (part? m ts)
  part_left m = head_left part_named part_word_sound (body? m) (body_left m)

  -- ---- the forms
  bare_left : (r : Request) (ts : List Token) → Left ts → Leaves Left (bare? r ts)
  bare_left r ts p = leaves_with (close_left ts p) (λ u us q. leaves q)

  ship_left : (ts : List Token) → Left ts → Leaves Left (ship? ts)
  ship_left = run_left rule_named rule_word_sound ship_by (λ w ts p. leaves_with (last_left 2 ts p) (λ v us q. leaves q))

  column_left : (ts : List Token) → Left ts → Leaves Left (column? ts)
  column_left ts p =
      leaves_with (number_left ts p) (λ d t1 q1. leaves_with (number_left t1 q1) (λ km t2 q2.
      leaves_with (open_left t2 q2) (λ u t3 q3. leaves_with (last_left 10 t3 q3) (λ kn t4 q4.
      leaves_with (close_left t4 q4) (λ u t5 q5. leaves q5)))))

  load_left : (ts : List Token) → Left ts → Leaves Left (load? ts)
  load_left ts p = leaves_with (number_left ts p) (λ d us q. leaves_with (last_left 2 us q) (λ v ws w. leaves w))

  parts_left : (n : ℕ) (m : Mode) (ts : List Token) → Left ts → Leaves Left (parts? n m ts)
  parts_left n m ts p =
      leaves_with (number_left ts p) (λ f us q. leaves_with (several_left (part? m) (part_left m) 6 us q) (λ ps ws w. leaves w))

  hold_left : (ts : List Token) → Left ts → Leaves Left (hold? ts)
  hold_left ts p = leaves_with (number_left ts p) (λ n us q. run_left mode_named mode_word_sound (parts? n) (parts_left n) us q)

  drop_left : (ts : List Token) → Left ts → Leaves Left (drop? ts)
  drop_left ts p = leaves_with (number_left ts p) (λ n us q. leaves_with (close_left us q) (λ u ws w. leaves w))

  form_by_left : (w : FormWord) (ts : List Token) → Left ts → Leaves Left (form_by w ts)
  form_by_left ShipWord ts p = ship_left ts p
  form_by_left ColumnWord ts p = column_left ts p
  form_by_left LoadWord ts p = load_left ts p
  form_by_left HoldWord ts p = hold_left ts p
  form_by_left DropWord ts p = drop_left ts p
  form_by_left JudgeWord ts p = bare_left JudgeLine ts p
  form_by_left ClearWord ts p = bare_left ClearLine ts p

  -- ---- lines
  line_by_left : (w : LineWord) (ts : List Token) → Left ts → Leaves Left (line_by w ts)
  line_by_left (OfForm w) ts p = form_by_left w ts p
  line_by_left TotalWord ts p = bare_left TotalLine ts p
  line_by_left WeightWord ts p = leaves_with (number_left ts p) (λ t us q. leaves_with (last_left 1 us q) (λ v ws w. leaves w))
  line_by_left WeighedWord ts p = leaves_with (last_left 1 ts p) (λ v us q. leaves q)
  line_by_left UnweighWord ts p = bare_left (WeighingLine Unweigh) ts p

  show_left : (ts : List Token) → Left ts → Leaves Left (show? ts)
  show_left ts p = leaves_with (head_left form_word form_word_sound form_by form_by_left ts p) (λ r us q. bare_left ShowLine us q)

  line_left : (ts : List Token) → Left ts → Leaves Left (line? ts)
  unfolding all within
  line_left [] p = nothing
  line_left (closed ∷ ts) p = nothing
  line_left (run r ∷ ts) p = nothing
  line_left (opened ∷ []) p = nothing
  line_left (opened ∷ opened ∷ ts) p = nothing
  line_left (opened ∷ closed ∷ ts) p = nothing
  line_left (opened ∷ run r ∷ ts) p = by (is r "show") refl
    where
      own : (x : Option LineWord) → line_word r ≡ x → Leaves Left (behind? line_by x ts)
      own (Some w) e = line_by_left w ts (behind_run r ts (line_word_sound r w e) p)
      own None e = nothing

      shown : is r "show" ≡ true → Leaves Left (show? ts)
      shown e = show_left ts (behind_run r ts (word_sound r "show" refl e) p)

      by : (x : Bool) → is r "show" ≡ x → Leaves Left (cond x (show? ts) (behind? line_by (line_word r) ts))
      by true e = shown e
      by false e = own (line_word r) refl

left_whole : (ts : List Token) (r : Parsed Request) → Leaves (Left (all sound_token ts ≡ true)) r → (a : Request) → r ≡ got a [] → all sound_token ts ≡ true
unfolding all
left_whole ts (got b []) (leaves p) a e = p refl
left_whole ts (got b (u ∷ us)) p a e = let z : ◌≡◌ {A = ℕ} 0 1 = cc in absurd (omega arith)
left_whole ts none p a e = let z : ◌≡◌ {A = ℕ} 0 1 = cc in absurd (omega arith)

numbers_sound : (ts : List Token) (a : Request) → line? ts ≡ got a [] → all sound_token ts ≡ true
numbers_sound ts a e = left_whole ts (line? ts) (line_left (all sound_token ts ≡ true) ts (λ s. s)) a e

pub shapes_are_sound : ShapesAreSound
shapes_are_sound line l n =
    let r = shape_read (tokens line) n in
    line_sound line (tokens line) r.0 refl r.1 l (numbers_sound (tokens line) r.0 r.1)

-- what is heard of a line whose bytes pass their tests and whose shape was read
pub heard_shape : (line : List ℕ) (r : Request) → AllowedLine line → option_map carried_request (request_of (tokens line)) ≡ Some r → heard_of line ≡ Ok r
heard_shape line r l e = rw (e, shapes_are_sound line l some) refl
  where
    some : request_of (tokens line) ≡ None → ⊥
    some f = no_word (sym (ap (option_map carried_request) f) ∙ e)
