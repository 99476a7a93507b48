-- The laws of show.
use mathlib.Core.Path.{◌≡◌, refl, sym, ◌∙◌, ap}
use mathlib.Core.Bool.{Bool, true, false, cond}
use mathlib.Core.List.{List, [], ◌∷◌, ◌++◌, append-nil}
use Prim.Native.Nat.{ℕ, ◌+◌, ◌-◌, ◌≤◌}
use native.Mathlib.Omega.{arith}
use lib.ListN.{length, take, length-append}
use lib.Seq.{take-append-add}
use Rattle.whole.specs.Bytes.{bytes}
use Rattle.whole.specs.Lists.{all}
use Rattle.whole.proofs.Lists.{and_true, all_append}
use Rattle.text.specs.Token.{allowed, Token, opened, closed, run, tokens}
use Rattle.std.specs.Prelude.{None, Ok}
use Rattle.line_codes.specs.Line.{before, is_show, deepest, one_form, sound_token, reading_of}
use Rattle.line_codes.specs.Alike.{AllowedLine}
use Rattle.line_codes.proofs.Along.{walk_tokens}
use Rattle.line_codes.proofs.Alike.{sound_numbers}
use Rattle.line_codes.proofs.Order.{is_sound}
use Rattle.spelling.specs.Spelling.{spell, proper}
use Rattle.spelling.proofs.Reading.{tokens_spell, tokens_proper}
use Rattle.spelling.proofs.Spelled.{spell_allowed}
use Rattle.spelling.proofs.Lengths.{inner_length}
use Rattle.items.specs.Grammar.{got}
use Rattle.forms.specs.declared.Request.{Request}
use Rattle.request.specs.Shape.{line?, request_of}
use Rattle.showing.specs.Show.{form_inside}
use Rattle.showing.specs.Laws.{ShowOf, TakenAsShow, InsideIsTheForm, FormsHaveFewGaps, ShowIsShort, SpelledIsSound, SpelledAsksTheSame}
use Rattle.showing.proofs.Shapes.{line_walks, form_gaps}
use Rattle.showing.proofs.Forms.{shape_read, form_line, asked_form, show_found, show_taken}

pub taken_as_show : TakenAsShow
taken_as_show ts = (show_found ts, λ w. show_taken ts w.0 w.1)

pub inside_is_the_form : InsideIsTheForm
unfolding form_inside
inside_is_the_form ts form w =
    let n = length-append form (closed ∷ []) in
    let l : length (opened ∷ run (bytes "show") ∷ form ++ closed ∷ []) - 3 ≡ length form + 0 = omega arith in
    ap form_inside w.0 ∙ ap (λ (k : ℕ). take k (form ++ closed ∷ [])) l ∙ take-append-add form (closed ∷ []) 0 ∙ append-nil form

pub forms_have_few_gaps : FormsHaveFewGaps
forms_have_few_gaps form k = let a = asked_form form k in form_gaps form a.0 a.1

pub show_is_short : ShowIsShort
show_is_short line p k =
    let w = show_found (tokens line) k in
    let a = inner_length line (bytes "show") w.0 w.1.0 in
    let b = forms_have_few_gaps w.0 w.1.1 in
    let c : length (bytes "show") ≡ 4 = refl in
    rw (inside_is_the_form (tokens line) w.0 w.1) (omega (arith, length-append (spell w.0) (10 ∷ [])))

-- ---- a line whose tokens are a form that is read
deep_enough : (x : Bool) → 4 ≤ cond x 5 4
deep_enough true = omega arith
deep_enough false = omega arith

pub line_sound : (s : List ℕ) (form : List Token) (a : Request) → tokens s ≡ form → line? form ≡ got a [] → AllowedLine s → all sound_token form ≡ true → reading_of s ≡ Ok tt
line_sound s form a e f l n =
    let w = line_walks (deepest form) form a (deep_enough (is_show form)) f in
    is_sound s l.long l.bytes (rw (walk_tokens (deepest (tokens s)) s l.bytes before, e, w)) (rw e n)

-- a line of a shape is four deep at most
pub shape_deep : (line : List ℕ) → all allowed line ≡ true → (request_of (tokens line) ≡ None → ⊥) → one_form 4 line ≡ true
shape_deep line a n =
    let r = shape_read (tokens line) n in
    rw (walk_tokens 4 line a before, line_walks 4 (tokens line) r.0 (omega arith) r.1)

-- a line, spelled
pub spelled_sound : (form : List Token) (a : Request) → line? form ≡ got a [] → all proper form ≡ true → all sound_token form ≡ true → length (spell form) ≤ 2000 → reading_of (spell form) ≡ Ok tt
spelled_sound form a f p n l = line_sound (spell form) form a (tokens_spell form p) f (record { long = l; bytes = spell_allowed form p }) n

-- ---- the form inside a show line
within_show : (f : Token → Bool) (ts form : List Token) → ts ≡ opened ∷ run (bytes "show") ∷ form ++ closed ∷ [] → all f ts ≡ true → all f form ≡ true
unfolding all
within_show f ts form e a =
    let t = (and_true (f opened) (all f (run (bytes "show") ∷ form ++ closed ∷ [])) (rw e at a)).1 in
    let u = (and_true (f (run (bytes "show"))) (all f (form ++ closed ∷ [])) t).1 in
    (and_true (all f form) (all f (closed ∷ [])) (sym (all_append f form (closed ∷ [])) ∙ u)).0

module _ (line : List ℕ) (form : List Token) (w : ShowOf (tokens line) form) where
  pub form_proper : all proper form ≡ true
  form_proper = within_show proper (tokens line) form w.0 (tokens_proper line)

  pub form_kept : tokens (spell form) ≡ form
  form_kept = tokens_spell form form_proper

  pub form_numbers : reading_of line ≡ Ok tt → all sound_token form ≡ true
  form_numbers e = within_show sound_token (tokens line) form w.0 (sound_numbers line e)

pub spelled_is_sound : SpelledIsSound
spelled_is_sound line form e w p =
    let a = asked_form form w.1 in
    spelled_sound form a.0 (form_line form a.0 [] a.1) (form_proper line form w) (form_numbers line form w e) p

pub spelled_asks_the_same : SpelledAsksTheSame
spelled_asks_the_same line form w = ap request_of (form_kept line form w)
