-- Tokens that make a sound line when they are spelled, and what such a line does.
use mathlib.Core.Path.{◌≡◌, refl, ◌∙◌}
use mathlib.Core.Bool.{Bool, true, false}
use mathlib.Core.List.{List, [], ◌∷◌, ◌++◌}
use Prim.Native.Nat.{ℕ, suc, ◌+◌, ◌*◌, ◌≤◌}
use Prim.Native.String.{String}
use native.Mathlib.Omega.{arith}
use lib.ListN.{length, length-append}
use borrow.Author.Tests.{le-ltb}
use Rattle.whole.specs.Bytes.{bytes}
use Rattle.whole.specs.Lists.{all, sum_of}
use Rattle.whole.proofs.Lists.{all_append}
use Rattle.text.specs.Token.{Token, opened, closed}
use Rattle.line_codes.specs.Line.{sound_token}
use Rattle.reply.proofs.Writing.{short_digits}
use Rattle.spelling.specs.Spelling.{written, parted, space_if, spell, proper}
use Rattle.spelling.proofs.Reading.{tokens_spell}
use Rattle.items.specs.Grammar.{got}
use Rattle.items.proofs.Yields.{Each}
use Rattle.forms.specs.declared.Request.{Request}
use Rattle.request.specs.Shape.{line?}
use Rattle.showing.proofs.Forms.{line_request}
use Rattle.showing.proofs.Laws.{spelled_sound}
use Rattle.condition.specs.declared.Condition.{Condition}
use Rattle.panel.specs.Step.{outcome_of, step_of}
use Rattle.sending.specs.Printed.{word, number, numbers, form}
use Rattle.sending.proofs.Decimals.{decimal_is_a_run, decimal_sound}

-- ---- the room that tokens take: each with a space behind it
abbrev pub room : List Token → ℕ
room ts = sum_of (λ t. suc (length (written t))) ts

spell_room : (ts : List Token) → length (spell ts) ≤ room ts
unfolding spell sum_of
spell_room [] = omega arith
spell_room (t ∷ ts) = simp length-append (omega (arith, spell_room ts, gap (parted t ts)))
  where
    gap : (x : Bool) → length (space_if x) ≤ 1
    gap true = omega arith
    gap false = omega arith

room_append : (a b : List Token) → room (a ++ b) ≡ room a + room b
unfolding sum_of
room_append [] b = omega arith
room_append (t ∷ a) b = omega (arith, room_append a b)

-- ---- tokens that can be spelled, with no bad number among them, and at most so much room
pub record Fine (k : ℕ) (ts : List Token) : Type 0 where
  pub properly : all proper ts ≡ true
  pub sound : all sound_token ts ≡ true
  pub fits : room ts ≤ k

pub fine_none : Fine 0 []
unfolding all sum_of
fine_none = record { properly = refl; sound = refl; fits = omega arith }

pub fine_more : {k l : ℕ} {ts : List Token} → k ≤ l → Fine k ts → Fine l ts
fine_more h f = record { properly = f.properly; sound = f.sound; fits = omega arith }

pub fine_token : (t : Token) {k : ℕ} {ts : List Token} → proper t ≡ true → sound_token t ≡ true → Fine k ts → Fine (suc (length (written t)) + k) (t ∷ ts)
unfolding all sum_of
fine_token t p s f = record { properly = rw p f.properly; sound = rw s f.sound; fits = omega arith }

pub fine_append : {k l : ℕ} {a b : List Token} → Fine k a → Fine l b → Fine (k + l) (a ++ b)
fine_append {a = a} {b = b} f g =
    record {
      properly = all_append proper a b ∙ rw (f.properly, g.properly);
      sound = all_append sound_token a b ∙ rw (f.sound, g.sound);
      fits = omega (arith, room_append a b);
    }

-- brackets around items; a form
pub fine_brackets : {k : ℕ} {ts : List Token} → Fine k ts → Fine (4 + k) (opened ∷ ts ++ closed ∷ [])
fine_brackets f = fine_more (omega arith) (fine_token opened refl refl (fine_append f (fine_token closed refl refl fine_none)))

pub fine_form : (w : String) {k : ℕ} {ts : List Token} → proper (word w) ≡ true → sound_token (word w) ≡ true → Fine k ts → Fine (5 + length (bytes w) + k) (form w ts)
fine_form w p s f = fine_more (omega arith) (fine_brackets (fine_token (word w) p s f))

-- a number of at most six digits: all that records have
abbrev pub Small : ℕ → Type 0
Small n = n ≤ 999999

pub fine_number : (n : ℕ) {k : ℕ} {ts : List Token} → Small n → Fine k ts → Fine (7 + k) (number n ∷ ts)
fine_number n p f =
    fine_more (omega (arith, short_digits 20 n 5 (omega arith)))
    (fine_token (number n) (decimal_is_a_run n (omega arith)) (decimal_sound n (omega arith)) f)

pub fine_numbers : (vs : List ℕ) → Each Small vs → Fine (7 * length vs) (numbers vs)
fine_numbers [] p = fine_none
fine_numbers (v ∷ vs) p = fine_more (omega arith) (fine_number v p.0 (fine_numbers vs p.1))

-- ---- tokens that are read as a line, and fine: it does what it asks for
pub record Asks (ts : List Token) (a : Request) : Type 0 where
  pub reads : line? ts ≡ got a []
  pub fine : Fine 2000 ts

pub line_does : {ts : List Token} {a : Request} → Asks ts a → (c : Condition) (lent : ℕ) → 96 ≤ lent → step_of c (spell ts) lent ≡ outcome_of c ts lent a
unfolding step_of
line_does {ts = ts} {a = a} f c lent h =
    let sound = spelled_sound ts a f.reads f.fine.properly f.fine.sound (omega (arith, spell_room ts)) in
    rw (le-ltb lent 96 h, sound, tokens_spell ts f.fine.properly, line_request ts a f.reads)
