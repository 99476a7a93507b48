-- Document 02, P2: what show takes and replies, and that the reply can be sent again.
use mathlib.Core.Path.{◌≡◌, sym, ◌∙◌, ap}
use mathlib.Core.List.{List, [], ◌∷◌, ◌++◌}
use Prim.Native.Nat.{ℕ, ◌≤◌}
use native.Mathlib.Omega.{arith}
use lib.ListN.{length}
use borrow.Author.Tests.{le-ltb}
use Rattle.text.specs.Token.{Token, tokens}
use Rattle.std.specs.Prelude.{Some, Ok}
use Rattle.line_codes.specs.Line.{reading_of}
use Rattle.line_codes.specs.Alike.{AllowedLine}
use Rattle.line_codes.proofs.Forms.{form_found}
use Rattle.line_codes.proofs.Alike.{sound_passes}
use Rattle.spelling.specs.Spelling.{spell}
use Rattle.spelling.proofs.Own.{own_spelling}
use Rattle.spelling.proofs.Spelled.{spelled_so, spell_allowed}
use Rattle.forms.specs.declared.Request.TheVariants.{ShowLine}
use Rattle.showing.specs.Laws.{OfDocument01, ShowOf}
use Rattle.showing.proofs.Forms.{form_line, asked_form, show_found, show_taken}
use Rattle.showing.proofs.Laws.{inside_is_the_form, show_is_short, shape_deep, line_sound, form_proper, form_kept, form_numbers}
use Rattle.condition.specs.declared.Condition.{Condition}
use Rattle.panel.specs.Step.{Outcome, outcome_of, step_of}
use Rattle.sending.proofs.Alike.{same_tokens_answered_alike}
use Rattle.demands.specs.Codes.{request, Asks}
use Rattle.demands.specs.Show.{ShowsAForm, Shown, ShowsTheForm, ShapesAreFourDeep}
use Rattle.demands.proofs.Asked.{none_applies, passes_all, asked}
use Rattle.demands.proofs.Around.{Inside, spaces_around, around_tokens, around_found}

-- ---- a line that asks for show
module _ (line : List ℕ) (lent : ℕ) (a : Asks line lent (Some ShowLine)) where
  read : reading_of line ≡ Ok tt
  read = passes_all line a.sound

  found : (form : List Token) × ShowOf (tokens line) form
  found = show_found (tokens line) a.asked

  abbrev form : List Token
  form = found.0

  there : Inside line form
  there = around_found line form (sound_passes line read).bytes found.1.0

  inner_line : AllowedLine there.inner
  inner_line = record { long = omega (arith, there.shorter, (sound_passes line read).long); bytes = there.bytes }

  inner_sound : reading_of there.inner ≡ Ok tt
  inner_sound =
      let f = asked_form form found.1.1 in
      line_sound there.inner form f.0 there.kept (form_line form f.0 [] f.1) inner_line (form_numbers line form found.1 read)

  inner_asks : OfDocument01 (request there.inner)
  inner_asks = rw there.kept found.1.1

  -- the outcome
  module _ (c : Condition) (room : 2100 ≤ lent) where
    shown_as : step_of c line lent ≡ record { code = 0; reply = spell form ++ 10 ∷ []; after = c }
    unfolding outcome_of
    shown_as = asked c line lent (Some ShowLine) a ∙ rw (le-ltb lent 2100 room, inside_is_the_form (tokens line) form found.1)

    copies : length (spell form) ≤ 2000 → (d : Condition) (n : ℕ) → step_of d (spell form) n ≡ step_of d there.inner n
    copies p d n =
        same_tokens_answered_alike (spell form) there.inner (record { long = p; bytes = spell_allowed form (form_proper line form found.1) }) inner_line
        (form_kept line form found.1 ∙ sym there.kept) d n

    shown : Shown c line (step_of c line lent)
    shown =
        record {
          code = ap (λ (o : Outcome). o.code) shown_as;
          after = ap (λ (o : Outcome). o.after) shown_as;
          inner = there.inner;
          around = there.around;
          sound = none_applies there.inner inner_sound;
          spelled = spell form;
          reply = ap (λ (o : Outcome). o.reply) shown_as;
          so = spelled_so form (form_proper line form found.1);
          same = form_kept line form found.1 ∙ sym there.kept;
          own = λ s m n e w. ap spell (sym there.kept ∙ ap tokens e ∙ spaces_around m n s) ∙ own_spelling s w;
          fits = rw shown_as (rw (inside_is_the_form (tokens line) form found.1) at (show_is_short line (sound_passes line read).long a.asked));
          copied = copies;
        }

pub shows_the_form_lem : ShowsTheForm
shows_the_form_lem c line lent a room = shown line lent a c room

pub shows_a_form : ShowsAForm
shows_a_form line lent = (
  λ a. (a.room, a.sound, ((there line lent a).inner, (there line lent a).around, inner_asks line lent a)),
  λ (room, sound, (inner, around, k)). record { room = room; sound = sound; asked = show_taken (tokens line) (tokens inner) (around_tokens line inner around, k) },
)

pub shapes_are_four_deep_lem : ShapesAreFourDeep
shapes_are_four_deep_lem line lent o a n =
    form_found 3 line (shape_deep line (sound_passes line (passes_all line a.sound)).bytes (λ e. n (sym a.asked ∙ e)))
