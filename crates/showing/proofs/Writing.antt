-- How the reply to a show is written: the bracket that closes the line is spelled last, and gives way to the newline.
use mathlib.Core.Path.{◌≡◌, refl, sym, ◌∙◌, ap}
use mathlib.Core.List.{List, [], ◌∷◌, ◌++◌, append_assoc}
use Prim.Native.Nat.{ℕ, ◌-◌, ◌≤◌}
use native.Mathlib.Omega.{arith}
use lib.ListN.{length, drop, set, length-append}
use lib.Seq.{set_at}
use Rattle.whole.specs.Bytes.{bytes}
use Rattle.std.specs.Prelude.{Some}
use Rattle.text.specs.Token.{closing, Token, opened, closed, run, tokens}
use Rattle.reply.specs.Written.{over}
use Rattle.spelling.specs.Spelling.{written, between, spell}
use Rattle.items.specs.Grammar.{got, none, head?}
use Rattle.forms.specs.declared.Request.TheVariants.{ShowLine}
use Rattle.request.specs.Shape.{request_of}
use Rattle.showing.specs.Show.{form_inside, show_reply}
use Rattle.showing.specs.Laws.{ShowOf}
use Rattle.showing.proofs.Forms.{show_found}
use Rattle.showing.proofs.Laws.{inside_is_the_form, show_is_short}

-- no space stands before a closing bracket
between_last : (t : Token) (ts : List Token) → between t (ts ++ closed ∷ []) ≡ between t ts
between_last opened [] = refl
between_last closed [] = refl
between_last (run r) [] = refl
between_last t (u ∷ ts) = refl

spell_last : (ts : List Token) → spell (ts ++ closed ∷ []) ≡ spell ts ++ closing ∷ []
unfolding spell
spell_last [] = refl
spell_last (t ∷ ts) =
    rw (between_last t ts, spell_last ts)
    (ap (λ l. written t ++ l) (sym (append_assoc (between t ts) (spell ts) (closing ∷ []))) ∙ sym (append_assoc (written t) (between t ts ++ spell ts) (closing ∷ [])))

word_of : (ts form : List Token) → ShowOf ts form → head? ts ≡ got (bytes "show") (form ++ closed ∷ [])
word_of ts form w = rw w.0

module _ (line : List ℕ) (k : request_of (tokens line) ≡ Some ShowLine) where
  abbrev form : List Token
  form = form_inside (tokens line)

  word_first : head? (tokens line) ≡ got (bytes "show") (form ++ closed ∷ [])
  word_first =
      let w = show_found (tokens line) k in
      word_of (tokens line) w.0 w.1 ∙ ap (λ l. got (bytes "show") (l ++ closed ∷ [])) (sym (inside_is_the_form (tokens line) w.0 w.1))

  -- a show line has its word
  pub has_word : head? (tokens line) ≡ none → ⊥
  has_word e = let f = word_first in let z : ◌≡◌ {A = ℕ} 0 1 = cc in omega arith

  -- and behind it what is spelled ends with the line's bracket
  module _ (w part : List ℕ) (e : head? (tokens line) ≡ got w (tokens part)) where
    pub part_spelled : spell (tokens part) ≡ spell form ++ closing ∷ []
    part_spelled =
        let f = word_first in
        let t : tokens part ≡ form ++ closed ∷ [] = cc in
        rw t (spell_last form)

    pub part_long : length (spell (tokens part)) ≡ length (show_reply (tokens line))
    part_long = rw (part_spelled, length-append (spell form) (closing ∷ []), length-append (spell form) (10 ∷ []))

    pub part_fits_lem : length line ≤ 2000 → length (spell (tokens part)) ≤ 2049
    part_fits_lem p = omega (arith, part_long, show_is_short line p k)

    pub part_some : 1 ≤ length (spell (tokens part))
    part_some = omega (arith, part_long, length-append (spell form) (10 ∷ []))

-- the last byte gives way
pub newline_last : (s out : List ℕ) → set (over (s ++ closing ∷ []) out) (length (s ++ closing ∷ []) - 1) 10 ≡ over (s ++ 10 ∷ []) out
unfolding over
newline_last s out =
    let n = length-append s (closing ∷ []) in
    let l : length s ≡ length (s ++ closing ∷ []) - 1 = omega arith in
    let m : length (s ++ closing ∷ []) ≡ length (s ++ 10 ∷ []) = omega (arith, length-append s (10 ∷ [])) in
    rw (append_assoc s (closing ∷ []) (drop (length (s ++ closing ∷ [])) out), append_assoc s (10 ∷ []) (drop (length (s ++ 10 ∷ [])) out), ← m)
    (set_at s closing (drop (length (s ++ closing ∷ [])) out) 10 (length (s ++ closing ∷ []) - 1) l)
