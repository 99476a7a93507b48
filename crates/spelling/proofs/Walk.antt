-- What the program writes, token by token, is the one spelling.
use mathlib.Core.Path.{◌≡◌, refl, sym, ◌∙◌, ap}
use mathlib.Core.Bool.{Bool, false, and-false, and_comm}
use mathlib.Core.List.{List, [], ◌∷◌, ◌++◌, append_assoc, append-nil}
use Prim.Native.Nat.{ℕ, ◌+◌, ◌≤◌}
use native.Mathlib.Omega.{arith}
use lib.ListN.{length, drop, length-append, length-drop}
use Rattle.text.specs.Token.{Token, tokens}
use Rattle.reply.specs.Written.{over, into}
use Rattle.reply.proofs.Writing.{over_none, Sofar, more}
use Rattle.spelling.specs.Spelling.{ends_item, begins_item, written, spell}
use Rattle.spelling.specs.Walk.{piece, spelled_after}

-- ---- the walk is the spelling
behind : (t : Token) (ts : List Token) → spell (t ∷ ts) ≡ written t ++ spelled_after (ends_item t) ts
unfolding spell spelled_after
behind t [] = refl
behind t (u ∷ us) = rw (behind u us, append_assoc, and_comm (begins_item u) (ends_item t))

pub spelled_after_lem : (ts : List Token) → spell ts ≡ spelled_after false ts
unfolding spell spelled_after
spelled_after_lem [] = refl
spelled_after_lem (t ∷ ts) = rw (and-false (begins_item t)) (behind t ts)

-- ---- between two turns: what is written, and that the rest of the spelling follows it
pub record Standing (s before out : List ℕ) (ts : List Token) (w : ℕ) (ended : Bool) : Type 0 where
  pub done : List ℕ
  pub sofar : Sofar done before out w
  pub left : done ++ spelled_after ended ts ≡ spell (tokens s)
  pub room : length (spell (tokens s)) ≤ length before

pub standing_first : (s before : List ℕ) → length (spell (tokens s)) ≤ length before → Standing s before before (tokens s) 0 false
standing_first s before r =
    record {
      done = [];
      sofar = record { text = sym (over_none before); place = refl };
      left = sym (spelled_after_lem (tokens s));
      room = r;
    }

module _ {s before out : List ℕ} {ts : List Token} {w : ℕ} {ended : Bool} (h : Standing s before out ts w ended) where
  -- the buffer keeps its length
  pub standing_long : length out ≡ length before
  unfolding over
  standing_long =
      let f = length-append h.done (spelled_after ended ts) in
      let g = length-append h.done (drop (length h.done) before) in
      omega (arith, ap length h.left, ap length h.sofar.text, length-drop (length h.done) before, h.room)

  -- no token is left
  pub standing_ends : ts ≡ [] → (w ≡ length (spell (tokens s))) × (out ≡ over (spell (tokens s)) before)
  unfolding spelled_after
  standing_ends e =
      let d : h.done ≡ spell (tokens s) = sym (append-nil h.done) ∙ (rw e at h.left) in
      (h.sofar.place ∙ ap length d, h.sofar.text ∙ ap (λ v. over v before) d)

  -- the next token
  module _ (t : Token) (us : List Token) (e : ts ≡ t ∷ us) where
    on : h.done ++ (piece ended t ++ spelled_after (ends_item t) us) ≡ spell (tokens s)
    unfolding spelled_after
    on = rw e at h.left

    piece_fits : length h.done + length (piece ended t) ≤ length before
    piece_fits =
        let v = spelled_after (ends_item t) us in
        omega (arith, length-append h.done (piece ended t ++ v), length-append (piece ended t) v, ap length on, h.room)

    pub standing_room : w + length (piece ended t) ≤ length out
    standing_room = omega (arith, piece_fits, standing_long, h.sofar.place)

    pub standing_next : {out' : List ℕ} {w' : ℕ} {x : Bool} → (w' ≡ w + length (piece ended t)) × (out' ≡ into w (piece ended t) out) → x ≡ ends_item t → Standing s before out' us w' x
    standing_next a f =
        rw f
        (record {
          done = h.done ++ piece ended t;
          sofar = more h.done (piece ended t) before out _ w _ h.sofar a piece_fits;
          left = append_assoc h.done (piece ended t) _ ∙ on;
          room = h.room;
        })
