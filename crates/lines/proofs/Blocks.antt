-- Laws of an input that comes in pieces: where the service stands behind each piece.
use mathlib.Core.Path.{◌≡◌, refl, sym, ◌∙◌, ap}
use mathlib.Core.List.{List, [], ◌∷◌, ◌++◌, append-nil, append_assoc}
use Prim.Native.Nat.{ℕ, zero, suc, ◌-◌, ◌≤◌, ◌<◌}
use native.Mathlib.Omega.{arith}
use lib.ListN.{length, take, length-append}
use lib.Seq.{take_all, take-nil}
use Rattle.line_codes.proofs.Order.{first_bytes, too_long}
use Rattle.condition.specs.declared.Condition.{Condition}
use Rattle.condition.specs.Condition.{empty}
use Rattle.panel.specs.Step.{step_of, condition_after}
use Rattle.input.specs.Lines.{Cut, cut, line_length}
use Rattle.input.proofs.Cutting.{by_count, cut_none, cut_line, front, front_none, cut_join}
use Rattle.lines.specs.declared.Feed.{Feed}
use Rattle.lines.specs.Replies.{sent, replies_to}
use Rattle.lines.specs.Taking.{LinesTaken, LineTaken, Stands, Moves}
use Rattle.lines.proofs.Taking.{sent_on, replied_on, none_sent, none_replied, one_sent, one_replied}

-- ---- a line that is kept: its first 2,001 bytes are enough
pub short_line : (c : Condition) (l : List ℕ) (n : ℕ) → step_of c (take 2001 l) n ≡ step_of c l n
unfolding step_of
short_line c l n =
    by_count (length l - 2000) (λ z. rw (take_all 2001 l (omega arith)))
    (λ p. let h : 2000 < length l = omega arith in rw (← first_bytes l h, too_long l h))

pub take_front : (n : ℕ) (a b : List ℕ) → take n (take n a ++ b) ≡ take n (a ++ b)
take_front zero a b = refl
take_front (suc n) [] b = refl
take_front (suc n) (x ∷ a) b = ap (λ (l : List ℕ). x ∷ l) (take_front n a b)

none_kept : (l : List ℕ) → [] ≡ take 2001 l → l ≡ []
none_kept [] e = refl
none_kept (b ∷ l) e = absurd (omega (arith, ap length e))

pub no_lines : (ls : List (List ℕ)) → length ls ≡ 0 → ls ≡ []
no_lines [] e = refl
no_lines (l ∷ ls) e = absurd (omega arith)

-- ---- the first lines of some and then of others
take_both : (n : ℕ) (a b : List (List ℕ)) → take n (a ++ b) ≡ take n a ++ take (n - length a) b
take_both n [] b = let z : n - 0 ≡ n = omega arith in rw (take-nil n, z)
take_both zero (l ∷ a) b = let z : 0 - length (l ∷ a) ≡ 0 = omega arith in rw z
take_both (suc n) (l ∷ a) b =
    let z : suc n - length (l ∷ a) ≡ n - length a = omega arith in
    rw z (ap (λ (ls : List (List ℕ)). l ∷ ls) (take_both n a b))

-- ---- after an input that was cut: each line was taken while lines were left
record Fed (f r : Feed) (waited waits : List ℕ) (k : Cut) : Type 0 where
  condition : r.cond ≡ condition_after f.cond (sent (take f.left k.lines))
  replied : waits ≡ waited ++ replies_to f.cond (take f.left k.lines)
  count : r.left ≡ f.left - length k.lines

-- no line, and one
fed_none : (f r : Feed) (waited waits : List ℕ) (k : Cut) → take f.left k.lines ≡ [] → r.cond ≡ f.cond → r.left ≡ f.left - length k.lines → waits ≡ waited → Fed f r waited waits k
fed_none f r waited waits k z c n w =
    record {
      condition = rw z (c ∙ sym (none_sent f.cond));
      replied = rw z (w ∙ sym (rw (none_replied f.cond) (append-nil waited)));
      count = n;
    }

fed_line : (f r : Feed) (kept l waited waits : List ℕ) → 0 < f.left → kept ≡ take 2001 l → LineTaken f kept waited r waits → Fed f r waited waits (record { lines = l ∷ []; rest = [] })
fed_line f r kept l waited waits p e t =
    let a = take_all f.left (l ∷ []) (omega arith) in
    record {
      condition = t.condition ∙ rw (e, short_line f.cond l 2100, a) (sym (one_sent f.cond l));
      replied = t.replied ∙ rw (e, short_line f.cond l 2100, a, one_replied f.cond l);
      count = omega (arith, t.count);
    }

-- ---- the start of the input
pub stands_start : (most : ℕ) (f : Feed) → f.cond ≡ empty → f.left ≡ most → Stands most [] f [] []
unfolding cut
stands_start most f c l =
    record {
      condition = c ∙ rw (take-nil most) (sym (none_sent empty));
      replied = rw (take-nil most) (sym (none_replied empty));
      count = omega arith;
      begun = λ h. refl;
    }

-- ---- one piece more
module _ {f r : Feed} {kept waited after waits : List ℕ} (piece : List ℕ) where
  moves_by : ((rest : List ℕ) → (0 < f.left → kept ≡ take 2001 rest) → Fed f r waited waits (front rest (cut piece)) × (0 < r.left → after ≡ take 2001 (front rest (cut piece)).rest)) →
      Moves f kept waited piece r after waits
  moves_by g most input handed s =
      let e = cut_join input piece in
      let t = g (cut input).rest s.begun in
      let ls = (cut input).lines in
      let ms = (front (cut input).rest (cut piece)).lines in
      let b = take_both most ls ms in
      record {
        condition = t.0.condition ∙ rw (e, b, sent_on empty (take most ls) (take (most - length ls) ms), ← s.condition, s.count);
        replied =
            ap (λ (w : List ℕ). handed ++ w) t.0.replied
            ∙ sym (append_assoc handed waited (replies_to f.cond (take f.left ms)))
            ∙ rw (e, b, replied_on empty (take most ls) (take (most - length ls) ms), ← s.condition, ← s.replied, s.count);
        count = rw (e, length-append) (omega (arith, s.count, t.0.count));
        begun = λ h. rw e (t.1 h);
      }

  -- no line is left to be taken
  pub stands_full : f.left ≡ 0 → r.cond ≡ f.cond → r.left ≡ 0 → waits ≡ waited → Moves f kept waited piece r after waits
  stands_full z c l w = moves_by λ rest b. (fed_none f r waited waits (front rest (cut piece)) (rw z) c (omega arith) w, λ h. absurd (omega arith))

  -- no byte 10 in the piece
  pub stands_on : length piece ≤ line_length piece → r.cond ≡ f.cond → r.left ≡ f.left → waits ≡ waited → (0 < f.left → after ≡ take 2001 (kept ++ piece)) → Moves f kept waited piece r after waits
  stands_on u c l w k =
      moves_by λ rest b. rw (cut_none piece u) (
        fed_none f r waited waits (record { lines = []; rest = rest ++ piece }) (take-nil f.left) c (omega arith) w,
        λ h. let p : 0 < f.left = omega arith in k p ∙ rw (b p) (take_front 2001 rest piece),
      )

  -- whole lines, with no line begun before them
  pub stands_lines : (0 < f.left → kept ≡ []) → LinesTaken f waited piece r waits → (0 < r.left → after ≡ []) → Moves f kept waited piece r after waits
  stands_lines n t k =
      by_count f.left
      (λ z. let ls : length (cut piece).lines ≡ 0 = omega (arith, t.count) in
      stands_full z (t.condition ∙ rw (no_lines (cut piece).lines ls) (none_sent f.cond)) (omega (arith, t.count))
      (t.replied ∙ rw (no_lines (cut piece).lines ls, none_replied f.cond) (append-nil waited)))
      (λ p. moves_by λ rest b. rw (none_kept rest (sym (n p) ∙ b p), front_none (cut piece).lines (cut piece).rest) (
        record {
          condition = t.condition ∙ rw (take_all f.left (cut piece).lines (omega (arith, t.count)));
          replied = t.replied ∙ rw (take_all f.left (cut piece).lines (omega (arith, t.count)));
          count = omega (arith, t.count);
        },
        λ h. k h ∙ rw t.whole refl,
      ))

-- the line that has begun ends with the piece
pub stands_line : {f r : Feed} {kept waited waits : List ℕ} (piece : List ℕ) → 0 < f.left → length piece ≤ line_length piece →
    LineTaken f (take 2001 (kept ++ piece)) waited r waits → Moves f kept waited (piece ++ 10 ∷ []) r [] waits
stands_line {f} {r} {kept} {waited} {waits} piece p u t =
    moves_by (piece ++ 10 ∷ []) λ rest b. rw (cut_line piece u) (
      fed_line f r (take 2001 (kept ++ piece)) (rest ++ piece) waited waits p (rw (b p) (take_front 2001 rest piece)) t,
      λ h. refl,
    )

-- ---- piece after piece
pub moves_on : {f g r : Feed} {k w k' w' k'' w'' : List ℕ} (p q : List ℕ) → Moves f k w p g k' w' → Moves g k' w' q r k'' w'' → Moves f k w (p ++ q) r k'' w''
moves_on p q m n most input handed s = rw (append_assoc input p q) at (n most (input ++ p) handed (m most input handed s))
