-- Laws of lines that are taken: a reply behind those that wait, and what lines after lines give.
use mathlib.Core.Path.{◌≡◌, refl, sym, ◌∙◌, ap}
use mathlib.Core.List.{List, [], ◌∷◌, ◌++◌, append_assoc, append-nil}
use Prim.Native.Nat.{ℕ, ◌+◌, ◌-◌, ◌≤◌, ◌<◌}
use native.Mathlib.Omega.{arith}
use lib.ListN.{length, take, drop, length-append}
use lib.Seq.{take-append-add, length-take-le}
use Rattle.reply.specs.Written.{over}
use Rattle.condition.specs.declared.Condition.{Condition}
use Rattle.panel.specs.Step.{step_of, condition_after, outcomes}
use Rattle.input.specs.Lines.{Cut, cut, line_length, between}
use Rattle.input.proofs.Cutting.{cut_more, between_none}
use Rattle.lines.specs.declared.Feed.{Feed}
use Rattle.lines.specs.Replies.{sent, together, replies_to}
use Rattle.lines.specs.Taking.{LinesTaken}

-- ---- a reply behind those that wait
pub reply_waits : (l part post w : List ℕ) (n k : ℕ) → n ≤ length l → k ≡ length w → take (n + k) (take n l ++ (over w part ++ post)) ≡ take n l ++ w
unfolding over
reply_waits l part post w n k p e =
    let m : n + k ≡ length (take n l) + length w = omega (arith, length-take-le n l p) in
    let z : length w ≡ length w + 0 = omega arith in
    rw (m, take-append-add (take n l) ((w ++ drop (length w) part) ++ post) (length w), append_assoc w (drop (length w) part) post)
    (ap (λ (t : List ℕ). take n l ++ t) (ap (λ (i : ℕ). take i (w ++ (drop (length w) part ++ post))) z ∙ take-append-add w (drop (length w) part ++ post) 0 ∙ append-nil w))

-- ---- lines after lines
pub sent_on : (c : Condition) (a b : List (List ℕ)) → condition_after c (sent (a ++ b)) ≡ condition_after (condition_after c (sent a)) (sent b)
unfolding condition_after
sent_on c [] b = refl
sent_on c (l ∷ a) b = sent_on (step_of c l 2100).after a b

pub replied_on : (c : Condition) (a b : List (List ℕ)) → replies_to c (a ++ b) ≡ replies_to c a ++ replies_to (condition_after c (sent a)) b
unfolding condition_after outcomes together
replied_on c [] b = refl
replied_on c (l ∷ a) b =
    ap (λ (w : List ℕ). (step_of c l 2100).reply ++ w) (replied_on (step_of c l 2100).after a b)
    ∙ sym (append_assoc (step_of c l 2100).reply (replies_to (step_of c l 2100).after a) (replies_to (condition_after (step_of c l 2100).after (sent a)) b))

-- none, and one
pub none_sent : (c : Condition) → condition_after c (sent []) ≡ c
unfolding condition_after
none_sent c = refl

pub none_replied : (c : Condition) → replies_to c [] ≡ []
unfolding outcomes together
none_replied c = refl

pub one_sent : (c : Condition) (l : List ℕ) → condition_after c (sent (l ∷ [])) ≡ (step_of c l 2100).after
unfolding condition_after
one_sent c l = refl

pub one_replied : (c : Condition) (l : List ℕ) → replies_to c (l ∷ []) ≡ (step_of c l 2100).reply
unfolding outcomes together
one_replied c l = append-nil (step_of c l 2100).reply

-- ---- the lines taken so far, and one more
pub taken_none : (f : Feed) (waited block : List ℕ) (at : ℕ) → LinesTaken f waited (between block at at) f waited
unfolding cut
taken_none f waited block at =
    rw (between_none block at) (record {
      whole = refl;
      condition = sym (none_sent f.cond);
      replied = sym (rw (none_replied f.cond) (append-nil waited));
      count = omega arith;
    })

pub taken_more : {f r g : Feed} {waited passed waits after : List ℕ} → LinesTaken f waited passed r waits → (l : List ℕ) → length l ≤ line_length l → 0 < r.left →
    g.cond ≡ (step_of r.cond l 2100).after → g.left ≡ r.left - 1 → after ≡ waits ++ (step_of r.cond l 2100).reply → LinesTaken f waited (passed ++ (l ++ 10 ∷ [])) g after
taken_more {f} {r} {g} {waited} {passed} {waits} {after} s l u p c n w =
    let ls = (cut passed).lines in
    let k = cut_more passed l s.whole u in
    record {
      whole = ap (λ (k : Cut). k.rest) k;
      condition = c ∙ rw (k, s.condition) (sym (sent_on f.cond ls (l ∷ []) ∙ one_sent (condition_after f.cond (sent ls)) l));
      replied =
          w ∙ rw (k, s.replied, s.condition, replied_on f.cond ls (l ∷ []), one_replied (condition_after f.cond (sent ls)) l)
          (append_assoc waited (replies_to f.cond ls) (step_of (condition_after f.cond (sent ls)) l 2100).reply);
      count = omega (arith, s.count, ap (λ (k : Cut). length k.lines) k, length-append ls (l ∷ []));
    }
