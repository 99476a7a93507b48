-- Code 12: a walk along a line ends behind its form exactly where the line is one form by the grammar.
use mathlib.Core.Path.{◌≡◌, refl, sym, ◌∙◌, ap}
use mathlib.Core.Bool.{Bool, true, false, cond}
use mathlib.Core.List.{List, [], ◌∷◌, ◌++◌, append_assoc}
use Prim.Native.Nat.{ℕ, zero, suc, ◌+◌, ◌-◌, ◌≤◌}
use native.Mathlib.Omega.{arith}
use lib.Dec.{eqb, ltb}
use lib.ListN.{replicate}
use borrow.Author.Tests.{eqb-true, eqb-false, lt-ltb, le-ltb}
use Rattle.line_codes.specs.Line.{before, inside, behind, wrong, out_of, walked, is_behind, one_form}
use Rattle.line_codes.specs.Codes.{Inner, none, byte, form as inner, Form, form, OneForm}
use Rattle.line_codes.proofs.Walks.{walked_wrong, over_open, over_close, over_plain, step}

-- ---- out of a bracket, with others open
step_shut : (most k : ℕ) (l : List ℕ) → walked most (inside (suc k)) (41 ∷ l) ≡ walked most (out_of k) l
step_shut most k l =
    let e : suc k - 1 ≡ k = omega arith in
    step most (inside (suc k)) 41 l (over_close most 41 (suc k) refl ∙ ap out_of e)

-- ---- the walk over what stands inside a form leaves as many brackets open as there were
over_inner : {n : ℕ} {f : List ℕ} → Inner n f → (most k : ℕ) (l : List ℕ) → suc k + n ≤ most → walked most (inside (suc k)) (f ++ l) ≡ walked most (inside (suc k)) l
over_inner none most k l h = refl
over_inner (byte {b = b} {s = s} p q r) most k l h = step most (inside (suc k)) b (s ++ l) (over_plain most b (suc k) p q) ∙ over_inner r most k l h
over_inner (inner {f = f} {s = s} r t) most k l h =
    step most (inside (suc k)) 40 ((f ++ (41 ∷ s)) ++ l) (over_open most 40 (suc k) refl (omega arith))
    ∙ ap (walked most (inside (suc (suc k)))) (append_assoc f (41 ∷ s) l)
    ∙ over_inner r most (suc k) (41 ∷ (s ++ l)) (omega arith)
    ∙ step_shut most (suc k) (s ++ l)
    ∙ over_inner t most k l h

spaces_before : (most n : ℕ) (l : List ℕ) → walked most before (replicate n 32 ++ l) ≡ walked most before l
unfolding walked
spaces_before most zero l = refl
spaces_before most (suc n) l = spaces_before most n l

spaces_behind : (most n : ℕ) → walked most behind (replicate n 32) ≡ behind
unfolding walked
spaces_behind most zero = refl
spaces_behind most (suc n) = spaces_behind most n

form_walks : (n most : ℕ) (f l : List ℕ) → n ≤ most → Form n f → walked most before (f ++ l) ≡ walked most behind l
unfolding walked
form_walks n most f l h (form {f = g} r) =
    ap (walked most (inside 1)) (append_assoc g (41 ∷ []) l)
    ∙ over_inner r most 0 (41 ∷ l) (omega arith)
    ∙ step_shut most 0 l

-- a form passes where as many brackets as it needs may be open, or more
pub form_passes : (n most : ℕ) (s : List ℕ) → n ≤ most → OneForm n s → one_form most s ≡ true
form_passes n most s h f =
    rw (f.line, spaces_before most f.before (f.written ++ replicate f.behind 32), form_walks n most f.written (replicate f.behind 32) h f.is, spaces_behind most f.behind)

-- ---- what a walk that ends behind the form has before it, with k brackets open and d more allowed
record Spaces (s : List ℕ) : Type 0 where
  count : ℕ
  are : s ≡ replicate count 32

abbrev Rest : (d k : ℕ) → List ℕ → Type 0
Rest d zero s = Spaces s
Rest d (suc k) s = (f : List ℕ) × (t : List ℕ) × Inner d f × (s ≡ f ++ (41 ∷ t)) × Rest (suc d) k t

no_end : false ≡ true → ⊥
no_end e = let z : ◌≡◌ {A = ℕ} 0 1 = cc in omega arith

module _ (most : ℕ) where
  only_spaces : (s : List ℕ) → is_behind (walked most behind s) ≡ true → Spaces s
  unfolding walked
  only_spaces [] e = record { count = 0; are = refl }
  only_spaces (b ∷ s) e = by (eqb b 32) refl e (only_spaces s)
    where
      by : (x : Bool) → eqb b 32 ≡ x → is_behind (walked most (cond x behind wrong) s) ≡ true → (is_behind (walked most behind s) ≡ true → Spaces s) → Spaces (b ∷ s)
      by true p w more =
          let m = more w in
          record { count = suc m.count; are = rw (eqb-true b 32 p, ← m.are) }
      by false p w more = absurd (no_end (rw (walked_wrong most s) at w))

  -- one byte more in front
  shut : (d k : ℕ) (s : List ℕ) → Rest (suc d) k s → Rest d (suc k) (41 ∷ s)
  shut d k s r = ([], s, none, refl, r)

  plain : (d k b : ℕ) (s : List ℕ) → (b ≡ 40 → ⊥) → (b ≡ 41 → ⊥) → Rest d (suc k) s → Rest d (suc k) (b ∷ s)
  plain d k b s p q (f, t, i, e, r) = (b ∷ f, t, byte p q i, ap (λ (l : List ℕ). b ∷ l) e, r)

  opened : (d k : ℕ) (s : List ℕ) → Rest d (suc (suc k)) s → Rest (suc d) (suc k) (40 ∷ s)
  opened d k s (f, t, i, e, (g, u, j, e', r)) =
      (40 ∷ (f ++ (41 ∷ g)), u, inner i j, ap (λ (l : List ℕ). 40 ∷ l) (e ∙ rw (e', append_assoc f (41 ∷ g) (41 ∷ u))), r)

  -- what the walk has before it behind a closing bracket, and behind an opening one
  after : (s : List ℕ) → ((d k : ℕ) → d + suc k ≡ most → is_behind (walked most (inside (suc k)) s) ≡ true → Rest d (suc k) s) →
      (d k : ℕ) → d + suc k ≡ most → is_behind (walked most (out_of k) s) ≡ true → Rest (suc d) k s
  after s more d zero m w = only_spaces s w
  after s more d (suc k) m w = more (suc d) k (omega arith) w

  deeper : (s : List ℕ) → ((d k : ℕ) → d + suc k ≡ most → is_behind (walked most (inside (suc k)) s) ≡ true → Rest d (suc k) s) →
      (d k : ℕ) → d + suc k ≡ most → is_behind (walked most (cond (ltb (suc k) most) (inside (suc (suc k))) wrong) s) ≡ true → Rest d (suc k) (40 ∷ s)
  deeper s more zero k m w = absurd (no_end (rw (le-ltb (suc k) most (omega arith), walked_wrong most s) at w))
  deeper s more (suc d) k m w = opened d k s (more d (suc k) (omega arith) (rw (lt-ltb (suc k) most (omega arith)) at w))

  rest : (s : List ℕ) (d k : ℕ) → d + suc k ≡ most → is_behind (walked most (inside (suc k)) s) ≡ true → Rest d (suc k) s
  unfolding walked
  rest [] d k m e = absurd (no_end e)
  rest (b ∷ s) d k m e =
      let z : suc k - 1 ≡ k = omega arith in
      by (eqb b 40) (eqb b 41) refl refl (rw z at e) (rest s)
    where
      by : (x y : Bool) → eqb b 40 ≡ x → eqb b 41 ≡ y →
          is_behind (walked most (cond x (cond (ltb (suc k) most) (inside (suc (suc k))) wrong) (cond y (out_of k) (inside (suc k)))) s) ≡ true →
          ((d k : ℕ) → d + suc k ≡ most → is_behind (walked most (inside (suc k)) s) ≡ true → Rest d (suc k) s) → Rest d (suc k) (b ∷ s)
      by true y p q w more = rw (eqb-true b 40 p) (deeper s more d k m w)
      by false true p q w more = rw (eqb-true b 41 q) (shut d k s (after s more d k m w))
      by false false p q w more = plain d k b s (eqb-false b 40 p) (eqb-false b 41 q) (more d k m w)

-- ---- a line whose walk ends behind its form
one_space : (most : ℕ) (s : List ℕ) → OneForm most s → OneForm most (32 ∷ s)
one_space most s f =
    record { before = suc f.before; written = f.written; behind = f.behind; is = f.is; line = ap (λ (l : List ℕ). 32 ∷ l) f.line }

from_bracket : (n : ℕ) (s : List ℕ) → Rest n 1 s → OneForm (suc n) (40 ∷ s)
from_bracket n s (f, t, i, e, r) =
    record {
      before = 0;
      written = 40 ∷ (f ++ (41 ∷ []));
      behind = r.count;
      is = form i;
      line = ap (λ (l : List ℕ). 40 ∷ l) (e ∙ rw r.are (sym (append_assoc f (41 ∷ []) (replicate r.count 32))));
    }

pub form_found : (n : ℕ) (s : List ℕ) → one_form (suc n) s ≡ true → OneForm (suc n) s
unfolding walked
form_found n [] e = absurd (no_end e)
form_found n (b ∷ s) e = by (eqb b 32) (eqb b 40) refl refl e (form_found n s)
  where
    by : (x y : Bool) → eqb b 32 ≡ x → eqb b 40 ≡ y → is_behind (walked (suc n) (cond x before (cond y (inside 1) wrong)) s) ≡ true →
        (one_form (suc n) s ≡ true → OneForm (suc n) s) → OneForm (suc n) (b ∷ s)
    by true y p q w more = rw (eqb-true b 32 p) (one_space (suc n) s (more w))
    by false true p q w more = rw (eqb-true b 40 q) (from_bracket n s (rest (suc n) s n 0 (omega arith) w))
    by false false p q w more = absurd (no_end (rw (walked_wrong (suc n) s) at w))
