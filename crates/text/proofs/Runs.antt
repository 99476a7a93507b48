-- Laws of tokens.
use mathlib.Core.Path.{◌≡◌, refl, sym, ap, ◌∙◌}
use mathlib.Core.Bool.{Bool, true, false, ◌&&◌}
use mathlib.Core.List.{List, [], ◌∷◌}
use Prim.Native.Nat.{ℕ, suc, ◌+◌, ◌<◌}
use native.Mathlib.Omega.{arith}
use lib.Dec.{eqb}
use lib.Pointwise.{pointwise}
use lib.ListN.{length, take, drop, drop_of_length-le}
use Rattle.whole.specs.Lists.{within}
use borrow.Author.Tests.{ne_eqb, eqb-true}
use Rattle.text.specs.Token.{opening, closing, opened, closed, run, in_run, starts_run, glue, tokens, same}
use Rattle.text.specs.Token.{RunRule, run_length}
use Rattle.text.specs.Front.{gap}
use Rattle.whole.proofs.Lists.{clash, and_true}

pub no_run : (s : List ℕ) → starts_run s ≡ false → run_length s ≡ 0
no_run [] e = refl
no_run (b ∷ s) e = rw e

run_by : (b : ℕ) (s : List ℕ) (x : Bool) → starts_run s ≡ x → (starts_run s ≡ true → tokens s ≡ run (take (run_length s) s) ∷ tokens (drop (run_length s) s)) →
    glue x b (tokens s) ≡ run (b ∷ take (run_length s) s) ∷ tokens (drop (run_length s) s)
run_by b s true e ih = rw (ih e)
run_by b s false e ih = rw (no_run s e)

-- a run is one token
pub run_token : RunRule
unfolding tokens
run_token [] e =
    let z : ◌≡◌ {A = ℕ} 0 1 = cc in absurd (omega arith)
run_token (b ∷ s) e =
    let k : 1 + run_length s ≡ suc (run_length s) = omega arith in rw (e, k) (run_by b s (starts_run s) refl (run_token s))

-- ---- two runs, compared byte by byte
pub same_true : (a b : List ℕ) → same a b ≡ true → a ≡ b
unfolding same
same_true [] [] e = refl
same_true [] (y ∷ b) e = clash e
same_true (x ∷ a) [] e = clash e
same_true (x ∷ a) (y ∷ b) e =
    let t = and_true (eqb x y) (same a b) e in
    rw (eqb-true x y t.0, same_true a b t.1)

-- what `==` finds of two slices
same_pointwise : (a b : List ℕ) → pointwise eqb a b ≡ same a b
unfolding same
same_pointwise [] [] = refl
same_pointwise [] (y ∷ b) = refl
same_pointwise (x ∷ a) [] = refl
same_pointwise (x ∷ a) (y ∷ b) = ap (◌&&◌ (eqb x y)) (same_pointwise a b)

-- the same of slices that a test compared: a with b, which has the bytes w
pub same_slices : (a w : List ℕ) {b : List ℕ} {x : Bool} → b ≡ w → x ≡ pointwise eqb a b → same a w ≡ x
same_slices a w e f = sym (f ∙ ap (pointwise eqb a) e ∙ same_pointwise a w)

-- no bytes, no tokens
nothing : (u : List ℕ) → length u ≡ 0 → tokens u ≡ []
unfolding tokens
nothing [] e = refl
nothing (b ∷ u) e = absurd (omega arith)

-- ---- t is what is left of s behind bytes that begin no token
module _ (s t : List ℕ) (there : tokens s ≡ tokens t) where
  pub none_left : length t ≡ 0 → tokens s ≡ []
  none_left e = there ∙ nothing t e

  module _ (b : ℕ) (r : List ℕ) (front : t ≡ b ∷ r) where
    pub opening_left : b ≡ 40 → tokens s ≡ opened ∷ tokens r
    unfolding tokens within
    opening_left e = there ∙ rw (front, e)

    pub closing_left : b ≡ 41 → tokens s ≡ closed ∷ tokens r
    unfolding tokens within
    closing_left e = there ∙ rw (front, e)

    pub byte_over : in_run b ≡ false → (b ≡ 40 → ⊥) → (b ≡ 41 → ⊥) → tokens s ≡ tokens r
    unfolding tokens
    byte_over e x y = there ∙ rw (front, e, ne_eqb b 40 x, ne_eqb b 41 y)

    module _ (of_run : in_run b ≡ true) where
      -- the run of k bytes is w, and u is what is left behind it
      pub run_left : (k : ℕ) (w u : List ℕ) → k ≡ run_length t → w ≡ take k t → u ≡ drop k t → tokens s ≡ run w ∷ tokens u
      run_left k w u e f g = rw (f, g, e) (there ∙ run_token t (rw (front, of_run)))

      pub run_has_bytes : 0 < run_length t
      run_has_bytes = rw (front, of_run) (omega arith)

-- ---- the place of the first piece: t is what is left of s behind bytes that begin no token
module _ (s t : List ℕ) (there : drop (gap s) s ≡ drop (gap t) t) where
  pub none_placed : length t ≡ 0 → drop (gap s) s ≡ []
  none_placed e = there ∙ drop_of_length-le t {i = gap t} (omega arith)

  module _ (b : ℕ) (r : List ℕ) (front : t ≡ b ∷ r) where
    pub opening_placed : b ≡ 40 → drop (gap s) s ≡ opening ∷ r
    unfolding within
    opening_placed e = there ∙ rw (front, e)

    pub closing_placed : b ≡ 41 → drop (gap s) s ≡ closing ∷ r
    unfolding within
    closing_placed e = there ∙ rw (front, e)

    pub place_over : in_run b ≡ false → (b ≡ 40 → ⊥) → (b ≡ 41 → ⊥) → drop (gap s) s ≡ drop (gap r) r
    place_over e x y =
        let k : 1 + gap r ≡ suc (gap r) = omega arith in
        there ∙ rw (front, e, ne_eqb b 40 x, ne_eqb b 41 y, k)

    -- the run of k bytes is w, and u is what is left behind it
    pub run_placed : in_run b ≡ true → (k : ℕ) (w u : List ℕ) → k ≡ run_length t → w ≡ take k t → u ≡ drop k t →
        (w ≡ take (run_length (drop (gap s) s)) (drop (gap s) s)) × (u ≡ drop (run_length (drop (gap s) s)) (drop (gap s) s))
    run_placed of_run k w u e f g =
        let h : drop (gap s) s ≡ t = there ∙ rw (front, of_run) in
        rw (h, ← e) (f, g)
