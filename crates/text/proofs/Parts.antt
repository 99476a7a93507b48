-- Tokens of a line that is put together: of a byte in front, of a run in front, of two parts.
use mathlib.Core.Path.{◌≡◌, refl}
use mathlib.Core.Bool.{Bool, true, false, cond, ◌&&◌}
use mathlib.Core.List.{List, [], ◌∷◌, ◌++◌}
use Prim.Native.Nat.{ℕ}
use native.Mathlib.Omega.{arith}
use lib.Dec.{eqb}
use Rattle.whole.specs.Lists.{within, all}
use Rattle.whole.proofs.Lists.{and_true}
use Rattle.text.specs.Token.{space, opening, closing, Token, opened, closed, run, in_run, starts_run, glue, tokens}
use Rattle.text.proofs.Runs.{run_token}

-- ---- one byte in front: a bracket is a token, a space is none
pub tokens_opening : (s : List ℕ) → tokens (opening ∷ s) ≡ opened ∷ tokens s
unfolding tokens within
tokens_opening s = refl

pub tokens_closing : (s : List ℕ) → tokens (closing ∷ s) ≡ closed ∷ tokens s
unfolding tokens within
tokens_closing s = refl

pub tokens_space : (s : List ℕ) → tokens (space ∷ s) ≡ tokens s
unfolding tokens within
tokens_space s = refl

-- a byte of a run in front of bytes that begin no run; and in front of a run's bytes
pub tokens_last : (b : ℕ) (s : List ℕ) → in_run b ≡ true → starts_run s ≡ false → tokens (b ∷ s) ≡ run (b ∷ []) ∷ tokens s
unfolding tokens
tokens_last b s e f = rw (e, f)

pub tokens_more : (b : ℕ) (s r : List ℕ) (ts : List Token) → in_run b ≡ true → starts_run s ≡ true → tokens s ≡ run r ∷ ts → tokens (b ∷ s) ≡ run (b ∷ r) ∷ ts
unfolding tokens
tokens_more b s r ts e f g = rw (e, f, g)

-- a run, in front of bytes that begin no run
pub tokens_run : (b : ℕ) (r s : List ℕ) → in_run b ≡ true → all in_run r ≡ true → starts_run s ≡ false → tokens (b ∷ r ++ s) ≡ run (b ∷ r) ∷ tokens s
unfolding all
tokens_run b [] s e f g = tokens_last b s e g
tokens_run b (c ∷ r) s e f g =
    let t = and_true (in_run c) (all in_run r) f in
    tokens_more b (c ∷ r ++ s) (c ∷ r) (tokens s) e t.0 (tokens_run c r s t.0 t.1 g)

-- ---- two parts that no run joins
unfoldable pub ends : List ℕ → Bool
ends [] = false
ends (x ∷ []) = in_run x
ends (x ∷ y ∷ s) = ends (y ∷ s)

glue_append : (x : ℕ) (y : Bool) (s : List ℕ) (ts : List Token) → starts_run s ≡ y → glue y x (tokens s ++ ts) ≡ glue y x (tokens s) ++ ts
glue_append x false s ts e = refl
glue_append x true s ts e = rw (run_token s e)

pub tokens_append : (a b : List ℕ) → (ends a && starts_run b) ≡ false → tokens (a ++ b) ≡ tokens a ++ tokens b
unfolding tokens ends
tokens_append [] b e = refl
tokens_append (x ∷ []) b e = by (in_run x) (eqb x 40) (eqb x 41) (starts_run b) e
  where
    by : (p o c q : Bool) → (p && q) ≡ false → cond p (glue q x (tokens b)) (cond o (opened ∷ tokens b) (cond c (closed ∷ tokens b) (tokens b))) ≡ cond p (glue false x []) (cond o (opened ∷ []) (cond c (closed ∷ []) [])) ++ tokens b
    by true o c true e = let z : ◌≡◌ {A = ℕ} 0 1 = cc in absurd (omega arith)
    by true o c false e = refl
    by false true c q e = refl
    by false false true q e = refl
    by false false false q e = refl
tokens_append (x ∷ y ∷ s) b e = rw (tokens_append (y ∷ s) b e) (by (in_run x) (eqb x 40) (eqb x 41))
  where
    by : (p o c : Bool) →
        cond p (glue (in_run y) x (tokens (y ∷ s) ++ tokens b)) (cond o (opened ∷ (tokens (y ∷ s) ++ tokens b)) (cond c (closed ∷ (tokens (y ∷ s) ++ tokens b)) (tokens (y ∷ s) ++ tokens b)))
        ≡ cond p (glue (in_run y) x (tokens (y ∷ s))) (cond o (opened ∷ tokens (y ∷ s)) (cond c (closed ∷ tokens (y ∷ s)) (tokens (y ∷ s)))) ++ tokens b
    by true o c = glue_append x (in_run y) (y ∷ s) (tokens b) refl
    by false true c = refl
    by false false true = refl
    by false false false = refl
