-- The tokens of a spelled line are the tokens that were spelled, and the tokens of every line can be spelled.
use mathlib.Core.Path.{◌≡◌, refl, ◌∙◌, ap}
use mathlib.Core.Bool.{Bool, true, false, cond, ◌&&◌}
use mathlib.Core.List.{List, [], ◌∷◌, ◌++◌}
use Prim.Native.Nat.{ℕ}
use lib.Dec.{eqb}
use Rattle.whole.specs.Lists.{all, within}
use Rattle.whole.proofs.Lists.{clash, and_true}
use Rattle.text.specs.Token.{opening, closing, in_run, Token, opened, closed, run, starts_run, glue, tokens}
use Rattle.text.proofs.Parts.{tokens_opening, tokens_closing, tokens_run}
use Rattle.spelling.specs.Spelling.{parted, space_if, between, spell, proper}

-- what stands behind a run begins none
run_parted : (ts : List Token) (r : List ℕ) → starts_run (between (run r) ts ++ spell ts) ≡ false
unfolding spell within
run_parted [] r = refl
run_parted (opened ∷ ts) r = refl
run_parted (closed ∷ ts) r = refl
run_parted (run q ∷ ts) r = refl

-- what stands between two tokens is no token
space_by : (x : Bool) (s : List ℕ) → tokens (space_if x ++ s) ≡ tokens s
unfolding tokens within
space_by true s = refl
space_by false s = refl

no_token : (t : Token) (ts : List Token) → tokens (between t ts ++ spell ts) ≡ tokens (spell ts)
no_token t ts = space_by (parted t ts) (spell ts)

pub tokens_spell : (ts : List Token) → all proper ts ≡ true → tokens (spell ts) ≡ ts
unfolding spell all
tokens_spell [] e = unfold tokens in refl
tokens_spell (opened ∷ ts) e = tokens_opening (between opened ts ++ spell ts) ∙ ap (λ us. opened ∷ us) (no_token opened ts ∙ tokens_spell ts e)
tokens_spell (closed ∷ ts) e = tokens_closing (between closed ts ++ spell ts) ∙ ap (λ us. closed ∷ us) (no_token closed ts ∙ tokens_spell ts e)
tokens_spell (run [] ∷ ts) e = clash e
tokens_spell (run (b ∷ r) ∷ ts) e =
    let t = and_true (in_run b && all in_run r) (all proper ts) e in
    let u = and_true (in_run b) (all in_run r) t.0 in
    tokens_run b r (between (run (b ∷ r)) ts ++ spell ts) u.0 u.1 (run_parted ts (b ∷ r))
    ∙ ap (λ us. run (b ∷ r) ∷ us) (no_token (run (b ∷ r)) ts ∙ tokens_spell ts t.1)

-- a byte of a run in front keeps the tokens proper
proper_glue : (x : Bool) (b : ℕ) (ts : List Token) → in_run b ≡ true → all proper ts ≡ true → all proper (glue x b ts) ≡ true
unfolding all
proper_glue false b ts e f = rw (e, f)
proper_glue true b [] e f = rw e
proper_glue true b (opened ∷ ts) e f = rw (e, f)
proper_glue true b (closed ∷ ts) e f = rw (e, f)
proper_glue true b (run [] ∷ ts) e f = clash f
proper_glue true b (run (c ∷ r) ∷ ts) e f = rw (e, f)

proper_by : (b : ℕ) (s : List ℕ) (x y z : Bool) → in_run b ≡ x → all proper (tokens s) ≡ true →
    all proper (cond x (glue (starts_run s) b (tokens s)) (cond y (opened ∷ tokens s) (cond z (closed ∷ tokens s) (tokens s)))) ≡ true
unfolding all
proper_by b s true y z e f = proper_glue (starts_run s) b (tokens s) e f
proper_by b s false true z e f = f
proper_by b s false false true e f = f
proper_by b s false false false e f = f

pub tokens_proper : (line : List ℕ) → all proper (tokens line) ≡ true
unfolding tokens
tokens_proper [] = unfold all in refl
tokens_proper (b ∷ s) = proper_by b s (in_run b) (eqb b opening) (eqb b closing) refl (tokens_proper s)
