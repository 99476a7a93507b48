-- A line of allowed bytes is walked as its tokens are: whether it is one form is said by the tokens alone.
use mathlib.Core.Path.{◌≡◌, refl, ◌∙◌, ap}
use mathlib.Core.Bool.{Bool, true, false}
use mathlib.Core.List.{List, [], ◌∷◌}
use Prim.Native.Nat.{ℕ}
use lib.ListN.{take, drop}
use Rattle.whole.specs.Lists.{all, within}
use Rattle.whole.proofs.Lists.{and_true}
use Rattle.text.specs.Token.{allowed, in_run, Token, opened, closed, run, starts_run, tokens, run_length}
use Rattle.text.proofs.Parts.{tokens_opening, tokens_closing, tokens_space, tokens_last, tokens_more}
use Rattle.text.proofs.Runs.{run_token}
use Rattle.text.proofs.Sorts.{not_in_run}
use Rattle.line_codes.specs.Line.{Stand, before, inside, behind, wrong, further, walked, deepest, is_behind, one_form}
use Rattle.line_codes.specs.Parts.{over_run, over_token}
use Rattle.line_codes.specs.Codes.{Allowed, opening, closing, space, of_run}
use Rattle.line_codes.proofs.Bytes.{in_run_lem, may_stand}
use Rattle.line_codes.proofs.Walks.{over_space, over_other, over_any, over_plain}

-- along tokens
unfoldable pub along : (most : ℕ) → Stand → List Token → Stand
along most p [] = p
along most p (t ∷ ts) = along most (over_token most p t) ts

-- every byte of a run is walked alike, and a second one changes nothing
over_run_lem : (most : ℕ) (p : Stand) (b : ℕ) → in_run b ≡ true → further most p b ≡ over_run p
unfolding within
over_run_lem most before b e = over_other most b (not_in_run b 40 e refl) (not_in_run b 32 e refl)
over_run_lem most (inside n) b e = over_plain most b n (not_in_run b 40 e refl) (not_in_run b 41 e refl)
over_run_lem most behind b e = over_any most b (not_in_run b 32 e refl)
over_run_lem most wrong b e = refl

run_once : (p : Stand) → over_run (over_run p) ≡ over_run p
run_once before = refl
run_once (inside n) = refl
run_once behind = refl
run_once wrong = refl

module _ (most : ℕ) where
  abbrev Alike : List ℕ → Type 0
  Alike s = (p : Stand) → walked most p s ≡ along most p (tokens s)

  walk_run : (b : ℕ) (s : List ℕ) (x : Bool) → starts_run s ≡ x → in_run b ≡ true → Alike s → Alike (b ∷ s)
  unfolding walked along
  walk_run b s false f e ih p = rw (tokens_last b s e f, over_run_lem most p b e) (ih (over_run p))
  walk_run b s true f e ih p =
      let t = run_token s f in
      rw (tokens_more b s (take (run_length s) s) (tokens (drop (run_length s) s)) e f t, over_run_lem most p b e) (ih (over_run p) ∙ rw t (ap (λ q. along most q (tokens (drop (run_length s) s))) (run_once p)))

  walk_by : (b : ℕ) (s : List ℕ) → Allowed b → Alike s → Alike (b ∷ s)
  unfolding walked along
  walk_by b s (space e) ih p = rw (e, tokens_space s, over_space most p) (ih p)
  walk_by b s (opening e) ih p = rw (e, tokens_opening s) (ih (further most p 40))
  walk_by b s (closing e) ih p = rw (e, tokens_closing s) (ih (further most p 41))
  walk_by b s (of_run l) ih p = walk_run b s (starts_run s) refl (in_run_lem l) ih p

  pub walk_tokens : (s : List ℕ) → all allowed s ≡ true → (p : Stand) → walked most p s ≡ along most p (tokens s)
  unfolding all
  walk_tokens [] e p = unfold walked along tokens in refl
  walk_tokens (b ∷ s) e p =
      let t = and_true (allowed b) (all allowed s) e in
      walk_by b s (may_stand b t.0) (walk_tokens s t.1) p

  pub form_alike : (a b : List ℕ) → all allowed a ≡ true → all allowed b ≡ true → tokens a ≡ tokens b → one_form most a ≡ one_form most b
  form_alike a b e f g = rw (walk_tokens a e before, walk_tokens b f before, g)

-- a walk that went wrong stays wrong
along_wrong : (most : ℕ) (ts : List Token) → along most wrong ts ≡ wrong
unfolding along
along_wrong most [] = refl
along_wrong most (opened ∷ ts) = along_wrong most ts
along_wrong most (closed ∷ ts) = along_wrong most ts
along_wrong most (run r ∷ ts) = along_wrong most ts

-- ---- what the walk along a line of allowed bytes finds: it has come to p, and ts is what is left
module _ (s : List ℕ) (ok : all allowed s ≡ true) (most : ℕ) (limit : most ≡ deepest (tokens s)) (p : Stand) (ts : List Token) (come : along most p ts ≡ along most before (tokens s)) where
  form_by : one_form (deepest (tokens s)) s ≡ is_behind (along most p ts)
  form_by = rw (← limit, walk_tokens most s ok before, come)

  pub form_end : (q : Stand) → p ≡ q → ts ≡ [] → one_form (deepest (tokens s)) s ≡ is_behind q
  unfolding along
  form_end q there e = form_by ∙ rw (e, there)

  module _ (t : Token) (us : List Token) (next : ts ≡ t ∷ us) {q : Stand} (over : over_token most p t ≡ q) where
    pub form_on : along most q us ≡ along most before (tokens s)
    unfolding along
    form_on = rw (← over, ← come, next)

  pub form_wrong : (t : Token) (us : List Token) → ts ≡ t ∷ us → over_token most p t ≡ wrong → one_form (deepest (tokens s)) s ≡ false
  unfolding along
  form_wrong t us next over = form_by ∙ rw (next, over, along_wrong most us)
