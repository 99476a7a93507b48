-- A line that is so spelled is its own spelling.
use mathlib.Core.Path.{◌≡◌, refl, sym, ◌∙◌, ap}
use mathlib.Core.Bool.{true, false}
use mathlib.Core.List.{List, [], ◌∷◌, ◌++◌}
use Prim.Native.Nat.{ℕ, suc, ◌+◌, ◌-◌}
use native.Mathlib.Omega.{arith}
use lib.ListN.{length, take, drop}
use Rattle.whole.specs.Lists.{all, within}
use Rattle.whole.proofs.Lists.{and_true}
use Rattle.text.specs.Token.{space, opening, closing, in_run, allowed, Token, opened, closed, run, starts_run, tokens, run_length}
use Rattle.text.proofs.Runs.{run_token}
use Rattle.text.proofs.Parts.{tokens_opening, tokens_closing, tokens_space, tokens_last, tokens_more}
use Rattle.spelling.specs.Spelling.{ends_item, between, spell}
use Rattle.spelling.specs.SoSpelled.{byte_at, Spaced, SoSpelled}
use Rattle.text.proofs.Sorts.{Sort, is_space, is_opening, is_closing, is_of_run, sort, not_in_run}

-- spaces inside a line stay as they are behind its first byte
next : (b : ℕ) (s : List ℕ) (i : ℕ) → byte_at (b ∷ s) (suc i + 1) ≡ byte_at s (i + 1)
next b s i =
    let e : suc i + 1 ≡ suc (i + 1) = omega arith in
    ap (byte_at (b ∷ s)) e

last : (b : ℕ) (s : List ℕ) → (byte_at (b ∷ s) (length (b ∷ s) - 1) ≡ space → ⊥) → byte_at s (length s - 1) ≡ space → ⊥
last b [] f e = omega arith
last b (c ∷ s) f e =
    let g : length (b ∷ c ∷ s) - 1 ≡ suc (length (c ∷ s) - 1) = omega arith in
    f (ap (byte_at (b ∷ c ∷ s)) g ∙ e)

behind_first : (b : ℕ) (s : List ℕ) → Spaced (b ∷ s) → Spaced s
unfolding all
behind_first b s w =
    record {
      bytes = (and_true (allowed b) (all allowed s) w.bytes).1;
      end = last b s w.end;
      behind_opening = λ i e f. w.behind_opening (suc i) e (next b s i ∙ f);
      before_closing = λ i e f. w.before_closing (suc i) e (next b s i ∙ f);
      two_together = λ i e f. w.two_together (suc i) e (next b s i ∙ f);
      run_form = λ i e f. w.run_form (suc i) e (next b s i ∙ f);
      two_forms = λ i e f. w.two_forms (suc i) e (next b s i ∙ f);
      form_run = λ i e f. w.form_run (suc i) e (ap in_run (next b s i) ∙ f);
    }

first_sort : (b : ℕ) (s : List ℕ) → Spaced (b ∷ s) → Sort b
unfolding all
first_sort b s w = sort b (and_true (allowed b) (all allowed s) w.bytes).0

-- ---- between a token and the bytes behind it
after_opened : (ts : List Token) → between opened ts ≡ []
after_opened [] = refl
after_opened (u ∷ ts) = refl

-- where an item ends: nothing before a closing bracket, a space before a run or an opening bracket
before_closed : (t : Token) (s : List ℕ) → between t (tokens (closing ∷ s)) ≡ []
before_closed opened s = rw (tokens_closing s)
before_closed closed s = rw (tokens_closing s)
before_closed (run r) s = rw (tokens_closing s)

before_opened : (t : Token) (s : List ℕ) → ends_item t ≡ true → between t (tokens (opening ∷ s)) ≡ space ∷ []
before_opened t s e = rw (tokens_opening s, e)

before_run : (t : Token) (s : List ℕ) → ends_item t ≡ true → starts_run s ≡ true → between t (tokens s) ≡ space ∷ []
before_run t s e f = rw (run_token s f, e)

same_run : (b : ℕ) (r : List ℕ) (ts : List Token) → between (run (b ∷ r)) ts ≡ between (run r) ts
same_run b r [] = refl
same_run b r (opened ∷ ts) = refl
same_run b r (closed ∷ ts) = refl
same_run b r (run q ∷ ts) = refl

-- ---- one item's last token in front of a spelled line, with a space between where the line has one
abbrev Own : List ℕ → Type 0
Own s = (byte_at s 0 ≡ space → ⊥) → spell (tokens s) ≡ s

-- a space, and behind it an item
space_by : (t : Token) (d : ℕ) (s : List ℕ) → ends_item t ≡ true → Sort d → Spaced (space ∷ d ∷ s) → Own (d ∷ s) →
    between t (tokens (space ∷ d ∷ s)) ++ spell (tokens (space ∷ d ∷ s)) ≡ space ∷ d ∷ s
space_by t d s e (is_space f) w ih = absurd (w.two_together 0 refl f)
space_by t d s e (is_closing f) w ih = absurd (w.before_closing 0 refl f)
space_by t d s e (is_opening f) w ih =
    let g = ih (w.two_together 0 refl) in
    rw (tokens_space (d ∷ s), g, f, before_opened t s e)
space_by t d s e (is_of_run f) w ih =
    let g = ih (w.two_together 0 refl) in
    rw (tokens_space (d ∷ s), g, before_run t (d ∷ s) e f)

space_item : (t : Token) (s : List ℕ) → ends_item t ≡ true → Spaced (space ∷ s) → Own s →
    between t (tokens (space ∷ s)) ++ spell (tokens (space ∷ s)) ≡ space ∷ s
space_item t [] e w ih = absurd (w.end refl)
space_item t (d ∷ s) e w ih = space_by t d s e (first_sort d s (behind_first space (d ∷ s) w)) w ih

-- a closing bracket, or the last byte of a run
module _ (s : List ℕ) (c : ℕ) (h1 : Own (c ∷ s)) (h2 : Own s) where
  behind_closing : Sort c → Spaced (closing ∷ c ∷ s) → between closed (tokens (c ∷ s)) ++ spell (tokens (c ∷ s)) ≡ c ∷ s
  behind_closing (is_space f) w = rw f (space_item closed s refl (rw f at (behind_first closing (c ∷ s) w)) h2)
  behind_closing (is_opening f) w = absurd (w.two_forms 0 refl f)
  behind_closing (is_of_run f) w = absurd (w.form_run 0 refl f)
  behind_closing (is_closing f) w =
      let n : c ≡ space → ⊥ = λ g. omega arith in
      rw (h1 n) (rw (f, before_closed closed s))

  behind_run : (b : ℕ) → in_run b ≡ true → Sort c → Spaced (b ∷ c ∷ s) → spell (tokens (b ∷ c ∷ s)) ≡ b ∷ c ∷ s
  unfolding spell within
  behind_run b e (is_space f) w =
      let g : starts_run (c ∷ s) ≡ false = rw f in
      rw (tokens_last b (c ∷ s) e g, f) (ap (λ l. b ∷ l) (space_item (run (b ∷ [])) s refl (rw f at (behind_first b (c ∷ s) w)) h2))
  behind_run b e (is_opening f) w = absurd (w.run_form 0 e f)
  behind_run b e (is_closing f) w =
      let g : starts_run (c ∷ s) ≡ false = rw f in
      let n : c ≡ space → ⊥ = λ g. omega arith in
      rw (tokens_last b (c ∷ s) e g) (ap (λ l. b ∷ l) (rw (h1 n) (rw (f, before_closed (run (b ∷ [])) s))))
  behind_run b e (is_of_run f) w =
      let n : c ≡ space → ⊥ = not_in_run c space f refl in
      let t = run_token (c ∷ s) f in
      let r = take (run_length (c ∷ s)) (c ∷ s) in
      let us = tokens (drop (run_length (c ∷ s)) (c ∷ s)) in
      let g : spell (run r ∷ us) ≡ c ∷ s = ap spell (sym t) ∙ h1 n in
      rw (tokens_more b (c ∷ s) r us e f t) (ap (λ l. b ∷ l) (rw (same_run b r us) g))

  one_more : (b : ℕ) → Sort b → Sort c → Spaced (b ∷ c ∷ s) → Own (b ∷ c ∷ s)
  unfolding spell
  one_more b (is_space e) k w n = absurd (n e)
  one_more b (is_opening e) k w n =
      rw (e, tokens_opening (c ∷ s), after_opened (tokens (c ∷ s)), h1 (w.behind_opening 0 e))
  one_more b (is_closing e) k w n = rw (e, tokens_closing (c ∷ s)) (ap (λ l. closing ∷ l) (behind_closing k (rw e at w)))
  one_more b (is_of_run e) k w n = behind_run b e k w

alone : (b : ℕ) → Sort b → Own (b ∷ [])
unfolding spell tokens within
alone b (is_space e) n = absurd (n e)
alone b (is_opening e) n = rw e
alone b (is_closing e) n = rw e
alone b (is_of_run e) n = rw (tokens_last b [] e refl)

own : (line : List ℕ) → Spaced line → Own line
own [] w n = unfold spell tokens in refl
own (b ∷ []) w n = alone b (first_sort b [] w) n
own (b ∷ c ∷ s) w n =
    let v = behind_first b (c ∷ s) w in
    one_more s c (own (c ∷ s) v) (own s (behind_first c s v)) b (first_sort b (c ∷ s) w) (first_sort c s v) w n

pub own_spelling : (line : List ℕ) → SoSpelled line → spell (tokens line) ≡ line
own_spelling line w = own line w.spaced w.front
