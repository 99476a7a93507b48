-- Code 12: by its tokens a line begins with the word `show` exactly where it does by its bytes.
use mathlib.Core.Path.{◌≡◌, refl, sym, ◌∙◌, ap}
use mathlib.Core.Bool.{true}
use mathlib.Core.List.{List, [], ◌∷◌, ◌++◌}
use Prim.Native.Nat.{ℕ, zero, suc, ◌<◌}
use lib.ListN.{length, get_or, take, drop, replicate, take-append-drop}
use Rattle.whole.specs.Bytes.{bytes}
use Rattle.whole.specs.Lists.{all, within}
use Rattle.whole.proofs.Lists.{clash, and_true}
use Rattle.text.specs.Token.{allowed, opened, run, starts_run, tokens, run_length, same}
use Rattle.text.proofs.Parts.{tokens_opening, tokens_closing, tokens_space, tokens_run}
use Rattle.text.proofs.Runs.{run_token, same_true}
use Rattle.line_codes.specs.Line.{first_is_show, is_show}
use Rattle.line_codes.specs.Codes.{LetterOrDigit, Allowed, opening, closing, space, of_run, BeginsWithShow}
use Rattle.line_codes.proofs.Bytes.{in_run_lem, may_stand}
use Rattle.line_codes.proofs.Words.{run_stop, stops, starts_none}

-- ---- from the bytes to the tokens
pub over_spaces : (n : ℕ) (l : List ℕ) → tokens (replicate n 32 ++ l) ≡ tokens l
over_spaces zero l = refl
over_spaces (suc n) l = tokens_space (replicate n 32 ++ l) ∙ over_spaces n l

pub show_tokens : (s : List ℕ) (b : BeginsWithShow s) → tokens s ≡ opened ∷ run (bytes "show") ∷ tokens b.behind
unfolding all within
show_tokens s b =
    let word : List ℕ = 115 ∷ 104 ∷ 111 ∷ 119 ∷ b.behind in
    let t = tokens_run 115 (104 ∷ 111 ∷ 119 ∷ []) b.behind refl refl (starts_none b.behind b.ends) in
    rw (b.line, over_spaces b.before (40 ∷ (replicate b.inside 32 ++ word)), tokens_opening (replicate b.inside 32 ++ word), over_spaces b.inside word, t)

pub shows : (s : List ℕ) → BeginsWithShow s → is_show (tokens s) ≡ true
unfolding same
shows s b = rw (show_tokens s b)

-- ---- from the tokens to the bytes: what stands behind the opening bracket
record Inside (s : List ℕ) : Type 0 where
  count : ℕ
  behind : List ℕ
  line : s ≡ replicate count 32 ++ (115 ∷ 104 ∷ 111 ∷ 119 ∷ behind)
  ends : 0 < length behind → LetterOrDigit (get_or behind 0 0) → ⊥

word : (s : List ℕ) → starts_run s ≡ true → first_is_show (tokens s) ≡ true → Inside s
word s e f =
    let w : take (run_length s) s ≡ bytes "show" = same_true (take (run_length s) s) (bytes "show") (rw (run_token s e) at f) in
    record {
      count = 0;
      behind = drop (run_length s) s;
      line = sym (take-append-drop (run_length s) s) ∙ ap (λ (l : List ℕ). l ++ drop (run_length s) s) w;
      ends = stops (drop (run_length s) s) (run_stop s);
    }

inside : (s : List ℕ) → all allowed s ≡ true → first_is_show (tokens s) ≡ true → Inside s
unfolding all
inside [] e f = unfold tokens in clash f
inside (b ∷ s) e f =
    let t = and_true (allowed b) (all allowed s) e in
    by (may_stand b t.0) (inside s t.1) f
  where
    by : Allowed b → (first_is_show (tokens s) ≡ true → Inside s) → first_is_show (tokens (b ∷ s)) ≡ true → Inside (b ∷ s)
    by (opening p) more f = clash (rw (p, tokens_opening s) at f)
    by (closing p) more f = clash (rw (p, tokens_closing s) at f)
    by (space p) more f =
        let i = more (rw (p, tokens_space s) at f) in
        record { count = suc i.count; behind = i.behind; line = rw (p, ← i.line); ends = i.ends }
    by (of_run l) more f = word (b ∷ s) (in_run_lem l) f

pub begins : (s : List ℕ) → all allowed s ≡ true → is_show (tokens s) ≡ true → BeginsWithShow s
unfolding all
begins [] e f = unfold tokens in clash f
begins (b ∷ s) e f =
    let t = and_true (allowed b) (all allowed s) e in
    by (may_stand b t.0) t.1 (begins s t.1) f
  where
    by : Allowed b → all allowed s ≡ true → (is_show (tokens s) ≡ true → BeginsWithShow s) → is_show (tokens (b ∷ s)) ≡ true → BeginsWithShow (b ∷ s)
    by (opening p) a more f =
        let i = inside s a (rw (p, tokens_opening s) at f) in
        record { before = 0; inside = i.count; behind = i.behind; line = rw (p, ← i.line); ends = i.ends }
    by (closing p) a more f = clash (rw (p, tokens_closing s) at f)
    by (space p) a more f =
        let i = more (rw (p, tokens_space s) at f) in
        record { before = suc i.before; inside = i.inside; behind = i.behind; line = rw (p, ← i.line); ends = i.ends }
    by (of_run l) a more f = clash (rw (run_token (b ∷ s) (in_run_lem l)) at f)
