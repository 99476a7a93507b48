-- Code 13: a token that is no number and begins with a digit stands in a line exactly where such a run does.
use mathlib.Core.Path.{◌≡◌, refl, sym, ◌∙◌, ap}
use mathlib.Core.Bool.{Bool, true, false, cond, not, ◌&&◌, ◌||◌}
use mathlib.Core.List.{List, [], ◌∷◌, ◌++◌, append_assoc, append-nil}
use Prim.Native.Nat.{ℕ, zero, suc, ◌+◌, ◌-◌, ◌≤◌, ◌<◌}
use native.Mathlib.Decide.{dec_lt}
use native.Mathlib.Omega.{arith}
use lib.ListN.{length, get_or, take, drop, length-append, length-drop, take-append-drop, get_or-append}
use lib.Seq.{get_or-append-add, length-take-le, take-length, drop-length}
use Rattle.whole.specs.Lists.{all}
use Rattle.whole.proofs.Lists.{and_false, within_true, within_by, all_append, all_at}
use Rattle.text.specs.Token.{run, is_digit, in_run, starts_run, tokens, is_number}
use Rattle.line_codes.specs.Line.{number_if_digit, sound_token}
use Rattle.text.specs.Token.{run_length}
use Rattle.line_codes.specs.Codes.{LetterOrDigit, NumberIs, Run, NoNumber}
use Rattle.text.proofs.Runs.{run_token}
use Rattle.text.proofs.Parts.{ends, tokens_append}
use Rattle.line_codes.proofs.Bytes.{in_run_lem, of_run_lem, no_run}
use Rattle.line_codes.proofs.Sounds.{sound, one_other, sound_front}
use Rattle.std.proofs.lemmas.List.Sums.{prefix_len-le-length}
use Rattle.text.proofs.Fronts.{prefix_all}
use Rattle.line_codes.proofs.Decimals.{decimal_number, number_decimal}

-- ---- the run in front of a list
pub run_stop : (l : List ℕ) → starts_run (drop (run_length l) l) ≡ false
run_stop [] = refl
run_stop (b ∷ s) = by (in_run b) refl (run_stop s)
  where
    by : (x : Bool) → in_run b ≡ x → starts_run (drop (run_length s) s) ≡ false → starts_run (drop (cond x (1 + run_length s) 0) (b ∷ s)) ≡ false
    by true e f = let k : 1 + run_length s ≡ suc (run_length s) = omega arith in rw k f
    by false e f = e

run_whole : (l : List ℕ) → ((i : ℕ) → i < length l → LetterOrDigit (get_or l i 0)) → run_length l ≡ length l
run_whole [] f = refl
run_whole (b ∷ s) f =
    let n = run_whole s (λ i h. f (suc i) (omega arith)) in
    rw (in_run_lem (f 0 (omega arith))) (omega arith)

pub stops : (l : List ℕ) → starts_run l ≡ false → 0 < length l → LetterOrDigit (get_or l 0 0) → ⊥
stops [] e h w = omega arith
stops (b ∷ s) e h w = no_run b e w

run_some : (b : ℕ) (s : List ℕ) → in_run b ≡ true → run_length (b ∷ s) ≡ suc (run_length s)
run_some b s e = rw e (omega arith)

-- ---- a run further on in the line
record Bad (s : List ℕ) : Type 0 where
  word : List ℕ
  run : Run s word
  bad : number_if_digit word ≡ false

further : (p t : List ℕ) (b : Bad t) → (length b.run.before ≡ 0 → 0 < length p → LetterOrDigit (get_or p (length p - 1) 0) → ⊥) → Bad (p ++ t)
further p t b f =
    let r = b.run in
    let n = length-append p r.before in
    record {
      word = b.word;
      bad = b.bad;
      run = record {
        before = p ++ r.before;
        behind = r.behind;
        line = ap (λ (l : List ℕ). p ++ l) r.line ∙ sym (append_assoc p r.before (b.word ++ r.behind));
        some = r.some;
        every = r.every;
        none_before = λ h w. by (dec_lt 0 (length r.before)) h w;
        none_behind = r.none_behind;
      };
    }
  where
    by : Dec (0 < length b.run.before) → 0 < length (p ++ b.run.before) → LetterOrDigit (get_or (p ++ b.run.before) (length (p ++ b.run.before) - 1) 0) → ⊥
    by (yes h) g w =
        let i : length (p ++ b.run.before) - 1 ≡ length p + (length b.run.before - 1) = omega (arith, length-append p b.run.before) in
        b.run.none_before h (rw (i, get_or-append-add p b.run.before (length b.run.before - 1) 0) at w)
    by (no h) g w =
        let i : length (p ++ b.run.before) - 1 ≡ length p - 1 = omega (arith, length-append p b.run.before) in
        let m : 0 < length p = omega (arith, length-append p b.run.before) in
        f (omega arith) m (rw (i, get_or-append p b.run.before 0 (length p - 1) (omega arith)) at w)

-- the run in front is bad; or one behind it
here : (l : List ℕ) → 0 < run_length l → number_if_digit (take (run_length l) l) ≡ false → Bad l
here l p e =
    record {
      word = take (run_length l) l;
      bad = e;
      run = record {
        before = [];
        behind = drop (run_length l) l;
        line = sym (take-append-drop (run_length l) l);
        some = omega (arith, length-take-le (run_length l) l (prefix_len-le-length in_run l));
        every = λ i h. of_run_lem (get_or (take (run_length l) l) i 0) (all_at in_run (take (run_length l) l) i 0 (prefix_all in_run l) h);
        none_before = λ h w. omega arith;
        none_behind = stops (drop (run_length l) l) (run_stop l);
      };
    }

starts_with : (w t : List ℕ) → 0 < length w → LetterOrDigit (get_or w 0 0) → starts_run (w ++ t) ≡ true
starts_with [] t h l = absurd (omega arith)
starts_with (x ∷ w) t h l = in_run_lem l

not_at_once : (t : List ℕ) (b : Bad t) → starts_run t ≡ false → length b.run.before ≡ 0 → ⊥
not_at_once t b e z =
    let w = starts_with b.word b.run.behind b.run.some (b.run.every 0 b.run.some) in
    let n : b.run.before ≡ [] = none b.run.before z in
    let s : starts_run t ≡ true = ap starts_run b.run.line ∙ rw n w in
    let y : ◌≡◌ {A = ℕ} 0 1 = cc in
    omega arith
  where
    none : (l : List ℕ) → length l ≡ 0 → l ≡ []
    none [] e = refl
    none (x ∷ l) e = absurd (omega arith)

behind_run : (l : List ℕ) → Bad (drop (run_length l) l) → Bad l
behind_run l b =
    rw (take-append-drop (run_length l) l) at
    (further (take (run_length l) l) (drop (run_length l) l) b (λ z h w. not_at_once (drop (run_length l) l) b (run_stop l) z))

no_tokens : sound [] ≡ false → ⊥
unfolding all tokens
no_tokens e = let z : ◌≡◌ {A = ℕ} 0 1 = cc in omega arith

module _ (k : ℕ) (more : (s : List ℕ) → length s ≤ k → sound s ≡ false → Bad s) where
  behind_first : (b : ℕ) (s : List ℕ) → length s ≤ k → in_run b ≡ true → (y : Bool) → number_if_digit (take (run_length (b ∷ s)) (b ∷ s)) ≡ y → (y && sound (drop (run_length (b ∷ s)) (b ∷ s))) ≡ false → Bad (b ∷ s)
  behind_first b s h p false g q = here (b ∷ s) (omega (arith, run_some b s p)) g
  behind_first b s h p true g q =
      behind_run (b ∷ s) (more (drop (run_length (b ∷ s)) (b ∷ s)) (omega (arith, run_some b s p, length-drop (run_length (b ∷ s)) (b ∷ s))) q)

  found_next : (s : List ℕ) → length s ≤ suc k → sound s ≡ false → Bad s
  found_next [] h e = absurd (no_tokens e)
  found_next (b ∷ s) h e = by (in_run b) refl
    where
      by : (x : Bool) → in_run b ≡ x → Bad (b ∷ s)
      by false p = further (b ∷ []) s (more s (omega arith) (sym (one_other b s p) ∙ e)) (λ z h w. no_run b p w)
      by true p = behind_first b s (omega arith) p (number_if_digit (take (run_length (b ∷ s)) (b ∷ s))) refl (sym (sound_front (b ∷ s)) ∙ e)

found : (k : ℕ) (s : List ℕ) → length s ≤ k → sound s ≡ false → Bad s
found zero [] h e = absurd (no_tokens e)
found zero (b ∷ s) h e = absurd (omega arith)
found (suc k) s h e = found_next k (λ t g f. found k t g f) s h e

-- ---- a run that begins with a digit and is no number
no_number_lem : (w : List ℕ) → number_if_digit w ≡ false → (is_digit (get_or w 0 0) ≡ true) × (is_number w ≡ false)
no_number_lem [] e = let z : ◌≡◌ {A = ℕ} 0 1 = cc in absurd (omega arith)
no_number_lem (b ∷ w) e = by (is_digit b) (is_number (b ∷ w)) e
  where
    by : (x y : Bool) → (not x || y) ≡ false → (x ≡ true) × (y ≡ false)
    by true y e = (refl, e)
    by false y e = let z : ◌≡◌ {A = ℕ} 0 1 = cc in absurd (omega arith)

pub bad_found : (s : List ℕ) → sound s ≡ false → NoNumber s
bad_found s e =
    let b = found (length s) s (omega arith) e in
    let n = no_number_lem b.word b.bad in
    let d = within_true 48 57 (get_or b.word 0 0) n.0 in
    record {
      word = b.word;
      run = b.run;
      low = d.low;
      high = d.high;
      no_number = λ m (h, t). let y = decimal_number m b.word h t in let z : ◌≡◌ {A = ℕ} 0 1 = cc in omega arith;
    }

ends_none : (a : List ℕ) → (0 < length a → LetterOrDigit (get_or a (length a - 1) 0) → ⊥) → ends a ≡ false
unfolding ends
ends_none [] f = refl
ends_none (x ∷ []) f = by (in_run x) refl
  where
    by : (y : Bool) → in_run x ≡ y → y ≡ false
    by true e = absurd (f (omega arith) (of_run_lem x e))
    by false e = refl
ends_none (x ∷ y ∷ s) f =
    let i : length (x ∷ y ∷ s) - 1 ≡ suc (length (y ∷ s) - 1) = omega arith in
    ends_none (y ∷ s) (λ h w. f (omega arith) (rw i w))

pub starts_none : (a : List ℕ) → (0 < length a → LetterOrDigit (get_or a 0 0) → ⊥) → starts_run a ≡ false
starts_none [] f = refl
starts_none (x ∷ s) f = by (in_run x) refl
  where
    by : (y : Bool) → in_run x ≡ y → y ≡ false
    by true e = absurd (f (omega arith) (of_run_lem x e))
    by false e = refl

one_token : (w : List ℕ) → 0 < length w → ((i : ℕ) → i < length w → LetterOrDigit (get_or w i 0)) → tokens w ≡ run w ∷ []
unfolding tokens
one_token w h f =
    run_token w (rw (append-nil w) at (starts_with w [] h (f 0 h)))
    ∙ rw (run_whole w f, take-length w, drop-length w)

word_bad : (w : List ℕ) → 0 < length w → 48 ≤ get_or w 0 0 → get_or w 0 0 ≤ 57 → ((n : ℕ) → NumberIs n w → ⊥) → number_if_digit w ≡ false
word_bad [] h p q f = absurd (omega arith)
word_bad (b ∷ w) h p q f = rw (within_by 48 57 b p q) (by (is_number (b ∷ w)) refl)
  where
    by : (y : Bool) → is_number (b ∷ w) ≡ y → y ≡ false
    by true e = let d = number_decimal (b ∷ w) e in absurd (f _ (d.0, d.1))
    by false e = refl

pub no_number_fails : (s : List ℕ) → NoNumber s → sound s ≡ false
unfolding all
no_number_fails s n =
    let r = n.run in
    let w = n.word in
    let x = tokens_append r.before (w ++ r.behind) (rw (ends_none r.before r.none_before)) in
    let y = tokens_append w r.behind (rw (starts_none r.behind r.none_behind) (and_false (ends w))) in
    let z = one_token w r.some r.every in
    rw (r.line, x, y, z, all_append sound_token (tokens r.before) (run w ∷ tokens r.behind), word_bad w r.some n.low n.high n.no_number) (and_false (all sound_token (tokens r.before)))
