-- What is spelled is so spelled.
use mathlib.Core.Path.{◌≡◌, refl, sym, ◌∙◌, ap}
use mathlib.Core.Bool.{true, false, ◌&&◌}
use mathlib.Core.List.{List, [], ◌∷◌, ◌++◌}
use Prim.Native.Nat.{ℕ, zero, suc, ◌+◌, ◌-◌}
use native.Mathlib.Omega.{arith}
use lib.ListN.{length}
use Rattle.whole.specs.Lists.{all, within}
use Rattle.whole.proofs.Lists.{clash, and_true}
use Rattle.text.specs.Token.{space, opening, closing, in_run, allowed, Token, opened, closed, run}
use Rattle.spelling.specs.Spelling.{between, spell, proper}
use Rattle.spelling.specs.SoSpelled.{byte_at, Spaced, SoSpelled}
use Rattle.text.proofs.Sorts.{not_in_run}

-- two bytes that may stand side by side
record Touch (b c : ℕ) : Type 0 where
  first : allowed b ≡ true
  behind_opening : b ≡ opening → c ≡ space → ⊥
  before_closing : b ≡ space → c ≡ closing → ⊥
  two_together : b ≡ space → c ≡ space → ⊥
  run_form : in_run b ≡ true → c ≡ opening → ⊥
  two_forms : b ≡ closing → c ≡ opening → ⊥
  form_run : b ≡ closing → in_run c ≡ true → ⊥

next : (b : ℕ) (s : List ℕ) (i : ℕ) → byte_at s (i + 1) ≡ byte_at (b ∷ s) (suc i + 1)
next b s i =
    let e : suc (i + 1) ≡ suc i + 1 = omega arith in
    ap (byte_at (b ∷ s)) e

-- at every place of the longer line: at the front, or further on
at_each : (P : ℕ → ℕ → Type 0) (b c : ℕ) (s : List ℕ) → P b c → ((i : ℕ) → P (byte_at (c ∷ s) i) (byte_at (c ∷ s) (i + 1))) → (i : ℕ) → P (byte_at (b ∷ c ∷ s) i) (byte_at (b ∷ c ∷ s) (i + 1))
at_each P b c s p q zero = p
at_each P b c s p q (suc i) = rw (next b (c ∷ s) i) at (q i)

one_more : (b c : ℕ) (s : List ℕ) → Touch b c → Spaced (c ∷ s) → Spaced (b ∷ c ∷ s)
unfolding all
one_more b c s t w =
    record {
      bytes = rw t.first w.bytes;
      end = λ e. w.end (let g : suc (length (c ∷ s) - 1) ≡ length (b ∷ c ∷ s) - 1 = omega arith in ap (byte_at (b ∷ c ∷ s)) g ∙ e);
      behind_opening = at_each (λ x y. x ≡ opening → y ≡ space → ⊥) b c s t.behind_opening w.behind_opening;
      before_closing = at_each (λ x y. x ≡ space → y ≡ closing → ⊥) b c s t.before_closing w.before_closing;
      two_together = at_each (λ x y. x ≡ space → y ≡ space → ⊥) b c s t.two_together w.two_together;
      run_form = at_each (λ x y. in_run x ≡ true → y ≡ opening → ⊥) b c s t.run_form w.run_form;
      two_forms = at_each (λ x y. x ≡ closing → y ≡ opening → ⊥) b c s t.two_forms w.two_forms;
      form_run = at_each (λ x y. x ≡ closing → in_run y ≡ true → ⊥) b c s t.form_run w.form_run;
    }

-- ---- each pair that a spelling has
no_run : (k : ℕ) → in_run k ≡ false → in_run k ≡ true → ⊥
no_run k e f = clash (sym e ∙ f)

behind_opening_lem : (c : ℕ) → (c ≡ space → ⊥) → Touch opening c
unfolding within
behind_opening_lem c n =
    record {
      first = refl;
      behind_opening = λ e. n;
      before_closing = λ e. absurd (omega arith);
      two_together = λ e. absurd (omega arith);
      run_form = λ e. absurd (no_run opening refl e);
      two_forms = λ e. absurd (omega arith);
      form_run = λ e. absurd (omega arith);
    }

behind_closing : (c : ℕ) → (c ≡ opening → ⊥) → in_run c ≡ false → Touch closing c
unfolding within
behind_closing c n m =
    record {
      first = refl;
      behind_opening = λ e. absurd (omega arith);
      before_closing = λ e. absurd (omega arith);
      two_together = λ e. absurd (omega arith);
      run_form = λ e. absurd (no_run closing refl e);
      two_forms = λ e. n;
      form_run = λ e. no_run c m;
    }

behind_space : (c : ℕ) → (c ≡ closing → ⊥) → (c ≡ space → ⊥) → Touch space c
unfolding within
behind_space c n m =
    record {
      first = refl;
      behind_opening = λ e. absurd (omega arith);
      before_closing = λ e. n;
      two_together = λ e. m;
      run_form = λ e. absurd (no_run space refl e);
      two_forms = λ e. absurd (omega arith);
      form_run = λ e. absurd (omega arith);
    }

behind_run : (b c : ℕ) → in_run b ≡ true → (c ≡ opening → ⊥) → Touch b c
unfolding within
behind_run b c r n =
    record {
      first = rw r;
      behind_opening = λ e. absurd (not_in_run b opening r refl e);
      before_closing = λ e. absurd (not_in_run b space r refl e);
      two_together = λ e. absurd (not_in_run b space r refl e);
      run_form = λ e. n;
      two_forms = λ e. absurd (not_in_run b closing r refl e);
      form_run = λ e. absurd (not_in_run b closing r refl e);
    }

-- ---- one byte by itself
past : (b i : ℕ) → byte_at (b ∷ []) (i + 1) ≡ 0
past b i =
    let e : i + 1 ≡ suc i = omega arith in
    ap (byte_at (b ∷ [])) e

alone : (b : ℕ) → allowed b ≡ true → (b ≡ space → ⊥) → Spaced (b ∷ [])
unfolding all within
alone b a n =
    record {
      bytes = rw a;
      end = n;
      behind_opening = λ i e f. omega (arith, past b i);
      before_closing = λ i e f. omega (arith, past b i);
      two_together = λ i e f. omega (arith, past b i);
      run_form = λ i e f. omega (arith, past b i);
      two_forms = λ i e f. omega (arith, past b i);
      form_run = λ i e f. no_run 0 refl (ap in_run (sym (past b i)) ∙ f);
    }

-- ---- a run, at the end and in front of a space or a closing bracket
run_alone : (b : ℕ) (r : List ℕ) → in_run b ≡ true → all in_run r ≡ true → Spaced (b ∷ r ++ [])
unfolding all within
run_alone b [] e f = alone b (rw e) (not_in_run b space e refl)
run_alone b (c ∷ r) e f =
    let t = and_true (in_run c) (all in_run r) f in
    one_more b c (r ++ []) (behind_run b c e (not_in_run c opening t.0 refl)) (run_alone c r t.0 t.1)

run_before : (b : ℕ) (r : List ℕ) (d : ℕ) (s : List ℕ) → in_run b ≡ true → all in_run r ≡ true → (d ≡ opening → ⊥) → Spaced (d ∷ s) → Spaced (b ∷ r ++ d ∷ s)
unfolding all within
run_before b [] d s e f n w = one_more b d s (behind_run b d e n) w
run_before b (c ∷ r) d s e f n w =
    let t = and_true (in_run c) (all in_run r) f in
    one_more b c (r ++ d ∷ s) (behind_run b c e (not_in_run c opening t.0 refl)) (run_before c r d s t.0 t.1 n w)

-- a space in front of an item; a token in front of that space
space_before : (c : ℕ) (s : List ℕ) → (c ≡ closing → ⊥) → (c ≡ space → ⊥) → Spaced (c ∷ s) → Spaced (space ∷ c ∷ s)
space_before c s n m w = one_more space c s (behind_space c n m) w

closing_before : (s : List ℕ) → Spaced (space ∷ s) → Spaced (closing ∷ space ∷ s)
unfolding within
closing_before s w = one_more closing space s (behind_closing space (λ e. omega arith) refl) w

-- ---- a token in front of what is spelled
on_alone : (t : Token) → proper t ≡ true → Spaced (spell (t ∷ []))
unfolding spell within all
on_alone opened e = alone opening refl (λ f. omega arith)
on_alone closed e = alone closing refl (λ f. omega arith)
on_alone (run []) e = clash e
on_alone (run (b ∷ r)) e =
    let t = and_true (in_run b) (all in_run r) e in
    run_alone b r t.0 t.1

module _ (ts : List Token) where
  on_opened : (t : Token) → proper t ≡ true → Spaced (spell (opened ∷ ts)) → Spaced (spell (t ∷ opened ∷ ts))
  unfolding spell within all
  on_opened opened e w = one_more opening opening (between opened ts ++ spell ts) (behind_opening_lem opening (λ f. omega arith)) w
  on_opened closed e w = closing_before _ (space_before opening (between opened ts ++ spell ts) (λ f. omega arith) (λ f. omega arith) w)
  on_opened (run []) e w = clash e
  on_opened (run (b ∷ r)) e w =
      let t = and_true (in_run b) (all in_run r) e in
      run_before b r space _ t.0 t.1 (λ f. omega arith) (space_before opening (between opened ts ++ spell ts) (λ f. omega arith) (λ f. omega arith) w)

  on_closed : (t : Token) → proper t ≡ true → Spaced (spell (closed ∷ ts)) → Spaced (spell (t ∷ closed ∷ ts))
  unfolding spell within all
  on_closed opened e w = one_more opening closing (between closed ts ++ spell ts) (behind_opening_lem closing (λ f. omega arith)) w
  on_closed closed e w = one_more closing closing (between closed ts ++ spell ts) (behind_closing closing (λ f. omega arith) refl) w
  on_closed (run []) e w = clash e
  on_closed (run (b ∷ r)) e w =
      let t = and_true (in_run b) (all in_run r) e in
      run_before b r closing (between closed ts ++ spell ts) t.0 t.1 (λ f. omega arith) w

  on_run : (t : Token) (c : ℕ) (q : List ℕ) → proper t ≡ true → in_run c ≡ true → Spaced (spell (run (c ∷ q) ∷ ts)) → Spaced (spell (t ∷ run (c ∷ q) ∷ ts))
  unfolding spell within all
  on_run opened c q e f w = one_more opening c (q ++ (between (run (c ∷ q)) ts ++ spell ts)) (behind_opening_lem c (not_in_run c space f refl)) w
  on_run closed c q e f w =
      closing_before _ (space_before c (q ++ (between (run (c ∷ q)) ts ++ spell ts)) (not_in_run c closing f refl) (not_in_run c space f refl) w)
  on_run (run []) c q e f w = clash e
  on_run (run (b ∷ r)) c q e f w =
      let t = and_true (in_run b) (all in_run r) e in
      run_before b r space _ t.0 t.1 (λ g. omega arith)
      (space_before c (q ++ (between (run (c ∷ q)) ts ++ spell ts)) (not_in_run c closing f refl) (not_in_run c space f refl) w)

empty : Spaced []
unfolding all within
empty =
    record {
      bytes = refl;
      end = λ e. omega arith;
      behind_opening = λ i e f. omega arith;
      before_closing = λ i e f. omega arith;
      two_together = λ i e f. omega arith;
      run_form = λ i e f. omega arith;
      two_forms = λ i e f. omega arith;
      form_run = λ i e f. omega arith;
    }

spaced_spell : (ts : List Token) → all proper ts ≡ true → Spaced (spell ts)
unfolding all
spaced_spell [] e = unfold spell in empty
spaced_spell (t ∷ []) e = on_alone t (and_true (proper t) true e).0
spaced_spell (t ∷ opened ∷ ts) e =
    let p = and_true (proper t) (all proper (opened ∷ ts)) e in
    on_opened ts t p.0 (spaced_spell (opened ∷ ts) p.1)
spaced_spell (t ∷ closed ∷ ts) e =
    let p = and_true (proper t) (all proper (closed ∷ ts)) e in
    on_closed ts t p.0 (spaced_spell (closed ∷ ts) p.1)
spaced_spell (t ∷ run [] ∷ ts) e =
    clash (and_true (proper t) (all proper (run [] ∷ ts)) e).1
spaced_spell (t ∷ run (c ∷ q) ∷ ts) e =
    let p = and_true (proper t) (all proper (run (c ∷ q) ∷ ts)) e in
    let f = (and_true (in_run c && all in_run q) (all proper ts) p.1).0 in
    on_run ts t c q p.0 (and_true (in_run c) (all in_run q) f).0 (spaced_spell (run (c ∷ q) ∷ ts) p.1)

no_front : (ts : List Token) → all proper ts ≡ true → byte_at (spell ts) 0 ≡ space → ⊥
unfolding spell all within
no_front [] e f = omega arith
no_front (opened ∷ ts) e f = omega arith
no_front (closed ∷ ts) e f = omega arith
no_front (run [] ∷ ts) e f = clash e
no_front (run (b ∷ r) ∷ ts) e f =
    let t = (and_true (in_run b && all in_run r) (all proper ts) e).0 in
    not_in_run b space (and_true (in_run b) (all in_run r) t).0 refl f

pub spelled_so : (ts : List Token) → all proper ts ≡ true → SoSpelled (spell ts)
spelled_so ts e = record { front = no_front ts e; spaced = spaced_spell ts e }

-- so it has allowed bytes only
pub spell_allowed : (ts : List Token) → all proper ts ≡ true → all allowed (spell ts) ≡ true
spell_allowed ts e = (spaced_spell ts e).bytes
