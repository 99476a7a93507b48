-- Laws of lines, as the loops over a block use them: where a line ends, and how an input is cut.
use mathlib.Core.Path.{◌≡◌, refl, sym, ◌∙◌, ap}
use mathlib.Core.Bool.{Bool, true, false, cond, not}
use mathlib.Core.List.{List, [], ◌∷◌, ◌++◌, append-nil}
use Prim.Native.Nat.{ℕ, zero, suc, ◌+◌, ◌-◌, ◌≤◌, ◌<◌, min}
use native.Mathlib.Decide.{dec_lt}
use native.Mathlib.Omega.{arith}
use lib.ListN.{length, get_or, take, drop, length-append, length-take, length-drop}
use lib.Seq.{take-append-add, take_all, take-add, drop-drop, get_or-take}
use borrow.Author.Tests.{eqb-true, eqb-false}
use lib.Dec.{eqb}
use Rattle.std.specs.List.{prefix_len}
use Rattle.input.specs.Lines.{Cut, cut, ended, longer, joined, NoNewline, CutLaw, line_length, between}

-- ---- none, or at least one
pub by_count : {P : Type 0} (n : ℕ) → (n ≡ 0 → P) → (0 < n → P) → P
by_count zero z p = z refl
by_count (suc n) z p = p (omega arith)

-- what the count of the bytes before the first byte 10 says
pub before_newline : (s : List ℕ) → prefix_len (λ b. not (eqb b 10)) s ≡ line_length s
unfolding line_length
before_newline [] = refl
before_newline (b ∷ s) = by (eqb b 10) (before_newline s)
  where
    by : (x : Bool) → prefix_len (λ c. not (eqb c 10)) s ≡ line_length s → cond (not x) (1 + prefix_len (λ c. not (eqb c 10)) s) 0 ≡ cond x 0 (suc (line_length s))
    by true e = refl
    by false e = omega arith

-- up to the first byte 10 there is none, and it stands behind that
upto_by : (b : ℕ) (s : List ℕ) (x : Bool) → eqb b 10 ≡ x → length (take (line_length s) s) ≤ line_length (take (line_length s) s) →
    length (take (cond x 0 (suc (line_length s))) (b ∷ s)) ≤ line_length (take (cond x 0 (suc (line_length s))) (b ∷ s))
unfolding line_length
upto_by b s true e ih = omega arith
upto_by b s false e ih = rw e (omega arith)

pub upto_line : (s : List ℕ) → length (take (line_length s) s) ≤ line_length (take (line_length s) s)
unfolding line_length
upto_line [] = omega arith
upto_line (b ∷ s) = upto_by b s (eqb b 10) refl (upto_line s)

with_by : (b : ℕ) (s : List ℕ) (x : Bool) → eqb b 10 ≡ x → cond x 0 (suc (line_length s)) < suc (length s) →
    (line_length s < length s → take (line_length s + 1) s ≡ take (line_length s) s ++ 10 ∷ []) →
    take (cond x 0 (suc (line_length s)) + 1) (b ∷ s) ≡ take (cond x 0 (suc (line_length s))) (b ∷ s) ++ 10 ∷ []
with_by b s true e h ih = ap (λ (n : ℕ). n ∷ []) (eqb-true b 10 e)
with_by b s false e h ih =
    let n : suc (line_length s) + 1 ≡ suc (line_length s + 1) = omega arith in
    rw n (ap (λ (l : List ℕ). b ∷ l) (ih (omega arith)))

pub with_line : (s : List ℕ) → line_length s < length s → take (line_length s + 1) s ≡ take (line_length s) s ++ 10 ∷ []
unfolding line_length
with_line [] h = absurd (omega arith)
with_line (b ∷ s) h = with_by b s (eqb b 10) refl h (with_line s)

-- no byte 10 at any place: all bytes stand before the first
uncut_by : (b : ℕ) (s : List ℕ) (x : Bool) → eqb b 10 ≡ x → NoNewline (b ∷ s) → (NoNewline s → length s ≤ line_length s) → suc (length s) ≤ cond x 0 (suc (line_length s))
uncut_by b s true e n ih = absurd (n 0 (omega arith) (eqb-true b 10 e))
uncut_by b s false e n ih = let h = ih (λ i h. n (suc i) (omega arith)) in omega arith

pub bytes_before : (l : List ℕ) → NoNewline l → length l ≤ line_length l
unfolding line_length
bytes_before [] n = omega arith
bytes_before (b ∷ s) n = uncut_by b s (eqb b 10) refl n (bytes_before s)

newlines_by : (b : ℕ) (s : List ℕ) (x : Bool) → eqb b 10 ≡ x → suc (length s) ≤ cond x 0 (suc (line_length s)) → (length s ≤ line_length s → NoNewline s) → NoNewline (b ∷ s)
newlines_by b s true e h ih i = absurd (omega arith)
newlines_by b s false e h ih zero = λ p. eqb-false b 10 e
newlines_by b s false e h ih (suc i) = λ p. ih (omega arith) i (omega arith)

pub no_newlines : (l : List ℕ) → length l ≤ line_length l → NoNewline l
unfolding line_length
no_newlines [] h = λ i p. absurd (omega arith)
no_newlines (b ∷ s) h = newlines_by b s (eqb b 10) refl h (no_newlines s)

pub front_newlines : (n : ℕ) (l : List ℕ) → NoNewline l → NoNewline (take n l)
front_newlines n l h i p e = h i (omega (arith, length-take n l)) (sym (get_or-take n l i 0 (omega (arith, length-take n l))) ∙ e)

-- ---- a piece that is kept behind what is kept already
kept_all : (k p : List ℕ) (n i : ℕ) → n ≡ length k + i → k ++ take i p ≡ take n (k ++ p)
kept_all k p n i e = rw (e, take-append-add k p i)

kept_rest : (k p : List ℕ) (n i : ℕ) → length p ≤ i → length k + length p ≤ n → k ++ take i p ≡ take n (k ++ p)
kept_rest k p n i h g = rw (take_all i p h) (sym (take_all n (k ++ p) (omega (arith, length-append k p))))

-- of a piece p behind the bytes k, as many as have room
pub kept_piece : (k p : List ℕ) (n i : ℕ) → length k ≤ n → i ≡ min (length p) (n - length k) → k ++ take i p ≡ take n (k ++ p)
kept_piece k p n i h e = by (dec_lt (n - length k) (length p))
  where
    by : Dec (n - length k < length p) → k ++ take i p ≡ take n (k ++ p)
    by (yes g) = kept_all k p n i (omega arith)
    by (no g) = kept_rest k p n i (omega arith) (omega arith)

-- ---- an input without byte 10
none_by : (b : ℕ) (s : List ℕ) (x : Bool) → eqb b 10 ≡ x → length (b ∷ s) ≤ cond x 0 (suc (line_length s)) → (length s ≤ line_length s → cut s ≡ record { lines = []; rest = s }) →
    cond x (ended (cut s)) (longer b (cut s).lines (cut s).rest) ≡ record { lines = []; rest = b ∷ s }
none_by b s true e h ih = absurd (omega arith)
none_by b s false e h ih = rw (ih (omega arith))

pub cut_none : (l : List ℕ) → length l ≤ line_length l → cut l ≡ record { lines = []; rest = l }
unfolding cut line_length
cut_none [] h = refl
cut_none (b ∷ s) h = none_by b s (eqb b 10) refl h (cut_none s)

-- ---- an input in two pieces: what stands behind the last line of the first goes in front of the second
abbrev front_by : List ℕ → List (List ℕ) → List ℕ → Cut
front_by a [] r = record { lines = []; rest = a ++ r }
front_by a (l ∷ ls) r = record { lines = (a ++ l) ∷ ls; rest = r }

abbrev pub front : List ℕ → Cut → Cut
front a k = front_by a k.lines k.rest

abbrev pub join : Cut → Cut → Cut
join k m = record { lines = k.lines ++ (front k.rest m).lines; rest = (front k.rest m).rest }

-- one byte more, which is 10 or not
abbrev added : Bool → ℕ → Cut → Cut
added x b k = cond x (ended k) (longer b k.lines k.rest)

pub front_none : (ls : List (List ℕ)) (r : List ℕ) → front_by [] ls r ≡ record { lines = ls; rest = r }
front_none [] r = refl
front_none (l ∷ ls) r = refl

join_by : (b : ℕ) (x : Bool) (ls : List (List ℕ)) (r : List ℕ) (ms : List (List ℕ)) (s : List ℕ) (k : Cut) →
    k ≡ join (record { lines = ls; rest = r }) (record { lines = ms; rest = s }) →
    added x b k ≡ join (added x b (record { lines = ls; rest = r })) (record { lines = ms; rest = s })
join_by b true ls r ms s k e = rw e
join_by b false (l ∷ ls) r ms s k e = rw e
join_by b false [] r [] s k e = rw e
join_by b false [] r (m ∷ ms) s k e = rw e

pub cut_join : (a b : List ℕ) → cut (a ++ b) ≡ join (cut a) (cut b)
unfolding cut
cut_join [] b = sym (front_none (cut b).lines (cut b).rest)
cut_join (x ∷ a) b = join_by x (eqb x 10) (cut a).lines (cut a).rest (cut b).lines (cut b).rest (cut (a ++ b)) (cut_join a b)

-- a line with its byte 10
pub cut_line : (l : List ℕ) → length l ≤ line_length l → cut (l ++ 10 ∷ []) ≡ record { lines = l ∷ []; rest = [] }
unfolding cut
cut_line l u = rw (cut_join l (10 ∷ []), cut_none l u, append-nil l)

-- a line behind whole lines
pub cut_more : (p l : List ℕ) → (cut p).rest ≡ [] → length l ≤ line_length l → cut (p ++ (l ++ 10 ∷ [])) ≡ record { lines = (cut p).lines ++ l ∷ []; rest = [] }
cut_more p l z u = rw (cut_join p (l ++ 10 ∷ []), cut_line l u, z)

-- ---- the law of `cut`
law_by : (b : ℕ) (s : List ℕ) (x : Bool) → eqb b 10 ≡ x → (ls : List (List ℕ)) (r : List ℕ) → joined ls ++ r ≡ s → ((k : ℕ) → k < length ls → NoNewline (get_or ls k [])) → NoNewline r →
    (joined (added x b (record { lines = ls; rest = r })).lines ++ (added x b (record { lines = ls; rest = r })).rest ≡ b ∷ s) ×
    ((k : ℕ) → k < length (added x b (record { lines = ls; rest = r })).lines → NoNewline (get_or (added x b (record { lines = ls; rest = r })).lines k [])) ×
    NoNewline (added x b (record { lines = ls; rest = r })).rest
unfolding joined
law_by b s true t ls r e n m = (rw (eqb-true b 10 t) (ap (λ (l : List ℕ). 10 ∷ l) e), none, m)
  where
    none : (k : ℕ) → k < suc (length ls) → NoNewline (get_or ([] ∷ ls) k [])
    none zero h = λ i g. absurd (omega arith)
    none (suc k) h = n k (omega arith)
law_by b s false t [] r e n m = (ap (λ (l : List ℕ). b ∷ l) e, λ k h. absurd (omega arith), more)
  where
    more : NoNewline (b ∷ r)
    more zero h g = eqb-false b 10 t g
    more (suc i) h g = m i (omega arith) g
law_by b s false t (l ∷ ls) r e n m = (ap (λ (l : List ℕ). b ∷ l) e, longest, m)
  where
    more : NoNewline (b ∷ l)
    more zero h g = eqb-false b 10 t g
    more (suc i) h g = n 0 (omega arith) i (omega arith) g

    longest : (k : ℕ) → k < suc (length ls) → NoNewline (get_or ((b ∷ l) ∷ ls) k [])
    longest zero h = more
    longest (suc k) h = n (suc k) (omega arith)

pub cut_law : (input : List ℕ) → CutLaw input
unfolding cut joined
cut_law [] = record { same = refl; lines = λ k h. absurd (omega arith); rest = λ i h. absurd (omega arith) }
cut_law (b ∷ s) =
    let l = cut_law s in
    let m = law_by b s (eqb b 10) refl (cut s).lines (cut s).rest l.same l.lines l.rest in
    record { same = m.0; lines = m.1; rest = m.2 }

-- what is kept of a line that has begun has no byte 10
pub begun_newlines : (input piece : List ℕ) → length piece ≤ line_length piece → NoNewline (take 2001 ((cut input).rest ++ piece))
begun_newlines input piece u =
    front_newlines 2001 ((cut input).rest ++ piece) (rw (cut_join input piece, cut_none piece u) at (cut_law (input ++ piece)).rest)

-- ---- the bytes between places of a block
pub between_on : (b : List ℕ) (i j k : ℕ) → i ≤ j → j ≤ k → between b i j ++ between b j k ≡ between b i k
between_on b i j k p q =
    let n : i + (j - i) ≡ j = omega arith in
    let m : k - i ≡ (j - i) + (k - j) = omega arith in
    rw (m, take-add (j - i) (k - j) (drop i b), drop-drop (j - i) i b, n)

pub between_none : (b : List ℕ) (i : ℕ) → between b i i ≡ []
between_none b i = let z : i - i ≡ 0 = omega arith in rw z

-- the line from i up to the next byte 10, at e
module _ (block : List ℕ) (i e : ℕ) (there : e ≡ i + line_length (drop i block)) where
  pub line_uncut : length (between block i e) ≤ line_length (between block i e)
  line_uncut = let q : e - i ≡ line_length (drop i block) = omega arith in rw q (upto_line (drop i block))

  pub line_with : e < length block → between block i (e + 1) ≡ between block i e ++ 10 ∷ []
  line_with h =
      let q : e - i ≡ line_length (drop i block) = omega arith in
      let o : (e + 1) - i ≡ line_length (drop i block) + 1 = omega arith in
      rw (o, q) (with_line (drop i block) (omega (arith, length-drop i block)))

  pub no_line : length block ≤ e → NoNewline (drop i block)
  no_line h = no_newlines (drop i block) (omega (arith, length-drop i block))
