-- How long a spelled line is.
use mathlib.Core.Path.{◌≡◌, refl}
use mathlib.Core.Bool.{Bool, true, false, cond, not, ◌&&◌}
use mathlib.Core.List.{List, [], ◌∷◌, ◌++◌}
use Prim.Native.Nat.{ℕ, suc, ◌+◌, ◌≤◌}
use native.Mathlib.Omega.{arith}
use lib.Dec.{eqb}
use lib.ListN.{length, take, drop, length-append}
use Rattle.whole.specs.Lists.{sum_of}
use Rattle.text.specs.Token.{opening, closing, in_run, Token, opened, closed, run, starts_run, glue, tokens, run_length}
use Rattle.text.proofs.Runs.{run_token}
use Rattle.spelling.specs.Spelling.{one, parted, written, space_if, between, spell, places, two_runs, gaps, bracket_gaps, own_bytes}

-- a gap is one byte
gap_by : (x : Bool) → length (space_if x) ≡ one x
gap_by true = refl
gap_by false = refl

pub spell_length : (ts : List Token) → length (spell ts) ≡ own_bytes ts + gaps ts
unfolding spell sum_of places
spell_length [] = refl
spell_length (t ∷ ts) =
    let a = length-append (written t) (between t ts ++ spell ts) in
    let b = length-append (between t ts) (spell ts) in
    let g = gap_by (parted t ts) in
    let ih = spell_length ts in
    omega arith

-- a gap stands between two runs, or beside a bracket
split_by : (t : Token) (ts : List Token) → one (parted t ts) ≡ one (two_runs t ts) + one (parted t ts && not (two_runs t ts))
split_by opened [] = refl
split_by opened (u ∷ ts) = refl
split_by closed [] = refl
split_by closed (opened ∷ ts) = refl
split_by closed (closed ∷ ts) = refl
split_by closed (run q ∷ ts) = refl
split_by (run r) [] = refl
split_by (run r) (opened ∷ ts) = refl
split_by (run r) (closed ∷ ts) = refl
split_by (run r) (run q ∷ ts) = refl

pub gaps_split : (ts : List Token) → gaps ts ≡ places two_runs ts + bracket_gaps ts
unfolding places
gaps_split [] = refl
gaps_split (t ∷ ts) =
    let a = split_by t ts in
    let ih = gaps_split ts in
    omega arith

-- ---- a line has the bytes of its tokens, and one more wherever two runs follow one another
abbrev pub first_run : List Token → Bool
first_run [] = false
first_run (opened ∷ ts) = false
first_run (closed ∷ ts) = false
first_run (run r ∷ ts) = true

abbrev pub least : List Token → ℕ
least ts = own_bytes ts + places two_runs ts

-- and one more where the first token is a run that stands behind a space
abbrev Fits : List ℕ → Type 0
Fits s = least (tokens s) + one (not (starts_run s) && first_run (tokens s)) ≤ length s

fits_least : (s : List ℕ) → Fits s → least (tokens s) ≤ length s
fits_least s f = omega arith

-- a byte of a run by itself, with a run behind it or not
two_by : (r : List ℕ) (ts : List Token) → one (two_runs (run r) ts) ≡ one (first_run ts)
two_by r [] = refl
two_by r (opened ∷ ts) = refl
two_by r (closed ∷ ts) = refl
two_by r (run q ∷ ts) = refl

more : (b : ℕ) (r : List ℕ) (ts : List Token) (n : ℕ) → least (run r ∷ ts) + 0 ≤ n → least (run (b ∷ r) ∷ ts) ≤ suc n
unfolding sum_of places
more b r ts n h =
    let a = two_by (b ∷ r) ts in
    let c = two_by r ts in
    omega arith

fits_run : (b : ℕ) (s : List ℕ) (x : Bool) → starts_run s ≡ x → least (tokens s) + one (not x && first_run (tokens s)) ≤ length s →
    least (glue x b (tokens s)) ≤ suc (length s)
unfolding sum_of places
fits_run b s false e f =
    let a = two_by (b ∷ []) (tokens s) in
    omega arith
fits_run b s true e f =
    let t = run_token s e in
    let g = rw t at f in
    rw t (more b (take (run_length s) s) (tokens (drop (run_length s) s)) (length s) g)

-- whatever the byte in front is
fits_by : (b : ℕ) (s : List ℕ) (x y z : Bool) → Fits s →
    least (cond x (glue (starts_run s) b (tokens s)) (cond y (opened ∷ tokens s) (cond z (closed ∷ tokens s) (tokens s))))
    + one (not x && first_run (cond x (glue (starts_run s) b (tokens s)) (cond y (opened ∷ tokens s) (cond z (closed ∷ tokens s) (tokens s)))))
    ≤ suc (length s)
unfolding sum_of places
fits_by b s true y z f = let g = fits_run b s (starts_run s) refl f in omega arith
fits_by b s false true z f = omega (arith, fits_least s f)
fits_by b s false false true f = omega (arith, fits_least s f)
fits_by b s false false false f = first_by (first_run (tokens s)) (fits_least s f)
  where
    first_by : (w : Bool) → least (tokens s) ≤ length s → least (tokens s) + one w ≤ suc (length s)
    first_by true g = omega arith
    first_by false g = omega arith

fits : (s : List ℕ) → Fits s
unfolding tokens
fits [] = unfold sum_of places in omega arith
fits (b ∷ s) = fits_by b s (in_run b) (eqb b opening) (eqb b closing) (fits s)

pub line_least : (line : List ℕ) → least (tokens line) ≤ length line
line_least line = fits_least line (fits line)

-- so a spelling is longer than its line by the gaps beside brackets at most
pub longer_by : (line : List ℕ) → length (spell (tokens line)) ≤ length line + bracket_gaps (tokens line)
longer_by line =
    let a = spell_length (tokens line) in
    let b = gaps_split (tokens line) in
    let c = line_least line in
    omega arith

-- ---- a form that stands inside another form's brackets, behind that form's first run
own_append : (ts us : List Token) → own_bytes (ts ++ us) ≡ own_bytes ts + own_bytes us
unfolding sum_of
own_append [] us = omega arith
own_append (t ∷ ts) us = omega (arith, own_append ts us)

two_last : (t : Token) (ts : List Token) → two_runs t (ts ++ closed ∷ []) ≡ two_runs t ts
two_last opened ts = refl
two_last closed ts = refl
two_last (run r) [] = refl
two_last (run r) (opened ∷ ts) = refl
two_last (run r) (closed ∷ ts) = refl
two_last (run r) (run q ∷ ts) = refl

two_closed : (ts : List Token) → places two_runs (ts ++ closed ∷ []) ≡ places two_runs ts
unfolding places
two_closed [] = refl
two_closed (t ∷ ts) = rw (two_last t ts, two_closed ts)

pub inner_least : (line r : List ℕ) (ts : List Token) → tokens line ≡ opened ∷ run r ∷ ts ++ closed ∷ [] → least ts + length r + 2 ≤ length line
unfolding places sum_of
inner_least line r ts e =
    let a = rw e at (line_least line) in
    let b = own_append ts (closed ∷ []) in
    let c = two_closed ts in
    omega arith

pub inner_length : (line r : List ℕ) (ts : List Token) → tokens line ≡ opened ∷ run r ∷ ts ++ closed ∷ [] → length (spell ts) + length r + 2 ≤ length line + bracket_gaps ts
inner_length line r ts e =
    let a = spell_length ts in
    let b = gaps_split ts in
    let c = inner_least line r ts e in
    omega arith
