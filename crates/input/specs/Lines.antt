-- Document 01, Lines of the panel: what the lines of an input are.
use Rattle.std.specs.Prelude.{◌≡◌, cond, List, [], ◌∷◌, ◌++◌, ℕ, suc, ◌-◌, ◌<◌, eqb, leb, length, get_or, take, drop}

-- the service reads at most 4,000,000,000 lines, and at most 9,000,000,000,000 bytes
abbrev pub most_lines : ℕ
most_lines = 4000000000

abbrev pub most_bytes : ℕ
most_bytes = 9000000000000

-- the byte that ends a line, and is not part of it
abbrev pub newline : ℕ
newline = 10

-- an input cut at each byte 10: the lines that it ends, and what stands behind the last of them
pub record Cut : Type 0 where
  pub lines : List (List ℕ)
  pub rest : List ℕ

abbrev pub uncut : Cut
uncut = record { lines = []; rest = [] }

-- one byte more in front of it
abbrev pub longer : ℕ → List (List ℕ) → List ℕ → Cut
longer b [] r = record { lines = []; rest = b ∷ r }
longer b (l ∷ ls) r = record { lines = (b ∷ l) ∷ ls; rest = r }

abbrev pub ended : Cut → Cut
ended k = record { lines = [] ∷ k.lines; rest = k.rest }

unfoldable pub cut : List ℕ → Cut
cut [] = uncut
cut (b ∷ s) = cond (eqb b newline) (ended (cut s)) (longer b (cut s).lines (cut s).rest)

-- lines, each with byte 10 behind it
unfoldable pub joined : List (List ℕ) → List ℕ
joined [] = []
joined (l ∷ ls) = l ++ 10 ∷ joined ls

-- no byte 10 at any place
abbrev pub NoNewline : List ℕ → Type 0
NoNewline l = (i : ℕ) → i < length l → get_or l i 0 ≡ 10 → ⊥

-- the law of `cut` (proved in proofs/Cutting.antt): the lines, each with byte 10 behind it, and then the rest, are the input, and
-- none of them has a byte 10, nor the rest
pub record CutLaw (input : List ℕ) : Type 0 where
  pub same : joined (cut input).lines ++ (cut input).rest ≡ input
  pub lines : (k : ℕ) → k < length (cut input).lines → NoNewline (get_or (cut input).lines k [])
  pub rest : NoNewline (cut input).rest

-- a last line without byte 10, if a byte of it stands there
abbrev pub last_line : List ℕ → List (List ℕ)
last_line [] = []
last_line (b ∷ r) = (b ∷ r) ∷ []

-- the lines that are taken: at most max_lines, of the first max_bytes bytes; a line that the count of bytes cuts short is none
unfoldable pub lines_of : (max_lines max_bytes : ℕ) → List ℕ → List (List ℕ)
lines_of max_lines max_bytes input =
    take max_lines
    ((cut (take max_bytes input)).lines ++ cond (leb (length input) max_bytes) (last_line (cut input).rest) [])

-- ---- lines of a block of input

-- how many bytes stand before the first byte 10
unfoldable pub line_length : List ℕ → ℕ
line_length [] = 0
line_length (b ∷ s) = cond (eqb b newline) 0 (suc (line_length s))

-- the bytes of a block from one place up to another
abbrev pub between : List ℕ → ℕ → ℕ → List ℕ
between block i j = take (j - i) (drop i block)
