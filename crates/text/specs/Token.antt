-- Document 01, Lines of the panel: bytes, runs and tokens.
use Rattle.std.specs.Prelude.{◌≡◌, Bool, true, false, cond, not, ◌&&◌, ◌||◌, List, [], ◌∷◌, ℕ, ◌+◌, ◌-◌, ◌*◌, eqb, leb, take, drop, Option, Some, None}
use Rattle.std.specs.List.{prefix_len}
use Rattle.whole.specs.Lists.{within, all}

-- a space; an opening and a closing bracket
abbrev pub space : ℕ
space = 32

abbrev pub opening : ℕ
opening = 40

abbrev pub closing : ℕ
closing = 41

-- a to z; 0 to 9; either, a byte of a run
abbrev pub is_letter : ℕ → Bool
is_letter b = within 97 122 b

abbrev pub is_digit : ℕ → Bool
is_digit b = within 48 57 b

abbrev pub in_run : ℕ → Bool
in_run b = is_letter b || is_digit b

-- what a line may have: brackets, space, a to z, 0 to 9
abbrev pub allowed : ℕ → Bool
allowed b = in_run b || eqb b space || eqb b opening || eqb b closing

-- A line is a list of brackets and runs; spaces only part runs.
pub data Token : Type 0 where
  opened : Token
  closed : Token
  run : List ℕ → Token

abbrev pub starts_run : List ℕ → Bool
starts_run [] = false
starts_run (b ∷ s) = in_run b

-- a byte of a run, in front of the tokens behind it: one more byte of the run that follows at once, or a run by itself.
-- Where a run follows at once, the first token behind is that run: the other three cases never arise.
abbrev pub glue : Bool → ℕ → List Token → List Token
glue false b ts = run (b ∷ []) ∷ ts
glue true b [] = run (b ∷ []) ∷ []
glue true b (opened ∷ ts) = run (b ∷ []) ∷ opened ∷ ts
glue true b (closed ∷ ts) = run (b ∷ []) ∷ closed ∷ ts
glue true b (run r ∷ ts) = run (b ∷ r) ∷ ts

-- the tokens of a byte and the bytes s behind it, whose own tokens are ts
abbrev pub tokens_with : ℕ → List ℕ → List Token → List Token
tokens_with b s ts =
    cond (in_run b) (glue (starts_run s) b ts) (cond (eqb b opening) (opened ∷ ts) (cond (eqb b closing) (closed ∷ ts) ts))

unfoldable pub tokens : List ℕ → List Token
tokens [] = []
tokens (b ∷ s) = tokens_with b s (tokens s)

-- how many bytes the run in front has
abbrev pub run_length : List ℕ → ℕ
run_length s = prefix_len in_run s

-- the plain rule of tokens where a run stands in front: all its bytes are one token, and the tokens behind it are those of what is left
-- (`run_token`, proofs/Runs.antt)
abbrev pub RunRule : Type 0
RunRule = (s : List ℕ) → starts_run s ≡ true → tokens s ≡ run (take (run_length s) s) ∷ tokens (drop (run_length s) s)

-- the same bytes
unfoldable pub same : List ℕ → List ℕ → Bool
same [] [] = true
same [] (y ∷ ys) = false
same (x ∷ xs) [] = false
same (x ∷ xs) (y ∷ ys) = eqb x y && same xs ys

-- the value of digits, read behind the value v
unfoldable pub value_from : ℕ → List ℕ → ℕ
value_from v [] = v
value_from v (b ∷ s) = value_from (10 * v + (b - 48)) s

abbrev pub value : List ℕ → ℕ
value r = value_from 0 r

-- a zero in front of more digits is needless
abbrev pub needless_zero : List ℕ → Bool
needless_zero [] = false
needless_zero (b ∷ []) = false
needless_zero (b ∷ d ∷ s) = eqb b 48

-- the greatest number
abbrev pub greatest_number : ℕ
greatest_number = 999999999

-- a number: digits only, from 0 to 999,999,999, without needless leading zeros
abbrev pub is_number : List ℕ → Bool
is_number [] = false
is_number (b ∷ s) = all is_digit (b ∷ s) && not (needless_zero (b ∷ s)) && leb (value (b ∷ s)) greatest_number

unfoldable pub number_of : List ℕ → Option ℕ
number_of r = cond (is_number r) (Some (value r)) None
