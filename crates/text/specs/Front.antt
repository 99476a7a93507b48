-- The front of what is left of a line, as the reader takes it.
use Rattle.std.specs.Prelude.{◌≡◌, Bool, cond, not, ◌&&◌, ◌||◌, List, [], ◌∷◌, ℕ, ◌-◌, eqb, leb, length, take, drop, Option, Some, None}
use Rattle.std.specs.Borrow.{Bor}
use Rattle.std.specs.List.{prefix_len}
use Rattle.whole.specs.Lists.{all}
use Rattle.text.specs.declared.Piece.{Piece}
use Rattle.text.specs.declared.Pieces.{Pieces}
use Rattle.text.specs.declared.Piece.TheVariants.{Open, Close, Run}
use Rattle.text.specs.Token.{opening, closing, in_run, run_length, is_digit, value_from, greatest_number, Token, opened, closed, run, tokens}

-- the number that digits say behind the value v, a zero in front or not
unfoldable pub digits_from : ℕ → List ℕ → Option ℕ
digits_from v s = cond (all is_digit s && leb (value_from v s) greatest_number) (Some (value_from v s)) None

-- the token that a piece of the line is
abbrev pub said : Piece → Token
said Open = opened
said Close = closed
said (Run r) = run r.now

-- the tokens of a line, from its first piece and what is left behind it: none where there is no piece
abbrev pub led_by : Option (Piece × Bor (List ℕ)) → List Token
led_by None = []
led_by (Some (p, rest)) = said p ∷ tokens rest.now

-- the tokens that a walk along a line has still before it
abbrev pub left_of : Pieces → List Token
left_of p = tokens p.0.now

-- r is a tail of s: the last bytes of s, as many as r has
abbrev pub TailOf : (r s : List ℕ) → Type 0
TailOf r s = r ≡ drop (length s - length r) s

-- a token begins at this byte
abbrev pub starts_token : ℕ → Bool
starts_token b = in_run b || eqb b opening || eqb b closing

-- how many bytes in front begin no token: spaces, and what no line may have
abbrev pub gap : List ℕ → ℕ
gap s = prefix_len (λ b. not (starts_token b)) s

-- a piece stands at the very front of t, and what is left is all that stands behind it: a bracket is the first byte of t, a run all the bytes of
-- t's run in front. There is no piece where t has no byte.
abbrev pub InFront : List ℕ → Option (Piece × Bor (List ℕ)) → Type 0
InFront t None = t ≡ []
InFront t (Some (Open, rest)) = t ≡ opening ∷ rest.now
InFront t (Some (Close, rest)) = t ≡ closing ∷ rest.now
InFront t (Some (Run r, rest)) = (r.now ≡ take (run_length t) t) × (rest.now ≡ drop (run_length t) t)

-- the very place of the first piece of s, and of what is left: behind the bytes in front that begin no token, and behind no others
abbrev pub PlacedAt : List ℕ → Option (Piece × Bor (List ℕ)) → Type 0
PlacedAt s r = InFront (drop (gap s) s) r
