-- The one spelling of a line: single spaces between items, and nowhere else.
use Rattle.std.specs.Prelude.{Bool, true, false, cond, not, ◌&&◌, List, [], ◌∷◌, ◌++◌, ℕ, ◌+◌, length}
use Rattle.whole.specs.Lists.{all, sum_of}
use Rattle.text.specs.Token.{space, opening, closing, in_run, Token, opened, closed, run}

-- an item ends with a run or a closing bracket
abbrev pub ends_item : Token → Bool
ends_item opened = false
ends_item closed = true
ends_item (run r) = true

-- an item begins with a run or an opening bracket
abbrev pub begins_item : Token → Bool
begins_item opened = true
begins_item closed = false
begins_item (run r) = true

-- a token's own bytes
abbrev pub written : Token → List ℕ
written opened = opening ∷ []
written closed = closing ∷ []
written (run r) = r

-- a space parts a token from those behind it exactly where the one ends an item and the next begins one
abbrev pub parted : Token → List Token → Bool
parted t [] = false
parted t (u ∷ us) = ends_item t && begins_item u

abbrev pub space_if : Bool → List ℕ
space_if x = cond x (space ∷ []) []

abbrev pub between : Token → List Token → List ℕ
between t ts = space_if (parted t ts)

-- the one spelling of these tokens
unfoldable pub spell : List Token → List ℕ
spell [] = []
spell (t ∷ ts) = written t ++ (between t ts ++ spell ts)

-- a run has at least one byte, and every byte of it is a letter or a digit
abbrev pub some_bytes : List ℕ → Bool
some_bytes [] = false
some_bytes (b ∷ r) = true

abbrev pub proper : Token → Bool
proper opened = true
proper closed = true
proper (run r) = some_bytes r && all in_run r

-- 1 where it is so, else 0
abbrev pub one : Bool → ℕ
one true = 1
one false = 0

-- at how many places of a list of tokens this is so of a token and those behind it
unfoldable pub places : (Token → List Token → Bool) → List Token → ℕ
places f [] = 0
places f (t ∷ ts) = one (f t ts) + places f ts

-- a run with a run behind it: these stand apart in every line
abbrev pub two_runs : Token → List Token → Bool
two_runs opened ts = false
two_runs closed ts = false
two_runs (run r) [] = false
two_runs (run r) (opened ∷ ts) = false
two_runs (run r) (closed ∷ ts) = false
two_runs (run r) (run q ∷ ts) = true

-- the gaps of a spelling, its spaces; and those beside a bracket, where a line needs none
abbrev pub gaps : List Token → ℕ
gaps ts = places parted ts

abbrev pub bracket_gaps : List Token → ℕ
bracket_gaps ts = places (λ t us. parted t us && not (two_runs t us)) ts

-- the tokens' own bytes, with no space
abbrev pub own_bytes : List Token → ℕ
own_bytes ts = sum_of (λ t. length (written t)) ts
