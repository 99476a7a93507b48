-- The laws of the one spelling. Proved in proofs/Laws.antt.
use Rattle.std.specs.Prelude.{◌≡◌, true, List, ℕ, ◌+◌, ◌≤◌, length}
use Rattle.whole.specs.Lists.{all}
use Rattle.text.specs.Token.{Token, tokens}
use Rattle.spelling.specs.Spelling.{spell, proper, gaps, bracket_gaps, own_bytes}
use Rattle.spelling.specs.SoSpelled.{SoSpelled}

-- the tokens of every line can be spelled, and the tokens of what is spelled are those that were spelled
abbrev pub EveryLineIsProper : Type 0
EveryLineIsProper = (line : List ℕ) → all proper (tokens line) ≡ true

abbrev pub TokensAreKept : Type 0
TokensAreKept = (ts : List Token) → all proper ts ≡ true → tokens (spell ts) ≡ ts

-- what is spelled is so spelled, and a line that is so spelled is its own spelling
abbrev pub SpelledSo : Type 0
SpelledSo = (ts : List Token) → all proper ts ≡ true → SoSpelled (spell ts)

abbrev pub OwnSpelling : Type 0
OwnSpelling = (line : List ℕ) → SoSpelled line → spell (tokens line) ≡ line

-- so there is one spelling: two lines that are so spelled and have the same tokens are the same line
abbrev pub SpelledOnce : Type 0
SpelledOnce = (a b : List ℕ) → SoSpelled a → SoSpelled b → tokens a ≡ tokens b → a ≡ b

-- a spelling has the bytes of its tokens and a space for each gap, and is longer than the line that it spells by the gaps beside
-- brackets at most
abbrev pub LengthOfSpelling : Type 0
LengthOfSpelling = (ts : List Token) → length (spell ts) ≡ own_bytes ts + gaps ts

abbrev pub LongerByBrackets : Type 0
LongerByBrackets = (line : List ℕ) → length (spell (tokens line)) ≤ length line + bracket_gaps (tokens line)
