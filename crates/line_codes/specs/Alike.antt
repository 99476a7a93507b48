-- Lines with the same tokens are read alike: how many spaces stand between them does not matter. Proved in proofs/Alike.antt.
use Rattle.std.specs.Prelude.{◌≡◌, true, List, ℕ, ◌≤◌, length}
use Rattle.whole.specs.Lists.{all}
use Rattle.text.specs.Token.{allowed, tokens}
use Rattle.line_codes.specs.Line.{reading_of}

-- a line that neither 10 nor 11 turns away
pub record AllowedLine (line : List ℕ) : Type 0 where
  pub long : length line ≤ 2000
  pub bytes : all allowed line ≡ true

abbrev pub SameTokensSameReading : Type 0
SameTokensSameReading = (a b : List ℕ) → AllowedLine a → AllowedLine b → tokens a ≡ tokens b → reading_of a ≡ reading_of b
