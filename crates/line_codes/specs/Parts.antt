-- A line as the program tests it: its bytes first, and its form from token to token. The laws of proofs/Order.antt and proofs/Along.antt lead from this to
-- `reading_of` and `one_form`; no reader has to believe it.
use Rattle.std.specs.Prelude.{◌≡◌, cond, List, ℕ, ltb, length, Option, Some, None, Err}
use Rattle.whole.specs.Lists.{all}
use Rattle.text.specs.Token.{allowed, Token, opened, closed, run}
use Rattle.line_codes.specs.declared.Fault.TheVariants.{TooLong, BadByte}
use Rattle.line_codes.specs.declared.Part.{Part}
use Rattle.line_codes.specs.declared.Part.TheVariants.{Before, Inside, Behind}
use Rattle.line_codes.specs.Line.{Stand, before, inside, behind, wrong, further, longest, Reading, tested}

-- where the walk stands in a part of the line
abbrev pub stand_of : Part → Stand
stand_of Before = before
stand_of (Inside n) = inside n
stand_of Behind = behind

-- over a run, whose every byte is walked alike
abbrev pub over_run : Stand → Stand
over_run before = wrong
over_run (inside n) = inside n
over_run behind = wrong
over_run wrong = wrong

-- over a token
abbrev pub over_token : (most : ℕ) → Stand → Token → Stand
over_token most p opened = further most p 40
over_token most p closed = further most p 41
over_token most p (run r) = over_run p

-- the part behind a token; none where the walk goes wrong
abbrev pub PartIs : (most : ℕ) → Part → Token → Option Part → Type 0
PartIs most part t (Some next) = over_token most (stand_of part) t ≡ stand_of next
PartIs most part t None = over_token most (stand_of part) t ≡ wrong

-- the tests of a line's bytes alone, 10 and 11. Behind them the program reads the line's shape, and makes 12 and 13 where it has none: a line of a shape passes them
abbrev pub bytes_tested : List ℕ → Reading
bytes_tested s = cond (ltb longest (length s)) (Err TooLong) (tested BadByte (all allowed s))
