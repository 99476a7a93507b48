-- Document 01, Codes, Every line: 10 to 13, each test made over the entire line before the next; document 02, P2: five deep behind `show`.
use Rattle.std.specs.Prelude.{Bool, true, false, cond, not, ◌||◌, List, [], ◌∷◌, ℕ, zero, suc, ◌-◌, eqb, ltb, length, Result, Ok, Err}
use Rattle.whole.specs.Bytes.{bytes}
use Rattle.whole.specs.Lists.{all}
use Rattle.line_codes.specs.declared.Fault.{Fault}
use Rattle.line_codes.specs.declared.Fault.TheVariants.{TooLong, BadByte, NotOneForm, BadNumber, NoShape}
use Rattle.text.specs.Token.{space, opening, closing, is_digit, allowed, Token, opened, closed, run, tokens, same, is_number}

-- 12: where one stands on a walk along a line: before its form, inside it with this many brackets open, behind it; or the line
-- is not one form
pub data Stand : Type 0 where
  before : Stand
  inside : ℕ → Stand
  behind : Stand
  wrong : Stand

-- one bracket fewer open
abbrev pub out_of : ℕ → Stand
out_of zero = behind
out_of (suc n) = inside (suc n)

-- one byte further, where at most `most` brackets may be open; outside the form only spaces stand
abbrev pub further : (most : ℕ) → Stand → ℕ → Stand
further most before b = cond (eqb b space) before (cond (eqb b opening) (inside 1) wrong)
further most (inside n) b =
    cond (eqb b opening) (cond (ltb n most) (inside (suc n)) wrong) (cond (eqb b closing) (out_of (n - 1)) (inside n))
further most behind b = cond (eqb b space) behind wrong
further most wrong b = wrong

-- along all of it
unfoldable pub walked : (most : ℕ) → Stand → List ℕ → Stand
walked most p [] = p
walked most p (b ∷ s) = walked most (further most p b) s

abbrev pub is_behind : Stand → Bool
is_behind before = false
is_behind (inside n) = false
is_behind behind = true
is_behind wrong = false

-- 12: exactly one closed form, only spaces outside it, nested at most `most` deep
abbrev pub one_form : (most : ℕ) → List ℕ → Bool
one_form most s = is_behind (walked most before s)

-- 13: a run beginning with a digit is a number
abbrev pub number_if_digit : List ℕ → Bool
number_if_digit [] = true
number_if_digit (b ∷ r) = not (is_digit b) || is_number (b ∷ r)

abbrev pub sound_token : Token → Bool
sound_token opened = true
sound_token closed = true
sound_token (run r) = number_if_digit r

-- how long a line may be, in bytes
abbrev pub longest : ℕ
longest = 2000

-- the first of the tokens behind a form's opening bracket is the run `show`
abbrev pub first_is_show : List Token → Bool
first_is_show [] = false
first_is_show (opened ∷ ts) = false
first_is_show (closed ∷ ts) = false
first_is_show (run r ∷ ts) = same r (bytes "show")

-- a line whose outer form begins with the word `show`
abbrev pub is_show : List Token → Bool
is_show [] = false
is_show (opened ∷ ts) = first_is_show ts
is_show (closed ∷ ts) = false
is_show (run r ∷ ts) = false

-- how deep a form may be nested: five in such a line, four in any other
abbrev pub deepest : List Token → ℕ
deepest ts = cond (is_show ts) 5 4

-- what the tests of a whole line find: they pass, or why the line is turned down
abbrev pub Reading : Type 0
Reading = Result (Unit {0}) Fault

-- what a test of the whole line answers: it passes, or the fault that it is made for
abbrev pub tested : Fault → Bool → Reading
tested f true = Ok tt
tested f false = Err f

-- the first test that a line fails
unfoldable pub reading_of : List ℕ → Reading
reading_of s =
    cond (ltb longest (length s)) (Err TooLong)
    (cond (not (all allowed s)) (Err BadByte)
    (cond (not (one_form (deepest (tokens s)) s)) (Err NotOneForm)
    (cond (not (all sound_token (tokens s))) (Err BadNumber) (Ok tt))))

-- the code of each fault, and of what the tests find; 14 is that of a line which is none of the shapes
abbrev pub fault_code : Fault → ℕ
fault_code TooLong = 10
fault_code BadByte = 11
fault_code NotOneForm = 12
fault_code BadNumber = 13
fault_code NoShape = 14

abbrev pub reading_code : Reading → ℕ
reading_code (Ok u) = 0
reading_code (Err f) = fault_code f
