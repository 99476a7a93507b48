-- Reading a shape from the front of a list of tokens: what was read, and the tokens behind it.
use Rattle.std.specs.Prelude.{Bool, cond, List, [], ◌∷◌, ℕ, zero, suc, get_or, Option, Some, None}
use Prim.Native.String.{String}
use Rattle.whole.specs.Bytes.{bytes}
use Rattle.text.specs.Token.{Token, opened, closed, run, number_of, same}

pub data Parsed (A : Type 0) : Type 0 where
  got : A → List Token → Parsed A
  none : Parsed A

-- first one thing, then another behind it
infixl 20 ◌and_then◌
abbrev pub ◌and_then◌ : {A B : Type 0} → Parsed A → (A → List Token → Parsed B) → Parsed B
got a ts and_then f = f a ts
none and_then f = none

-- a bracket
abbrev pub open? : List Token → Parsed (Unit {0})
open? [] = none
open? (opened ∷ ts) = got tt ts
open? (closed ∷ ts) = none
open? (run r ∷ ts) = none

abbrev pub close? : List Token → Parsed (Unit {0})
close? [] = none
close? (opened ∷ ts) = none
close? (closed ∷ ts) = got tt ts
close? (run r ∷ ts) = none

-- a run
abbrev pub run? : List Token → Parsed (List ℕ)
run? [] = none
run? (opened ∷ ts) = none
run? (closed ∷ ts) = none
run? (run r ∷ ts) = got r ts

-- a form's opening bracket and the run behind it
abbrev pub head? : List Token → Parsed (List ℕ)
head? ts = open? ts and_then λ u us. run? us

-- this word
abbrev pub is : List ℕ → String → Bool
is r word = same r (bytes word)

-- what a run stands for, by a table of words
unfoldable pub named : {A : Type 0} → List (String × A) → A → List ℕ → A
named [] other r = other
named ((w, a) ∷ table) other r = cond (is r w) a (named table other r)

-- what stands behind a word, by what the word stands for, if anything
abbrev pub behind? : {W A : Type 0} → (W → List Token → Parsed A) → Option W → List Token → Parsed A
behind? shape (Some w) ts = shape w ts
behind? shape None ts = none

-- a number
abbrev pub number? : List Token → Parsed ℕ
number? ts = run? ts and_then λ r us. behind? got (number_of r) us

-- k numbers
unfoldable pub numbers? : ℕ → List Token → Parsed (List ℕ)
numbers? zero ts = got [] ts
numbers? (suc k) ts = number? ts and_then λ v us. numbers? k us and_then λ vs ws. got (v ∷ vs) ws

-- the last k numbers of a form, and its closing bracket
unfoldable pub last_numbers? : ℕ → List Token → Parsed (List ℕ)
last_numbers? k ts = numbers? k ts and_then λ vs us. close? us and_then λ u ws. got vs ws

-- the n-th of the numbers read
abbrev pub nth : List ℕ → ℕ → ℕ
nth vs n = get_or vs n 0

-- what was read if the first reading is none
abbrev pub or_else : {A : Type 0} → Parsed A → Parsed A → Parsed A
or_else (got a ts) other = got a ts
or_else none other = other

-- the last items of a form, at most k, and its closing bracket
unfoldable pub items? : {A : Type 0} → ℕ → (List Token → Parsed A) → List Token → Parsed (List A)
items? zero item ts = close? ts and_then λ u us. got [] us
items? (suc k) item ts =
    or_else (close? ts and_then λ u us. got [] us) (item ts and_then λ x us. items? k item us and_then λ xs ws. got (x ∷ xs) ws)

-- at least one
abbrev pub some_of : {A : Type 0} → List A → List Token → Parsed (List A)
some_of [] ts = none
some_of (x ∷ xs) ts = got (x ∷ xs) ts

-- from one to k items, and the closing bracket behind them
abbrev pub several? : {A : Type 0} → ℕ → (List Token → Parsed A) → List Token → Parsed (List A)
several? k item ts = items? k item ts and_then some_of

-- nothing behind it: the answer for a whole line
abbrev pub whole? : {A : Type 0} → Parsed A → Option A
whole? (got a []) = Some a
whole? (got a (t ∷ ts)) = None
whole? none = None
