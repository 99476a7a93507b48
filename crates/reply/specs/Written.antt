-- Texts written into a buffer, and figures as texts.
use Rattle.std.specs.Prelude.{cond, List, [], ◌∷◌, ◌++◌, ℕ, zero, suc, ◌+◌, ◌/◌, ◌%◌, ltb, ℤ, pos, negsuc, length, take, drop}

-- w written over the front of l: the bytes behind it keep their contents
unfoldable pub over : List ℕ → List ℕ → List ℕ
over w l = w ++ drop (length w) l

-- w written over l from the place n on
unfoldable pub into : ℕ → List ℕ → List ℕ → List ℕ
into n w l = take n l ++ over w (drop n l)

-- the digit of a number from 0 to 9
abbrev pub digit : ℕ → ℕ
digit n = 48 + n

-- the decimal digits of n, of which there are at most k
unfoldable pub digits : ℕ → ℕ → List ℕ
digits zero n = []
digits (suc k) n = cond (ltb n 10) (digit n ∷ []) (digits k (n / 10) ++ digit (n % 10) ∷ [])

-- a figure that is not below zero: every number of 64 bits has at most twenty digits
abbrev pub decimal : ℕ → List ℕ
decimal n = digits 20 n

-- a figure; below zero it carries a minus sign
unfoldable pub figure : ℤ → List ℕ
figure (pos n) = decimal n
figure (negsuc n) = 45 ∷ decimal (suc n)

-- a code: two digits
abbrev pub two_digits : ℕ → List ℕ
two_digits n = digit (n / 10) ∷ digit (n % 10) ∷ []
