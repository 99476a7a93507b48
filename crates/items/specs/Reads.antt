-- What each reading step answers, said of the tokens that are left of the line. That what is left is a tail of the very line each step says besides
-- (`TailOf`, text/specs/Front.antt), and of a run that it stands just in front of what is left. Left free, since no answer to a line depends on it:
-- how many of the spaces, or of other bytes that begin no token, are still left in front of the next token.
use Rattle.std.specs.Prelude.{◌≡◌, take, drop, Bool, true, false, cond, List, [], ◌∷◌, ℕ, Option, Some, None, IfSome}
use Rattle.std.specs.Borrow.{Bor}
use Rattle.text.specs.Token.{Token, tokens, same}
use Rattle.text.specs.Front.{TailOf}
use Rattle.items.specs.Grammar.{Parsed, got, none}

-- a was read, and these bytes are left behind it
abbrev pub read_of : {A : Type 0} → Option (A × Bor (List ℕ)) → Parsed A
read_of (Some (a, rest)) = got a (tokens rest.now)
read_of None = none

-- the same of a run, by its bytes
abbrev pub run_of : Option (Bor (List ℕ) × Bor (List ℕ)) → Parsed (List ℕ)
run_of (Some (r, rest)) = got r.now (tokens rest.now)
run_of None = none

-- and of a bracket
abbrev pub passed_of : Option (Bor (List ℕ)) → Parsed (Unit {0})
passed_of (Some rest) = got tt (tokens rest.now)
passed_of None = none

-- a reader of items answers as this shape says
abbrev pub ReadsBy : {A : Type 0} → (Bor (List ℕ) → Option (A × Bor (List ℕ)) → Type 0) → (List Token → Parsed A) → Type 0
ReadsBy answers item? = (s : Bor (List ℕ)) (r : _) → answers s r → item? (tokens s.now) ≡ read_of r

-- what such a reader leaves is a tail of what it was given
abbrev pub LeavesTail : {A : Type 0} → (Bor (List ℕ) → Option (A × Bor (List ℕ)) → Type 0) → Type 0
LeavesTail answers = (s : Bor (List ℕ)) (r : _) → answers s r → IfSome r (λ x. TailOf x.1.now s.now)

-- the first n places hold the items that were read, and the others what they held
abbrev pub Fills : {A : Type 0} → Parsed (List A) → (old new : List A) → Option (ℕ × Bor (List ℕ)) → Type 0
Fills p old new (Some (n, rest)) = (p ≡ got (take n new) (tokens rest.now)) × (drop n new ≡ drop n old)
Fills p old new None = p ≡ none

-- what a word stands for, by a table whose words are the program's own slices
unfoldable pub found : {A : Type 0} → List (Bor (List ℕ) × A) → List ℕ → Option A
found [] r = None
found ((w, a) ∷ table) r = cond (same r w.now) (Some a) (found table r)

-- nothing is left
unfoldable pub is_end : List Token → Bool
is_end [] = true
is_end (t ∷ ts) = false
