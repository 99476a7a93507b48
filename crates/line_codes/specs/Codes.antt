-- Document 01, Codes, Every line, and document 02, P2, in their own words and numbers: the lines to which 10, 11, 12 and 13 apply. Nothing
-- here rests on the definitions by which the program is proved; proofs/Codes.antt shows that both say the same.
use Rattle.std.specs.Prelude.{◌≡◌, List, [], ◌∷◌, ◌++◌, ◌↔◌, ℕ, suc, ◌-◌, ◌≤◌, ◌<◌, length, get_or, replicate}
use Rattle.whole.specs.Decimal.{Decimal}

-- a letter, a to z, or a digit, 0 to 9
pub data LetterOrDigit (b : ℕ) : Type 0 where
  letter : 97 ≤ b → b ≤ 122 → LetterOrDigit b
  digit : 48 ≤ b → b ≤ 57 → LetterOrDigit b

-- a byte that a line may have: brackets, space, a to z, 0 to 9
pub data Allowed (b : ℕ) : Type 0 where
  opening : b ≡ 40 → Allowed b
  closing : b ≡ 41 → Allowed b
  space : b ≡ 32 → Allowed b
  of_run : LetterOrDigit b → Allowed b

abbrev pub AllAllowed : List ℕ → Type 0
AllAllowed s = (i : ℕ) → i < length s → Allowed (get_or s i 0)

-- 11: some byte is another
abbrev pub OtherByte : List ℕ → Type 0
OtherByte s = (i : ℕ) × (i < length s) × (Allowed (get_or s i 0) → ⊥)

-- what stands between the brackets of a form: bytes that are no brackets, and forms nested at most n deep
pub data Inner : ℕ → List ℕ → Type 0 where
  none : {n : ℕ} → Inner n []
  byte : {n b : ℕ} {s : List ℕ} → (b ≡ 40 → ⊥) → (b ≡ 41 → ⊥) → Inner n s → Inner n (b ∷ s)
  form : {n : ℕ} {f s : List ℕ} → Inner n f → Inner (suc n) s → Inner (suc n) (40 ∷ (f ++ 41 ∷ s))

-- a form nested at most n deep
pub data Form : ℕ → List ℕ → Type 0 where
  form : {n : ℕ} {f : List ℕ} → Inner n f → Form (suc n) (40 ∷ (f ++ 41 ∷ []))

-- a line that is exactly one closed form, nested at most n deep, with nothing but spaces outside it
pub record OneForm (n : ℕ) (s : List ℕ) : Type 0 where
  pub before : ℕ
  pub written : List ℕ
  pub behind : ℕ
  pub is : Form n written
  pub line : s ≡ replicate before 32 ++ (written ++ replicate behind 32)

-- the outer form's first item is the run `show`: spaces, an opening bracket, spaces, these four letters, and no letter or digit at once
-- behind them
pub record BeginsWithShow (s : List ℕ) : Type 0 where
  pub before : ℕ
  pub inside : ℕ
  pub behind : List ℕ
  pub line : s ≡ replicate before 32 ++ (40 ∷ (replicate inside 32 ++ (115 ∷ 104 ∷ 111 ∷ 119 ∷ behind)))
  pub ends : 0 < length behind → LetterOrDigit (get_or behind 0 0) → ⊥

-- one closed form, as deep as its line may be: five where the outer form begins with the word `show`, four in any other; 12 where not
pub data Nested (s : List ℕ) : Type 0 where
  four : OneForm 4 s → Nested s
  five : BeginsWithShow s → OneForm 5 s → Nested s

-- a number of a line, from 0 to 999,999,999: its decimal digits, without needless leading zeros
abbrev pub NumberIs : ℕ → List ℕ → Type 0
NumberIs n r = (n ≤ 999999999) × Decimal n r

-- r is a run of the line s: a longest stretch of letters and digits
pub record Run (s r : List ℕ) : Type 0 where
  pub before : List ℕ
  pub behind : List ℕ
  pub line : s ≡ before ++ (r ++ behind)
  pub some : 0 < length r
  pub every : (i : ℕ) → i < length r → LetterOrDigit (get_or r i 0)
  pub none_before : 0 < length before → LetterOrDigit (get_or before (length before - 1) 0) → ⊥
  pub none_behind : 0 < length behind → LetterOrDigit (get_or behind 0 0) → ⊥

-- 13: a run beginning with a digit that is not a number from 0 to 999,999,999 without needless leading zeros
pub record NoNumber (s : List ℕ) : Type 0 where
  pub word : List ℕ
  pub run : Run s word
  pub low : 48 ≤ get_or word 0 0
  pub high : get_or word 0 0 ≤ 57
  pub no_number : (n : ℕ) → NumberIs n word → ⊥

-- The codes of the entire line, each where none printed before it applies; 0 where none does.
pub record LineCode (s : List ℕ) (code : ℕ) : Type 0 where
  pub ten : (code ≡ 10) ↔ (2000 < length s)
  pub eleven : (code ≡ 11) ↔ ((length s ≤ 2000) × OtherByte s)
  pub twelve : (code ≡ 12) ↔ ((length s ≤ 2000) × AllAllowed s × (Nested s → ⊥))
  pub thirteen : (code ≡ 13) ↔ ((length s ≤ 2000) × AllAllowed s × Nested s × NoNumber s)
  pub sound : (code ≡ 0) ↔ ((length s ≤ 2000) × AllAllowed s × Nested s × (NoNumber s → ⊥))
