-- The two limits: what is read next, and what a read tells, each by the lines that are taken of the input, whatever may follow.
use Rattle.std.specs.Prelude.{◌≡◌, List, [], ◌∷◌, ◌++◌, ℕ, ◌+◌, ◌-◌, ◌≤◌, ◌<◌, min, length, take}
use Rattle.input.specs.declared.Told.{Told}
use Rattle.input.specs.declared.Told.TheVariants.{Goes, LastLine, NoMore}
use Rattle.input.specs.Lines.{cut, lines_of}

-- the lines that are taken so far: those that a byte 10 has ended
abbrev pub taken_so_far : ℕ → List ℕ → List (List ℕ)
taken_so_far lines input = take lines (cut input).lines

-- an input was read: so many lines and bytes may still come, and of the line that has begun so many bytes are kept
pub record HasRead (lines bytes : ℕ) (input : List ℕ) (left used more : ℕ) : Type 0 where
  pub counted : length input + more ≡ bytes
  pub count : left ≡ lines - length (cut input).lines
  pub begun : 0 < left → used ≡ min 2001 (length (cut input).rest)

-- how many bytes are asked for next: none more than may come, but for one at the limit of bytes, which tells whether the input ends there;
-- none where the lines are those taken so far, whatever follows; some only where a byte more would make them others
pub record Asked (left used more r : ℕ) : Type 0 where
  pub room : r ≤ 65536
  pub within : 0 < more → r ≤ more
  pub beyond : more ≡ 0 → r ≤ 1
  pub lines : 0 < r → 0 < left
  pub none : r ≡ 0 → (lines bytes : ℕ) (input later : List ℕ) → HasRead lines bytes input left used more →
      lines_of lines bytes (input ++ later) ≡ taken_so_far lines input
  pub some : 0 < r → (lines bytes : ℕ) (input : List ℕ) → HasRead lines bytes input left used more →
      lines_of lines bytes (input ++ 0 ∷ []) ≡ lines_of lines bytes input → ⊥

-- what may follow where a read brought so many bytes: nothing where it brought none, and else at least these
pub record Follows (got : ℕ) (later : List ℕ) : Type 0 where
  pub none : got ≡ 0 → later ≡ []
  pub some : got ≤ length later

-- what a read of so many bytes tells where lines are left: the input goes on within the limit of bytes; or it has ended, and the line that
-- has begun is its last; or there is no line more, since none has begun or the count of bytes cuts it short
abbrev pub ToldIs : (used more got : ℕ) → Told → Type 0
ToldIs used more got Goes = (0 < got) × (got ≤ more)
ToldIs used more got LastLine =
    (got ≡ 0) × ((lines bytes left : ℕ) (input : List ℕ) → 0 < left → HasRead lines bytes input left used more →
    lines_of lines bytes input ≡ taken_so_far lines input ++ (cut input).rest ∷ [])
ToldIs used more got NoMore =
    (lines bytes left : ℕ) (input later : List ℕ) → 0 < left → HasRead lines bytes input left used more → Follows got later →
    lines_of lines bytes (input ++ later) ≡ taken_so_far lines input
