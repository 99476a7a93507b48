-- Document 01, Arms and verdict: the columns around D.
use Rattle.std.specs.Prelude.{◌≡◌, Bool, true, false, MatchOption, ◌+◌, ◌<◌, length, get_or, cond, ◌&&◌, List, [], ◌∷◌, ℕ, suc, leb, Option, Some, None}
use Rattle.record.specs.declared.Column.{Column}
use Rattle.record.specs.Filler.{no_column}

-- one place further
abbrev pub next : Option ℕ → Option ℕ
next (Some i) = Some (suc i)
next None = None

-- the first two neighbouring columns with D₁ ≤ D ≤ D₂; outside them all: code 33
unfoldable pub columns_around : ℕ → List Column → Option ℕ
columns_around d [] = None
columns_around d (a ∷ []) = None
columns_around d (a ∷ b ∷ ks) = cond (leb a.d d && leb d b.d) (Some 0) (next (columns_around d (b ∷ ks)))

-- the columns at place i and behind it are around D
abbrev pub around : ℕ → List Column → ℕ → Bool
around d ks i = leb (get_or ks i no_column).d d && leb d (get_or ks (i + 1) no_column).d

-- the answer of a search for them: the first such place, or that there is none
abbrev pub FirstAround : ℕ → List Column → Option ℕ → Type 0
FirstAround d ks r =
    MatchOption r ((i : ℕ) → i + 1 < length ks → around d ks i ≡ false)
    (λ i. (i + 1 < length ks) × (around d ks i ≡ true) × ((k : ℕ) → k < i → around d ks k ≡ false))
