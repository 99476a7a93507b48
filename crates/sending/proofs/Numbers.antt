-- The numbers of a wing and of partly filled parts of either kind, in the order in which they are printed.
use mathlib.Core.List.{List, [], ◌∷◌}
use Prim.Native.Nat.{ℕ}

abbrev pub wing_numbers : (width dist girder lip : ℕ) → List ℕ
wing_numbers w d g l = w ∷ d ∷ g ∷ l ∷ []

abbrev pub undivided_numbers : (length breadth void grain : ℕ) → List ℕ
undivided_numbers n b v g = n ∷ b ∷ v ∷ g ∷ []

abbrev pub split_numbers : (length run left right : ℕ) → List ℕ
split_numbers n a l r = n ∷ a ∷ l ∷ r ∷ []
