-- Document 01, Arms and verdict: the ten angles, in hundredths of a degree, and their sines, in millionths.
use Rattle.std.specs.Prelude.{List, [], ◌∷◌, ℕ, suc, ◌-◌, get_or}

abbrev pub angles : List ℕ
angles = 0 ∷ 500 ∷ 1000 ∷ 1200 ∷ 1500 ∷ 2000 ∷ 2500 ∷ 3000 ∷ 3500 ∷ 4000 ∷ []

abbrev pub sines : List ℕ
sines = 0 ∷ 87156 ∷ 173648 ∷ 207912 ∷ 258819 ∷ 342020 ∷ 422618 ∷ 500000 ∷ 573576 ∷ 642788 ∷ []

unfoldable pub angle : ℕ → ℕ
angle k = get_or angles k 0

unfoldable pub sine : ℕ → ℕ
sine k = get_or sines k 0

-- the width of the stretch from one of the ten angles to the next
abbrev pub width : ℕ → ℕ
width k = angle (suc k) - angle k
