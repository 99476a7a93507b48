-- How the program works the moment of a line from deck to floor in 64 bits. (The definition is that of Deck.antt; the laws in
-- proofs/Neither.antt lead from these figures to it.)
use Rattle.std.specs.Prelude.{ℕ, ◌+◌, ◌*◌, ◌/◌, ◌%◌, ◌^◌, ◌≤◌, ◌<◌}

-- an eighth of 24 slope_square, and of unit_square: K and e below
abbrev pub K : ℕ
K = 3 * (46631 * 46631)

abbrev pub eighth : ℕ
eighth = 1250000000

-- the two terms: b² v g over 2 h, and e h³ over K
abbrev pub first_term : (b v g : ℕ) → ℕ
first_term b v g = b * b * (v * g)

abbrev pub second_term : (h : ℕ) → ℕ
second_term h = eighth * (h * h * h)

-- ---- the way in 64 bits: whole part and rest of each term
abbrev pub first_whole : (b v g h : ℕ) → ℕ
first_whole b v g h = first_term b v g / (2 * h)

abbrev pub first_rest : (b v g h : ℕ) → ℕ
first_rest b v g h = first_term b v g % (2 * h)

-- the second term is too great: h³ is divided by K first, and the rest times e once more
abbrev pub carried : (h : ℕ) → ℕ
carried h = eighth * (h * h * h % K)

abbrev pub second_whole : (h : ℕ) → ℕ
second_whole h = eighth * (h * h * h / K) + carried h / K

abbrev pub second_rest : (h : ℕ) → ℕ
second_rest h = carried h % K

-- ---- each step fits 64 bits, whatever breadth of 16 bits
pub record Sizes (b v g h : ℕ) : Type 0 where
  pub some : 0 < h
  pub height : h ≤ 30559
  pub square : b * b ≤ 4294836225
  pub depths : v * g ≤ 933852481
  pub first : first_term b v g < 2 ^ 62
  pub heights : h * h ≤ 933852481
  pub cube : h * h * h ≤ 28537597966879
  pub second : second_whole h < 2 ^ 43
  pub ordered : second_whole h ≤ first_whole b v g h
  pub whole : first_whole b v g h < 2 ^ 62
  pub first_over : K * first_rest b v g h < 2 ^ 49
  pub second_over : 2 * h * second_rest h < 2 ^ 49
