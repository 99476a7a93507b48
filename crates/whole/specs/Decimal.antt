-- Decimal digits, as the bytes of a text.
use Rattle.std.specs.Prelude.{List, [], ◌∷◌, ◌++◌, ℕ, ◌+◌, ◌*◌, ◌<◌}

-- the decimal digits of a number, without needless leading zeros: a digit alone, or the digits of a number above zero and one more
pub data Decimal : ℕ → List ℕ → Type 0 where
  one : {d : ℕ} → d < 10 → Decimal d ((48 + d) ∷ [])
  more : {n d : ℕ} {r : List ℕ} → 0 < n → d < 10 → Decimal n r → Decimal (10 * n + d) (r ++ (48 + d) ∷ [])
