-- Laws of a walk along a line, byte by byte.
use mathlib.Core.Path.{◌≡◌, refl, ap}
use mathlib.Core.List.{List, [], ◌∷◌}
use Prim.Native.Nat.{ℕ, suc, ◌-◌, ◌≤◌, ◌<◌}
use borrow.Author.Tests.{ne_eqb, lt-ltb, le-ltb}
use Rattle.line_codes.specs.Line.{Stand, before, inside, behind, wrong, out_of, further, walked}

-- a walk that went wrong stays wrong
pub walked_wrong : (most : ℕ) (l : List ℕ) → walked most wrong l ≡ wrong
unfolding walked
walked_wrong most [] = refl
walked_wrong most (b ∷ s) = walked_wrong most s

-- ---- one byte further
pub over_space : (most : ℕ) (p : Stand) → further most p 32 ≡ p
over_space most before = refl
over_space most (inside n) = refl
over_space most behind = refl
over_space most wrong = refl

module _ (most b : ℕ) where
  pub over_enter : b ≡ 40 → further most before b ≡ inside 1
  over_enter e = rw e

  pub over_other : (b ≡ 40 → ⊥) → (b ≡ 32 → ⊥) → further most before b ≡ wrong
  over_other p q = rw (ne_eqb b 32 q, ne_eqb b 40 p)

  pub over_open : (n : ℕ) → b ≡ 40 → n < most → further most (inside n) b ≡ inside (suc n)
  over_open n e h = rw (e, lt-ltb n most h)

  pub over_full : (n : ℕ) → b ≡ 40 → most ≤ n → further most (inside n) b ≡ wrong
  over_full n e h = rw (e, le-ltb n most h)

  pub over_close : (n : ℕ) → b ≡ 41 → further most (inside n) b ≡ out_of (n - 1)
  over_close n e = rw e

  pub over_plain : (n : ℕ) → (b ≡ 40 → ⊥) → (b ≡ 41 → ⊥) → further most (inside n) b ≡ inside n
  over_plain n p q = rw (ne_eqb b 40 p, ne_eqb b 41 q)

  pub over_any : (b ≡ 32 → ⊥) → further most behind b ≡ wrong
  over_any q = rw (ne_eqb b 32 q)

pub step : (most : ℕ) (p : Stand) {q : Stand} (b : ℕ) (l : List ℕ) → further most p b ≡ q → walked most p (b ∷ l) ≡ walked most q l
unfolding walked
step most p b l e = ap (λ r. walked most r l) e
