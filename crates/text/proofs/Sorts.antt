-- The sorts of bytes that a line may have.
use mathlib.Core.Path.{◌≡◌, refl}
use mathlib.Core.Bool.{Bool, true, false, ◌||◌}
use Prim.Native.Nat.{ℕ}
use native.Mathlib.Omega.{arith}
use lib.Dec.{eqb}
use borrow.Author.Tests.{eqb-true}
use Rattle.whole.proofs.Lists.{clash}
use Rattle.text.specs.Token.{space, opening, closing, in_run, allowed}

-- an allowed byte is of one of four sorts
pub data Sort (b : ℕ) : Type 0 where
  is_space : b ≡ space → Sort b
  is_opening : b ≡ opening → Sort b
  is_closing : b ≡ closing → Sort b
  is_of_run : in_run b ≡ true → Sort b

sort_by : (b : ℕ) (w x y z : Bool) → in_run b ≡ w → eqb b space ≡ x → eqb b opening ≡ y → eqb b closing ≡ z → (w || x || y || z) ≡ true → Sort b
sort_by b true x y z e f g h k = is_of_run e
sort_by b false true y z e f g h k = is_space (eqb-true b space f)
sort_by b false false true z e f g h k = is_opening (eqb-true b opening g)
sort_by b false false false true e f g h k = is_closing (eqb-true b closing h)
sort_by b false false false false e f g h k = clash k

pub sort : (b : ℕ) → allowed b ≡ true → Sort b
sort b e = sort_by b (in_run b) (eqb b space) (eqb b opening) (eqb b closing) refl refl refl refl e

-- no byte of a run is a byte that begins none
pub not_in_run : (b k : ℕ) → in_run b ≡ true → in_run k ≡ false → b ≡ k → ⊥
not_in_run b k e f g =
    let z : ◌≡◌ {A = ℕ} 0 1 = cc in omega arith
