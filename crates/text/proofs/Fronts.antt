-- Laws of the bytes in front of a text that pass a test.
use mathlib.Core.Path.{◌≡◌, refl}
use mathlib.Core.Bool.{Bool, true, false, cond}
use mathlib.Core.List.{List, [], ◌∷◌}
use Prim.Native.Nat.{ℕ, suc, ◌+◌}
use native.Mathlib.Omega.{arith}
use lib.ListN.{take}
use Rattle.std.specs.List.{prefix_len}
use Rattle.whole.specs.Lists.{all}

module _ (f : ℕ → Bool) where
  pub prefix_all : (l : List ℕ) → all f (take (prefix_len f l) l) ≡ true
  unfolding all
  prefix_all [] = refl
  prefix_all (b ∷ s) = by (f b) refl (prefix_all s)
    where
      by : (x : Bool) → f b ≡ x → all f (take (prefix_len f s) s) ≡ true → all f (take (cond x (1 + prefix_len f s) 0) (b ∷ s)) ≡ true
      by true e ih = let k : 1 + prefix_len f s ≡ suc (prefix_len f s) = omega arith in rw (k, e) ih
      by false e ih = refl
