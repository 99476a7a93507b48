-- What is left behind some bytes of a text is a tail of it.
use mathlib.Core.Path.{◌≡◌, refl, ap, ◌∙◌}
use mathlib.Core.List.{List, ◌∷◌}
use Prim.Native.Nat.{ℕ, ◌+◌, ◌-◌, ◌≤◌}
use native.Mathlib.Omega.{arith}
use lib.ListN.{length, drop, length-drop}
use lib.Seq.{drop-drop}
use Rattle.text.specs.Front.{TailOf}

drop_tail : (n : ℕ) (s : List ℕ) → n ≤ length s → TailOf (drop n s) s
drop_tail n s p =
    let k : n ≡ length s - length (drop n s) = rw (length-drop n s) (omega arith) in
    ap (λ i. drop i s) k

-- t is a tail of s
module _ (s t : List ℕ) (fits : length t ≤ length s) (tail : TailOf t s) where
  -- and u what is left of t behind m bytes
  pub left_tail : (m : ℕ) (u : List ℕ) → m ≤ length t → u ≡ drop m t → TailOf u s
  left_tail m u p e =
      let k = length s - length t in
      let both : u ≡ drop (k + m) s = e ∙ ap (drop m) tail ∙ drop-drop m k s in
      rw both (drop_tail (k + m) s (omega arith))

  pub behind_tail : (b : ℕ) (u : List ℕ) → t ≡ b ∷ u → TailOf u s
  behind_tail b u front = left_tail 1 u (rw front (omega arith)) (rw front refl)

-- a tail is no longer than the whole
pub tail_fits : (r s : List ℕ) → TailOf r s → length r ≤ length s
tail_fits r s e = omega (arith, ap length e, length-drop (length s - length r) s)

-- a tail of a tail is a tail
pub tail_tail : (s t u : List ℕ) → TailOf t s → TailOf u t → TailOf u s
tail_tail s t u e f = left_tail s t (tail_fits t s e) e (length t - length u) u (omega arith) f
