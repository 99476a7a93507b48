-- Laws of flags: what a comparison of lanes gives, and flags that are joined.
use mathlib.Core.Path.{◌≡◌, refl, sym, ap, ◌∙◌}
use mathlib.Core.Bool.{Bool, true, false, cond, not, ◌&&◌, ◌||◌}
use mathlib.Core.List.{List, [], ◌∷◌, map}
use Prim.Native.Nat.{ℕ, zero, suc, ◌%◌, ◌^◌, ◌≤◌, ◌<◌, min, max}
use native.Mathlib.Decide.{dec_lt}
use native.Mathlib.Omega.{arith}
use lib.Dec.{leb, eqb}
use lib.ListN.{length, get_or, replicate}
use lib.Lanes.{zip2, mask_l, top}
use mir.Syntax.{w8, w64}
use Rattle.std.specs.Int.{bit_at, trailing_ones}
use Rattle.std.specs.Prelude.{bit_and, bit_or}
use Rattle.std.specs.List.{prefix_len}
use Rattle.std.proofs.lemmas.List.{length-map}
use Rattle.std.proofs.lemmas.List.Sums.{prefix_len_is}
use Rattle.std.proofs.lemmas.Nat.Bits.{bit_at_and, bit_at_or, bit_at-trailing_ones, same_from_bits}
use Rattle.std.proofs.lemmas.Simd.{tops_compared, zip2_splat_left, bitmask_splat, mask_l-lt, mask_l-mod, bit_mask_l}
use Rattle.lanes.specs.Flags.{flags}

-- ---- a comparison with one byte in all lanes
module _ (y : ℕ) (v : List ℕ) (long : length v ≡ 8) where
  pub low_flags : mask_l (map (top 7) (zip2 (λ a b. cond (leb a b) 255 0) (replicate 8 y) v)) % 2 ^ 64 ≡ flags (λ b. leb y b) v
  unfolding flags
  low_flags =
      ap (λ ms. mask_l ms % 2 ^ 64) (tops_compared w8 leb (replicate 8 y) v ∙ zip2_splat_left leb y 8 v long)
      ∙ mask_l-mod (map (λ b. leb y b) v) 64 (omega (arith, length-map v (λ b. leb y b)))

  pub high_flags : mask_l (map (top 7) (zip2 (λ a b. cond (leb a b) 255 0) v (replicate 8 y))) % 2 ^ 64 ≡ flags (λ b. leb b y) v
  unfolding flags
  high_flags = bitmask_splat w8 leb v 8 y long (omega arith)

  pub same_flags : mask_l (map (top 7) (zip2 (λ a b. cond (eqb a b) 255 0) v (replicate 8 y))) % 2 ^ 64 ≡ flags (λ b. eqb b y) v
  unfolding flags
  same_flags = bitmask_splat w8 eqb v 8 y long (omega arith)

  pub differ_flags : mask_l (map (top 7) (zip2 (λ a b. cond (not (eqb a b)) 255 0) v (replicate 8 y))) % 2 ^ 64 ≡ flags (λ b. not (eqb b y)) v
  unfolding flags
  differ_flags = bitmask_splat w8 (λ a b. not (eqb a b)) v 8 y long (omega arith)

-- ---- bit k tells of lane k
abbrev bit : Bool → ℕ
bit x = cond x 1 0

pub flag_at : (f : ℕ → Bool) (v : List ℕ) (k : ℕ) → bit_at (flags f v) k ≡ bit (get_or (map f v) k false)
unfolding flags
flag_at f v k = bit_mask_l (map f v) k

outer : (f : ℕ → Bool) (v : List ℕ) (k : ℕ) → length v ≤ k → get_or (map f v) k false ≡ false
outer f [] k h = refl
outer f (b ∷ v) zero h = absurd (omega arith)
outer f (b ∷ v) (suc k) h = outer f v k (omega arith)

module _ (f g : ℕ → Bool) where
  both_at : (v : List ℕ) (k : ℕ) → min (bit (get_or (map f v) k false)) (bit (get_or (map g v) k false)) ≡ bit (get_or (map (λ b. f b && g b) v) k false)
  both_at [] k = refl
  both_at (b ∷ v) zero = by (f b) (g b)
    where
      by : (x y : Bool) → min (bit x) (bit y) ≡ bit (x && y)
      by true true = refl
      by true false = refl
      by false true = refl
      by false false = refl
  both_at (b ∷ v) (suc k) = both_at v k

  pub both_flags : (v : List ℕ) → bit_and (flags f v) (flags g v) ≡ flags (λ b. f b && g b) v
  both_flags v = same_from_bits _ _ (λ k. bit_at_and (flags f v) (flags g v) k ∙ rw (flag_at f v k, flag_at g v k, flag_at (λ b. f b && g b) v k) (both_at v k))

  either_at : (v : List ℕ) (k : ℕ) → max (bit (get_or (map f v) k false)) (bit (get_or (map g v) k false)) ≡ bit (get_or (map (λ b. f b || g b) v) k false)
  either_at [] k = refl
  either_at (b ∷ v) zero = by (f b) (g b)
    where
      by : (x y : Bool) → max (bit x) (bit y) ≡ bit (x || y)
      by true true = refl
      by true false = refl
      by false true = refl
      by false false = refl
  either_at (b ∷ v) (suc k) = either_at v k

  pub either_flags : (v : List ℕ) → bit_or (flags f v) (flags g v) ≡ flags (λ b. f b || g b) v
  either_flags v = same_from_bits _ _ (λ k. bit_at_or (flags f v) (flags g v) k ∙ rw (flag_at f v k, flag_at g v k, flag_at (λ b. f b || g b) v k) (either_at v k))

pub either_three : (f g h : ℕ → Bool) (v : List ℕ) → bit_or (bit_or (flags f v) (flags g v)) (flags h v) ≡ flags (λ b. f b || g b || h b) v
either_three f g h v = rw (either_flags f g v) (either_flags (λ b. f b || g b) h v)

pub either_four : (f g h k : ℕ → Bool) (v : List ℕ) → bit_or (bit_or (bit_or (flags f v) (flags g v)) (flags h v)) (flags k v) ≡ flags (λ b. f b || g b || h b || k b) v
either_four f g h k v = rw (either_three f g h v) (either_flags (λ b. f b || g b || h b) k v)

module _ (f : ℕ → Bool) where
  inner : (v : List ℕ) (k : ℕ) → k < length v → get_or (map f v) k false ≡ f (get_or v k 0)
  inner [] k h = absurd (omega arith)
  inner (b ∷ v) zero h = refl
  inner (b ∷ v) (suc k) h = inner v k (omega arith)

  -- ---- how many lanes in front pass
  module _ (v : List ℕ) (long : length v ≡ 8) (m n : ℕ) (e : m ≡ flags f v) (ones : n ≡ trailing_ones w64 m) where
    small : flags f v < 2 ^ 8
    unfolding flags
    small = rw (length-map v f, long) at (mask_l-lt (map f v))

    counted : (bit_at (flags f v) n ≡ 0) × ((i : ℕ) → i < n → bit_at (flags f v) i ≡ 1)
    counted = let h = bit_at-trailing_ones w64 (flags f v) (omega (arith, small)) in rw (ones, e) (h.1, h.2)

    within : Dec (8 < n) → n ≤ 8
    within (yes h) = absurd (omega (arith, counted.1 8 h, flag_at f v 8, ap bit (outer f v 8 (omega arith))))
    within (no h) = omega arith

    set : (x : Bool) → bit x ≡ 1 → x ≡ true
    set true h = refl
    set false h = absurd (omega arith)

    unset : (x : Bool) → bit x ≡ 0 → x ≡ false
    unset true h = absurd (omega arith)
    unset false h = refl

    pub flags_in_front : n ≡ prefix_len f v
    flags_in_front =
        let fits = within (dec_lt 8 n) in
        sym (prefix_len_is f v n 0 (omega arith)
        (λ k h. sym (inner v k (omega arith)) ∙ set _ (sym (flag_at f v k) ∙ counted.1 k h))
        (λ h. sym (inner v n h) ∙ unset _ (sym (flag_at f v n) ∙ counted.0)))
