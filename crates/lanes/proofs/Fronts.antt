-- All bytes pass where as many pass in front as there are; and where eights pass, and the last eight.
use mathlib.Core.Path.{◌≡◌, refl, sym, ap, ◌∙◌}
use mathlib.Core.Bool.{Bool, true, false, cond, ◌&&◌, and_assoc}
use mathlib.Core.List.{List, [], ◌∷◌}
use Prim.Native.Nat.{ℕ, zero, suc, ◌+◌, ◌-◌, ◌≤◌, ◌<◌}
use native.Mathlib.Omega.{arith}
use lib.Dec.{eqb}
use lib.ListN.{length, take, drop, take-append-drop}
use Rattle.std.proofs.Math.Dec.{eqb-zero-suc, eqb-suc-suc}
use Rattle.std.specs.List.{list_all, prefix_len}
use Rattle.std.proofs.lemmas.List.Folds.{list_all-append}
use Rattle.whole.proofs.Lists.{and_true, and_false}

pub all_in_front : (f : ℕ → Bool) (l : List ℕ) → eqb (prefix_len f l) (length l) ≡ list_all f l
all_in_front f [] = refl
all_in_front f (b ∷ l) = by (f b) (all_in_front f l)
  where
    by : (x : Bool) → eqb (prefix_len f l) (length l) ≡ list_all f l → eqb (cond x (1 + prefix_len f l) 0) (suc (length l)) ≡ (x && list_all f l)
    by true e = let n : 1 + prefix_len f l ≡ suc (prefix_len f l) = omega arith in rw (n, eqb-suc-suc (prefix_len f l) (length l)) e
    by false e = eqb-zero-suc (length l)

-- ---- eights
module _ (f : ℕ → Bool) where
  shorter : (m k : ℕ) (s : List ℕ) → m ≤ k → list_all f (take k s) ≡ true → list_all f (take m s) ≡ true
  shorter zero k s h e = refl
  shorter (suc m) zero s h e = absurd (omega arith)
  shorter (suc m) (suc k) [] h e = refl
  shorter (suc m) (suc k) (b ∷ s) h e =
      let t = and_true (f b) (list_all f (take k s)) e in rw t.0 (shorter m k s (omega arith) t.1)

  in_two : (k : ℕ) (s : List ℕ) → list_all f s ≡ (list_all f (take k s) && list_all f (drop k s))
  in_two k s = ap (list_all f) (sym (take-append-drop k s)) ∙ list_all-append f (take k s) (drop k s)

  -- eight more behind the first k
  more : (k : ℕ) (s : List ℕ) → list_all f (take (k + 8) s) ≡ (list_all f (take k s) && list_all f (take 8 (drop k s)))
  more zero s = refl
  more (suc k) [] = let n : suc k + 8 ≡ suc (k + 8) = omega arith in rw n refl
  more (suc k) (b ∷ s) =
      let n : suc k + 8 ≡ suc (k + 8) = omega arith in
      rw (n, more k s) (sym (and_assoc (f b) (list_all f (take k s)) (list_all f (take 8 (drop k s)))))

  pub eight_passes : (k : ℕ) (s : List ℕ) → list_all f (take k s) ≡ true → list_all f (take 8 (drop k s)) ≡ true → list_all f (take (k + 8) s) ≡ true
  eight_passes k s p q = more k s ∙ rw (p, q) refl

  pub eight_stops : (k m : ℕ) (s : List ℕ) → k + 8 ≤ m → list_all f (take 8 (drop k s)) ≡ false → list_all f (take m s) ≡ false
  eight_stops k m s h e = by (list_all f (take m s)) refl
    where
      by : (x : Bool) → list_all f (take m s) ≡ x → x ≡ false
      by true p = sym (shorter (k + 8) m s h p) ∙ more k s ∙ rw e (and_false (list_all f (take k s)))
      by false p = refl

  pub front_stops : (m : ℕ) (s : List ℕ) → list_all f (take m s) ≡ false → list_all f s ≡ false
  front_stops m s e = in_two m s ∙ rw e refl

  -- the last eight
  pub last_eight : (k : ℕ) (s : List ℕ) → length s < k + 8 → list_all f (take k s) ≡ true → list_all f (drop (length s - 8) s) ≡ list_all f s
  last_eight k s h p = sym (in_two (length s - 8) s ∙ rw (shorter (length s - 8) k s (omega arith) p) refl)
