-- Spaces are free but inside a run: a space more changes neither the tests of a line nor its tokens.
use mathlib.Core.Path.{◌≡◌, refl, sym, ◌∙◌}
use mathlib.Core.Bool.{Bool, true, false, ◌&&◌}
use mathlib.Core.List.{List, [], ◌∷◌, ◌++◌}
use Prim.Native.Nat.{ℕ, suc, ◌-◌, ◌≤◌, ◌<◌}
use native.Mathlib.Omega.{arith}
use lib.ListN.{length, get_or, length-append}
use Rattle.whole.specs.Lists.{within, all}
use Rattle.whole.proofs.Lists.{and_false, all_append}
use Rattle.text.specs.Token.{allowed, starts_run, tokens}
use Rattle.line_codes.specs.Line.{reading_of}
use Rattle.line_codes.specs.Codes.{LetterOrDigit}
use Rattle.text.proofs.Parts.{tokens_space, ends, tokens_append}
use Rattle.line_codes.proofs.Alike.{reading_alike}
use Rattle.line_codes.proofs.Bytes.{of_run_lem}
use Rattle.line_codes.proofs.Order.{bad_byte}

module _ (a b : List ℕ) where
  pub tokens_free : (ends a && starts_run b) ≡ false → tokens (a ++ 32 ∷ b) ≡ tokens (a ++ b)
  unfolding within
  tokens_free e = tokens_append a (32 ∷ b) (and_false (ends a)) ∙ rw (tokens_space b) (sym (tokens_append a b e))

  allowed_free : all allowed (a ++ 32 ∷ b) ≡ all allowed (a ++ b)
  unfolding all within
  allowed_free = all_append allowed a (32 ∷ b) ∙ sym (all_append allowed a b)

  pub reading_free : (ends a && starts_run b) ≡ false → length (a ++ b) < 2000 → reading_of (a ++ 32 ∷ b) ≡ reading_of (a ++ b)
  reading_free e h = by (all allowed (a ++ b)) refl
    where
      long : length (a ++ 32 ∷ b) ≤ 2000
      long = omega (arith, length-append a (32 ∷ b), length-append a b)

      by : (x : Bool) → all allowed (a ++ b) ≡ x → reading_of (a ++ 32 ∷ b) ≡ reading_of (a ++ b)
      by true p = reading_alike (a ++ 32 ∷ b) (a ++ b) (record { long = long; bytes = allowed_free ∙ p }) (record { long = omega arith; bytes = p }) (tokens_free e)
      by false p = bad_byte (a ++ 32 ∷ b) long (allowed_free ∙ p) ∙ sym (bad_byte (a ++ b) (omega arith) p)

-- ---- not both a ends and b begins with a letter or digit
ends_some : (a : List ℕ) → ends a ≡ true → (0 < length a) × LetterOrDigit (get_or a (length a - 1) 0)
unfolding ends
ends_some [] e = let z : ◌≡◌ {A = ℕ} 0 1 = cc in absurd (omega arith)
ends_some (x ∷ []) e = (omega arith, of_run_lem x e)
ends_some (x ∷ y ∷ s) e =
    let i : length (x ∷ y ∷ s) - 1 ≡ suc (length (y ∷ s) - 1) = omega arith in
    (omega arith, rw i (ends_some (y ∷ s) e).1)

starts_some : (b : List ℕ) → starts_run b ≡ true → (0 < length b) × LetterOrDigit (get_or b 0 0)
starts_some [] e = let z : ◌≡◌ {A = ℕ} 0 1 = cc in absurd (omega arith)
starts_some (x ∷ s) e = (omega arith, of_run_lem x e)

pub not_inside : (a b : List ℕ) → (0 < length a → 0 < length b → LetterOrDigit (get_or a (length a - 1) 0) → LetterOrDigit (get_or b 0 0) → ⊥) → (ends a && starts_run b) ≡ false
not_inside a b f = by (ends a) (starts_run b) refl refl
  where
    by : (x y : Bool) → ends a ≡ x → starts_run b ≡ y → (x && y) ≡ false
    by true true p q = let t = ends_some a p in let u = starts_some b q in absurd (f t.0 u.0 t.1 u.1)
    by true false p q = refl
    by false y p q = refl
