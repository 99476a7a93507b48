-- The tests 10 to 13 in their order.
use mathlib.Core.Path.{◌≡◌, refl, sym, ◌∙◌}
use mathlib.Core.Bool.{Bool, true, false, not, cond}
use mathlib.Core.List.{List}
use Prim.Native.Nat.{ℕ, ◌≤◌, ◌<◌}
use native.Mathlib.Omega.{arith}
use lib.Dec.{ltb}
use lib.ListN.{length, take}
use lib.Seq.{length-take-le}
use borrow.Author.Tests.{lt-ltb, le-ltb, ltb-false}
use Rattle.whole.specs.Lists.{all}
use Rattle.std.specs.Prelude.{Option, Some, None, Ok, Err}
use Rattle.line_codes.specs.declared.Fault.{Fault}
use Rattle.line_codes.specs.declared.Fault.TheVariants.{TooLong, BadByte, NotOneForm, BadNumber}
use Rattle.text.specs.Token.{allowed, tokens}
use Rattle.line_codes.specs.Alike.{AllowedLine}
use Rattle.line_codes.specs.Parts.{bytes_tested}
use Rattle.line_codes.specs.Line.{Reading, tested, deepest, one_form, sound_token, reading_of}

-- the fault that a walk says, if any
abbrev pub by_walk : Option Bool → Reading
by_walk None = Err NotOneForm
by_walk (Some sound) = tested BadNumber sound

module _ (s : List ℕ) where
  pub too_long : 2000 < length s → reading_of s ≡ (Err TooLong)
  unfolding reading_of
  too_long p = rw (lt-ltb 2000 (length s) p)

  -- what one walk finds of a line whose bytes pass their tests
  module _ (l : AllowedLine s) where
    walk_by : (x y : Bool) (w : Option Bool) → one_form (deepest (tokens s)) s ≡ x → all sound_token (tokens s) ≡ y → cond x (Some y) None ≡ w → reading_of s ≡ by_walk w
    unfolding reading_of
    walk_by true y w e f g = rw (le-ltb 2000 (length s) l.long, l.bytes, e, f, ← g) (tests y)
      where
        tests : (y : Bool) → cond (not y) (Err BadNumber) (Ok tt) ≡ tested BadNumber y
        tests true = refl
        tests false = refl
    walk_by false y w e f g = rw (le-ltb 2000 (length s) l.long, l.bytes, e, ← g) refl

    pub walk_reads : (w : Option Bool) → w ≡ cond (one_form (deepest (tokens s)) s) (Some (all sound_token (tokens s))) None → reading_of s ≡ by_walk w
    walk_reads w e = walk_by (one_form (deepest (tokens s)) s) (all sound_token (tokens s)) w refl refl (sym e)

  -- what the tests of the bytes find
  pub bytes_pass : (u : Unit {0}) → bytes_tested s ≡ Ok u → AllowedLine s
  bytes_pass u = by (ltb 2000 (length s)) (all allowed s) refl refl
    where
      by : (x y : Bool) → ltb 2000 (length s) ≡ x → all allowed s ≡ y → cond x (Err TooLong) (tested BadByte y) ≡ Ok u → AllowedLine s
      by true y e f g = let z : ◌≡◌ {A = ℕ} 0 1 = cc in absurd (omega arith)
      by false true e f g = record { long = ltb-false 2000 (length s) e; bytes = f }
      by false false e f g = let z : ◌≡◌ {A = ℕ} 0 1 = cc in absurd (omega arith)

  pub bytes_fail : (f : Fault) → bytes_tested s ≡ Err f → reading_of s ≡ Err f
  unfolding reading_of
  bytes_fail f = by (ltb 2000 (length s)) (all allowed s) _
    where
      by : (x y : Bool) (next : Reading) → cond x (Err TooLong) (tested BadByte y) ≡ Err f → cond x (Err TooLong) (cond (not y) (Err BadByte) next) ≡ Err f
      by true y next g = g
      by false true next g = let z : ◌≡◌ {A = ℕ} 0 1 = cc in absurd (omega arith)
      by false false next g = g

  module _ (p : length s ≤ 2000) where
    pub bad_byte : all allowed s ≡ false → reading_of s ≡ (Err BadByte)
    unfolding reading_of
    bad_byte a = rw (le-ltb 2000 (length s) p, a)

    pub is_sound : all allowed s ≡ true → one_form (deepest (tokens s)) s ≡ true → all sound_token (tokens s) ≡ true → reading_of s ≡ (Ok tt)
    unfolding reading_of
    is_sound a b d = rw (le-ltb 2000 (length s) p, a, b, d)

-- of a line that is too long its first 2,001 bytes are enough
pub first_bytes : (s : List ℕ) → 2000 < length s → reading_of s ≡ reading_of (take 2001 s)
first_bytes s p = too_long s p ∙ sym (too_long (take 2001 s) (omega (arith, length-take-le 2001 s (omega arith))))
