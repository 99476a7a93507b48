-- Lines with the same tokens are read alike; and what a sound line has: allowed bytes only, at most 2,000, and no bad number.
use mathlib.Core.Path.{◌≡◌, refl}
use mathlib.Core.Bool.{Bool, true, false, cond, not}
use mathlib.Core.List.{List}
use Prim.Native.Nat.{ℕ}
use native.Mathlib.Omega.{arith}
use lib.Dec.{ltb}
use lib.ListN.{length}
use borrow.Author.Tests.{ltb-false, le-ltb}
use Rattle.whole.specs.Lists.{all}
use Rattle.text.specs.Token.{allowed, tokens}
use Rattle.std.specs.Prelude.{Ok, Err}
use Rattle.line_codes.specs.declared.Fault.TheVariants.{TooLong, BadByte, NotOneForm, BadNumber, NoShape}
use Rattle.line_codes.specs.Line.{Reading, deepest, one_form, sound_token, reading_of}
use Rattle.line_codes.specs.Alike.{AllowedLine, SameTokensSameReading}
use Rattle.line_codes.proofs.Along.{form_alike}

abbrev first_of : (long bytes form numbers : Bool) → Reading
first_of w x y z = cond w (Err TooLong) (cond (not x) (Err BadByte) (cond (not y) (Err NotOneForm) (cond (not z) (Err BadNumber) (Ok tt))))

passes_by : (s : List ℕ) (w x y z : Bool) → ltb 2000 (length s) ≡ w → all allowed s ≡ x → first_of w x y z ≡ Ok tt → AllowedLine s × (z ≡ true)
passes_by s true x y z e f g =
    let z : ◌≡◌ {A = ℕ} 0 1 = cc in absurd (omega arith)
passes_by s false false y z e f g =
    let z : ◌≡◌ {A = ℕ} 0 1 = cc in absurd (omega arith)
passes_by s false true false z e f g =
    let z : ◌≡◌ {A = ℕ} 0 1 = cc in absurd (omega arith)
passes_by s false true true false e f g =
    let z : ◌≡◌ {A = ℕ} 0 1 = cc in absurd (omega arith)
passes_by s false true true true e f g = (record { long = ltb-false 2000 (length s) e; bytes = f }, refl)

-- no test of the whole line says that it has no shape
shape_by : (w x y z : Bool) → first_of w x y z ≡ Err NoShape → ⊥
shape_by true x y z e =
    let z : ◌≡◌ {A = ℕ} 0 1 = cc in omega arith
shape_by false false y z e =
    let z : ◌≡◌ {A = ℕ} 0 1 = cc in omega arith
shape_by false true false z e =
    let z : ◌≡◌ {A = ℕ} 0 1 = cc in omega arith
shape_by false true true false e =
    let z : ◌≡◌ {A = ℕ} 0 1 = cc in omega arith
shape_by false true true true e =
    let z : ◌≡◌ {A = ℕ} 0 1 = cc in omega arith

pub untested_shape : (s : List ℕ) → reading_of s ≡ Err NoShape → ⊥
unfolding reading_of
untested_shape s = shape_by (ltb 2000 (length s)) (all allowed s) (one_form (deepest (tokens s)) s) (all sound_token (tokens s))

module _ (s : List ℕ) (e : reading_of s ≡ Ok tt) where
  passes : AllowedLine s × (all sound_token (tokens s) ≡ true)
  unfolding reading_of
  passes = passes_by s (ltb 2000 (length s)) (all allowed s) (one_form (deepest (tokens s)) s) (all sound_token (tokens s)) refl refl e

  pub sound_passes : AllowedLine s
  sound_passes = passes.0

  pub sound_numbers : all sound_token (tokens s) ≡ true
  sound_numbers = passes.1

pub reading_alike : SameTokensSameReading
unfolding reading_of
reading_alike a b p q e =
    rw (le-ltb 2000 (length a) p.long, le-ltb 2000 (length b) q.long, p.bytes, q.bytes, e, form_alike (deepest (tokens b)) a b p.bytes q.bytes e)
