-- A hold that was read has six places for parts of eight places for cells each, and a column ten KN.
use mathlib.Core.Path.{◌≡◌, refl}
use mathlib.Core.List.{List, [], ◌∷◌, ◌++◌}
use Prim.Native.Nat.{ℕ, zero, suc, ◌+◌, ◌-◌, ◌≤◌, ◌<◌}
use native.Mathlib.Omega.{arith}
use lib.ListN.{length, get_or, replicate, length-append, length-replicate, get_or-replicate}
use Rattle.record.specs.declared.Mode.{Mode}
use Rattle.record.specs.declared.Cell.{Cell}
use Rattle.record.specs.declared.Part.{Part}
use Rattle.record.specs.Filler.{no_cell, no_part, padded}
use Rattle.text.specs.Token.{Token}
use Rattle.record.specs.declared.Hold.{Hold}
use Rattle.std.specs.Prelude.{Some}
use Rattle.forms.specs.declared.Request.{Request}
use Rattle.forms.specs.declared.Request.TheVariants.{ShipLine, ColumnLine, LoadLine, HoldLine, DropLine, JudgeLine, ClearLine, ShowLine, TotalLine, WeighingLine}
use Rattle.forms.proofs.Forms.{NoHold}
use Rattle.parts.specs.Shape.{section_record}
use Rattle.forms.specs.Shape.{hold_record}
use Rattle.request.specs.Shape.{request_of}
use Rattle.items.proofs.Yields.{Each, Several}
use Rattle.parts.proofs.Tidy.{part_yields}
use Rattle.request.proofs.Lines.{request_has}

-- ---- a list in the first of n places
module _ {A : Type 0} (d : A) where
  padded_length : (n : ℕ) (xs : List A) → length xs ≤ n → length (padded n d xs) ≡ n
  unfolding padded
  padded_length n xs h = simp (length-append, length-replicate) (omega arith)

  -- what holds of each of the list and of the filler holds at every place
  module _ (P : A → Type 0) (filler : P d) where
    filled : (xs : List A) (m : ℕ) → Each P xs → (i : ℕ) → i < length xs + m → (e : A) → P (get_or (xs ++ replicate m d) i e)
    filled [] m p i h e = rw (get_or-replicate m i d e (omega arith)) filler
    filled (x ∷ xs) m p zero h e = p.0
    filled (x ∷ xs) m p (suc i) h e = filled xs m p.1 i (omega arith) e

    padded_each : (n : ℕ) (xs : List A) → Each P xs → (i : ℕ) → i < n → (e : A) → P (get_or (padded n d xs) i e)
    unfolding padded
    padded_each n xs p i h e = filled xs (n - length xs) p i (omega arith) e

-- ---- a part has eight places
abbrev Eight : Part → Type 0
Eight p = length p.cells ≡ 8

section_eight : (v : ℕ) (cs : List Cell) → length cs ≤ 8 → Eight (section_record v cs)
section_eight v cs h = padded_length no_cell 8 cs h

-- ---- a request
pub record SixPlaces (h : Hold) : Type 0 where
  pub parts : length h.parts ≡ 6
  pub cells : (i : ℕ) → i < 6 → (p : Part) → length (get_or h.parts i p).cells ≡ 8

abbrev pub Sized : Request → Type 0
Sized (HoldLine n h) = SixPlaces h
Sized (ColumnLine k) = length k.kn ≡ 10
Sized (ShipLine s) = Unit {0}
Sized (LoadLine l) = Unit {0}
Sized (DropLine n) = Unit {0}
Sized JudgeLine = Unit {0}
Sized ClearLine = Unit {0}
Sized ShowLine = Unit {0}
Sized TotalLine = Unit {0}
Sized (WeighingLine w) = Unit {0}

hold_sized : (n : ℕ) (m : Mode) (factor : ℕ) (ps : List Part) → Several Eight 6 ps → Sized (HoldLine n (hold_record m factor ps))
hold_sized n m factor ps s =
    record {
      parts = padded_length no_part 6 ps s.most;
      cells = padded_each no_part Eight refl 6 ps s.every;
    }

no_hold_sized : (r : Request) → NoHold r → Sized r
no_hold_sized (ShipLine s) h = tt
no_hold_sized (ColumnLine k) h = h
no_hold_sized (LoadLine l) h = tt
no_hold_sized (HoldLine n k) h = absurd h
no_hold_sized (DropLine n) h = tt
no_hold_sized JudgeLine h = tt
no_hold_sized ClearLine h = tt
no_hold_sized ShowLine h = tt
no_hold_sized TotalLine h = tt
no_hold_sized (WeighingLine w) h = tt

pub request_sized : (ts : List Token) (r : Request) → request_of ts ≡ Some r → Sized r
request_sized =
    request_has Sized (λ m. Eight)
    (part_yields (λ m. Eight) section_eight section_eight (λ n s. padded_length no_cell 8 [] (omega arith))) hold_sized no_hold_sized
