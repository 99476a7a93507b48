-- A hold as it is read back: what is printed of it, and fillers elsewhere. It is the same hold, and passes the tests that the hold passes.
use mathlib.Core.Path.{◌≡◌, refl, ◌∙◌}
use mathlib.Core.Bool.{Bool, true, false, cond}
use mathlib.Core.List.{List, [], ◌∷◌, map}
use Prim.Native.Nat.{ℕ, zero, suc, ◌<◌}
use native.Mathlib.Omega.{arith}
use lib.ListN.{length, get_or, length-map, get_or-map, get_or-append}
use lib.Seq.{length-take-le, get_or-take}
use borrow.Author.Tests.{ltb-false}
use Rattle.whole.proofs.Lists.{get_d_any}
use Rattle.record.specs.declared.Mode.{Mode}
use Rattle.record.specs.declared.Mode.TheVariants.{Trimmed, Voided, Partial}
use Rattle.record.specs.declared.Part.{Part}
use Rattle.record.specs.declared.Hold.{Hold}
use Rattle.record.specs.Filler.{no_part, no_hold, padded}
use Rattle.record.specs.Held.{cells_of, parts_of}
use Rattle.record.proofs.Taken.{cells_length}
use Rattle.limits.specs.Ranges.{SectionRange, PartRange}
use Rattle.limits.proofs.Ranges.{hold_range}
use Rattle.grain.specs.Sum.{part_fits, hold_fits}
use Rattle.items.proofs.Kept.{same_all}
use Rattle.items.proofs.Yields.{Each, Several}
use Rattle.parts.specs.Shape.{section_record, slack_part}
use Rattle.parts.proofs.Tidy.{padded_front, section_cells}
use Rattle.forms.specs.Shape.{hold_record}
use Rattle.condition.specs.Condition.{is_held}
use Rattle.operations.proofs.Effects.{HoldPassed}
use Rattle.sending.specs.Sending.{SamePart, SameHold}

abbrev pub refilled_part : Mode → Part → Part
refilled_part Trimmed p = section_record p.length (cells_of p)
refilled_part Voided p = section_record p.length (cells_of p)
refilled_part Partial p = slack_part p.length p.slack

abbrev pub refilled : Hold → Hold
refilled h = hold_record h.head.mode h.head.factor (map (refilled_part h.head.mode) (parts_of h))

abbrev pub refilled_place : Hold → Hold
refilled_place h = cond (is_held h) (refilled h) no_hold

-- a part in its ranges, with eight places
pub record GoodPart (m : Mode) (p : Part) : Type 0 where
  pub range : PartRange m p
  pub places : length p.cells ≡ 8

-- a hold that is taken at place n, with six places, each part with its own
pub record GoodHold (n : ℕ) (h : Hold) : Type 0 where
  pub passed : HoldPassed n h
  pub places : length h.parts ≡ 6
  pub parts : Several (GoodPart h.head.mode) 6 (parts_of h)

-- ---- it is the same
same_part : (m : Mode) (p : Part) → SamePart m p (refilled_part m p)
same_part Trimmed p = (refl, section_cells p.length (cells_of p))
same_part Voided p = (refl, section_cells p.length (cells_of p))
same_part Partial p = (refl, refl)

module _ (n : ℕ) (h : Hold) where
  same_hold : GoodHold n h → SameHold h (refilled h)
  unfolding padded
  same_hold g =
      let f = refilled_part h.head.mode in
      let ps = parts_of h in
      let r = (hold_range h).0 g.passed.limits in
      let k = length-take-le h.head.count h.parts (omega (arith, g.places)) in
      let l = length-map ps f in
      record {
        count = l ∙ k;
        head = λ e. rw (l, k);
        parts = λ i b.
            rw (get_or-append (map f ps) _ no_part i (omega arith), get_d_any (map f ps) i no_part (f no_part) (omega arith), get_or-map f ps i no_part, get_or-take h.head.count h.parts i no_part b)
            (same_part h.head.mode (get_or h.parts i no_part));
      }

  pub same_place : (is_held h ≡ true → GoodHold n h) → SameHold h (refilled_place h)
  same_place g = by (is_held h) refl
    where
      by : (x : Bool) → is_held h ≡ x → SameHold h (cond x (refilled h) no_hold)
      by true e = same_hold (g e)
      by false e =
          let z = ltb-false 0 h.head.count e in
          record { count = omega arith; head = λ p. absurd (omega arith); parts = λ i p. absurd (omega arith) }

-- ---- its ranges
section_range : (p : Part) → SectionRange p → length p.cells ≡ 8 → SectionRange (section_record p.length (cells_of p))
section_range p r n =
    let l = cells_length p (omega arith) in
    rw (section_cells p.length (cells_of p), l) (rw l at r)

part_range : (m : Mode) (p : Part) → GoodPart m p → PartRange m (refilled_part m p)
part_range Trimmed p g = section_range p g.range g.places
part_range Voided p g = section_range p g.range g.places
part_range Partial p g = g.range

mapped_at : {A B : Type 0} {P : A → Type 0} (Q : B → Type 0) (f : A → B) → ((x : A) → P x → Q (f x)) → (l : List A) (d : B) → Each P l → (i : ℕ) → i < length (map f l) → Q (get_or (map f l) i d)
mapped_at Q f g [] d p i h = absurd (omega arith)
mapped_at Q f g (x ∷ l) d p zero h = g x p.0
mapped_at Q f g (x ∷ l) d p (suc i) h = mapped_at Q f g l d p.1 i (omega arith)

-- ---- its fit
part_fits_lem : (m : Mode) (p : Part) → part_fits m (refilled_part m p) ≡ part_fits m p
part_fits_lem Trimmed p = rw (section_cells p.length (cells_of p))
part_fits_lem Voided p = rw (section_cells p.length (cells_of p))
part_fits_lem Partial p = refl

refilled_parts : (h : Hold) → parts_of (refilled h) ≡ map (refilled_part h.head.mode) (parts_of h)
refilled_parts h = let ps = map (refilled_part h.head.mode) (parts_of h) in padded_front 6 no_part ps (length ps) refl

pub refilled_passes : (n : ℕ) (h : Hold) → GoodHold n h → HoldPassed n (refilled h)
unfolding hold_fits
refilled_passes n h g =
    let m = h.head.mode in
    let r = (hold_range h).0 g.passed.limits in
    let s = g.parts in
    let l = length-map (parts_of h) (refilled_part m) in
    record {
      place = g.passed.place;
      limits = (hold_range (refilled h)).1 (omega arith, omega arith, r.2, r.3, rw (refilled_parts h) (mapped_at (PartRange m) (refilled_part m) (part_range m) (parts_of h) no_part s.every));
      fits = rw (refilled_parts h) (same_all (part_fits m) (refilled_part m) (part_fits_lem m) (parts_of h) ∙ g.passed.fits);
    }
