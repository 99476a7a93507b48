-- What the grammar yields: a hold whose unused fields are 0 and whose unused places are fillers, so that it is carried as it is
-- within its limits.
use mathlib.Core.Path.{◌≡◌, refl}
use mathlib.Core.Bool.{true}
use mathlib.Core.List.{List}
use Prim.Native.Nat.{ℕ}
use native.Mathlib.Omega.{arith}
use lib.ListN.{length}
use Rattle.whole.specs.Lists.{within, all}
use Rattle.whole.proofs.Lists.{and_true}
use Rattle.record.specs.declared.Mode.{Mode}
use Rattle.record.specs.declared.Part.{Part}
use Rattle.record.specs.Filler.{no_part}
use Rattle.limits.specs.Limits.{part_limits, hold_limits}
use Rattle.text.specs.Token.{Token}
use Rattle.items.proofs.Kept.{kept_within}
use Rattle.items.proofs.Yields.{Each, Several}
use Rattle.parts.specs.Carried.{carried_part}
use Rattle.parts.proofs.Tidy.{kept_padded, padded_front, kept_each, KeptPart, part_tidy}
use Rattle.record.specs.declared.Hold.{Hold}
use Rattle.std.specs.Prelude.{Some}
use Rattle.forms.specs.declared.Request.{Request}
use Rattle.forms.specs.declared.Request.TheVariants.{ShipLine, ColumnLine, LoadLine, HoldLine, DropLine, JudgeLine, ClearLine, ShowLine, TotalLine, WeighingLine}
use Rattle.forms.proofs.Forms.{NoHold}
use Rattle.forms.specs.Shape.{hold_record}
use Rattle.request.specs.Shape.{request_of}
use Rattle.forms.specs.Carried.{carried_hold}
use Rattle.request.proofs.Lines.{request_has}

-- ---- a hold of such parts
hold_stays : (m : Mode) (factor : ℕ) (ps : List Part) → Each (KeptPart m) ps → hold_limits (hold_record m factor ps) ≡ true → carried_hold (hold_record m factor ps) ≡ hold_record m factor ps
unfolding hold_limits
hold_stays m factor ps each e =
    let front = padded_front 6 no_part ps (length ps) refl in
    let inside = and_true (within 1 6 (length ps)) _ (rw front at e) in
    let t = and_true (within 5000 40000 factor) (all (part_limits m) ps) inside.1 in
    let parts = kept_padded carried_part no_part refl 6 ps (kept_each (part_limits m) carried_part ps each t.1) in
    rw (kept_within 5000 40000 factor (omega arith) t.0, parts)

-- ---- a request: its hold is kept within its limits
abbrev Tidy : Request → Type 0
Tidy (HoldLine n h) = hold_limits h ≡ true → carried_hold h ≡ h
Tidy (ShipLine s) = Unit {0}
Tidy (ColumnLine k) = Unit {0}
Tidy (LoadLine l) = Unit {0}
Tidy (DropLine n) = Unit {0}
Tidy JudgeLine = Unit {0}
Tidy ClearLine = Unit {0}
Tidy ShowLine = Unit {0}
Tidy TotalLine = Unit {0}
Tidy (WeighingLine w) = Unit {0}

hold_tidy : (n : ℕ) (m : Mode) (factor : ℕ) (ps : List Part) → Several (KeptPart m) 6 ps → Tidy (HoldLine n (hold_record m factor ps))
hold_tidy n m factor ps s = hold_stays m factor ps s.every

-- any other line has no hold
unheld : (r : Request) → NoHold r → Tidy r
unheld (ShipLine s) h = tt
unheld (ColumnLine k) h = tt
unheld (LoadLine l) h = tt
unheld (HoldLine n k) h = absurd h
unheld (DropLine n) h = tt
unheld JudgeLine h = tt
unheld ClearLine h = tt
unheld ShowLine h = tt
unheld TotalLine h = tt
unheld (WeighingLine w) h = tt

request_tidy : (ts : List Token) (r : Request) → request_of ts ≡ Some r → Tidy r
request_tidy = request_has Tidy KeptPart part_tidy hold_tidy unheld

-- a hold that is read is carried as it is within its limits
pub kept_hold : (ts : List Token) (n : ℕ) (h : Hold) → request_of ts ≡ Some (HoldLine n h) → hold_limits h ≡ true → carried_hold h ≡ h
kept_hold ts n h = request_tidy ts (HoldLine n h)
