-- What a field carries serves the limits: no test sees the difference, and a ship, load, column or weight item within its limits is carried as it is. For a
-- hold see request/proofs/Tidy.antt.
use mathlib.Core.Path.{◌≡◌, refl, sym, ◌∙◌}
use mathlib.Core.Bool.{true}
use Prim.Native.Nat.{ℕ, zero, suc}
use native.Mathlib.Omega.{arith}
use lib.Dec.{eqb}
use Rattle.std.proofs.lemmas.List.{take-map}
use lib.ListN.{get_or, get_or-map}
use borrow.Author.Tests.{ne_eqb}
use Rattle.whole.specs.Lists.{within, all}
use Rattle.whole.proofs.Lists.{and_true}
use Rattle.record.specs.declared.Rule.{Rule}
use Rattle.record.specs.declared.Rule.TheVariants.{New, Old}
use Rattle.record.specs.declared.Ship.{Ship}
use Rattle.record.specs.declared.Load.{Load}
use Rattle.record.specs.declared.Column.{Column}
use Rattle.record.specs.declared.Hold.{Hold}
use Rattle.record.specs.declared.WeightItem.{WeightItem}
use Rattle.record.specs.Held.{parts_of}
use Rattle.record.specs.Held.{edge}
use Rattle.limits.specs.Limits.{displacement, ship_limits, load_limits, column_limits, part_limits, hold_limits, item_limits}
use Rattle.items.specs.Carried.{carried}
use Rattle.items.proofs.Kept.{kept_within, same_test, kept_last, same_all, kept_all}
use Rattle.parts.specs.Carried.{carried_part}
use Rattle.parts.proofs.Kept.{same_part}
use Rattle.forms.specs.Carried.{carried_rule, carried_ship, carried_load, carried_column, carried_hold, carried_item}

-- ---- a ship
same_edge : (r : Rule) → edge (carried_rule r) ≡ carried (edge r)
same_edge (New e) = refl
same_edge (Old e) = refl

kept_rule : (r : Rule) → carried (edge r) ≡ edge r → carried_rule r ≡ r
kept_rule (New e) h = rw h
kept_rule (Old e) h = rw h

pub same_ship : (s : Ship) → ship_limits (carried_ship s) ≡ ship_limits s
unfolding ship_limits
same_ship s = simp (same_edge, same_test)

pub kept_ship : (s : Ship) → ship_limits s ≡ true → carried_ship s ≡ s
unfolding ship_limits
kept_ship s e =
    let flood = kept_last _ _ _ _ refl e in
    let angle = kept_last true _ _ _ refl flood.0 in
    rw (kept_rule s.rule angle.1, flood.1)

-- ---- a load
pub same_load : (l : Load) → load_limits (carried_load l) ≡ load_limits l
unfolding load_limits
same_load l = simp same_test

pub kept_load : (l : Load) → load_limits l ≡ true → carried_load l ≡ l
unfolding load_limits
kept_load l e =
    let fs = kept_last _ _ _ _ refl e in
    let kg = kept_last (displacement l.d) _ _ _ refl fs.0 in
    rw (kg.1, fs.1)

-- ---- a weight item
pub same_item : (i : WeightItem) → item_limits (carried_item i) ≡ item_limits i
unfolding item_limits
same_item i = simp same_test

pub kept_item : (i : WeightItem) → item_limits i ≡ true → carried_item i ≡ i
unfolding item_limits
kept_item i e = rw (kept_last (within 1 400000 i.tonnes) _ _ _ refl e).1

-- ---- a column: its first number is 0 as it is carried exactly where it is 0
same_zero : (v : ℕ) → eqb (carried v) 0 ≡ eqb v 0
same_zero zero = refl
same_zero (suc v) = ne_eqb (carried (suc v)) 0 (omega arith) ∙ sym (ne_eqb (suc v) 0 (omega arith))

pub same_column : (k : Column) → column_limits (carried_column k) ≡ column_limits k
unfolding column_limits
same_column k =
    simp (same_test, get_or-map carried k.kn 0 0, same_zero, same_all (within 0 50000) carried (λ v. simp same_test) k.kn)

pub kept_column : (k : Column) → column_limits k ≡ true → carried_column k ≡ k
unfolding column_limits
kept_column k e =
    let kn = and_true _ (all (within 0 50000) k.kn) e in
    let first = and_true _ (eqb (get_or k.kn 0 0) 0) kn.0 in
    let km = kept_last (displacement k.d) _ _ _ refl first.0 in
    rw (km.1, kept_all (within 0 50000) carried (λ v h. kept_within 0 50000 v (omega arith) h) k.kn kn.1)

-- ---- a hold
pub same_hold : (h : Hold) → hold_limits (carried_hold h) ≡ hold_limits h
unfolding hold_limits
same_hold h =
    let m = h.head.mode in
    simp (
      same_test,
      take-map carried_part h.head.count h.parts,
      same_all (part_limits m) carried_part (same_part m) (parts_of h),
    )
