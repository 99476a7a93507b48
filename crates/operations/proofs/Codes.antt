-- Each code of an operation is given exactly where the paper's words give it.
use mathlib.Core.Path.{◌≡◌, refl}
use mathlib.Core.Bool.{Bool, true, false, cond, not, ◌&&◌}
use mathlib.Core.List.{List}
use mathlib.Core.Logic.{◌↔◌}
use Prim.Native.Nat.{ℕ, ◌+◌, ◌-◌, ◌≤◌, ◌<◌}
use native.Mathlib.Omega.{arith}
use native.Mathlib.Nat.{lt_of_not-le}
use native.Mathlib.Decide.{dec_le}
use lib.Dec.{leb}
use lib.ListN.{length, get_or}
use borrow.Author.Tests.{leb-true, leb-false, le-leb, ltb-true, lt-ltb}
use Rattle.whole.proofs.Lists.{clash, and_true}
use Rattle.record.specs.declared.Ship.{Ship}
use Rattle.record.specs.declared.Load.{Load}
use Rattle.record.specs.declared.Column.{Column}
use Rattle.record.specs.declared.Hold.{Hold}
use Rattle.record.specs.declared.WeightItem.{WeightItem}
use Rattle.record.specs.declared.Weighing.TheVariants.{Weight, Weighed}
use Rattle.record.specs.Held.{held, last_d}
use Rattle.record.specs.Filler.{no_column, no_hold}
use Rattle.limits.specs.Limits.{rise, ship_limits, load_limits, column_limits, hold_limits, place_limits, item_limits}
use Rattle.limits.specs.Ranges.{ShipRange, LoadRange, ColumnRange}
use Rattle.limits.proofs.Ranges.{ship_range, load_range, column_range, hold_range, place_range, item_range, rise_range}
use Rattle.std.specs.Prelude.{Ok, Err}
use Rattle.columns.specs.declared.NotAdded.TheVariants.{Limits, Full, NotAbove}
use Rattle.columns.specs.Columns.{is_above, column_answer, added_code}
use Rattle.columns.proofs.Adding.{above_is}
use Rattle.grain.specs.Sum.{hold_fits}
use Rattle.grain.proofs.Figures.{hold_fits_lem}
use Rattle.weights.specs.Weights.{has_room, makes_load}
use Rattle.condition.specs.declared.Condition.{Condition}
use Rattle.condition.specs.Condition.{is_held}
use Rattle.storing.specs.Storing.{with_ship, with_load, hold_at}
use Rattle.operations.specs.Operations.{taken, refused_with}
use Rattle.operations.specs.Operations.{ship_operation, load_operation, column_operation, hold_operation, drop_operation, weighing_operation}
use Rattle.operations.specs.Codes.{LimitCodes, ColumnCodes, HoldCodes, DropCodes, WeightCodes, WeighedCodes}
use Rattle.operations.proofs.Effects.{by_cond, change_code, two_coded}

-- ---- tests one after the other, and the codes that they give
limit_codes : {P : Type 0} (x : Bool) → (x ≡ true) ↔ P → LimitCodes P (cond x 0 20)
limit_codes true p = record { twenty = (λ e. absurd (omega arith), λ f. absurd (f (p.0 refl))); taken = (λ e. p.0 refl, λ q. refl) }
limit_codes false p = record { twenty = (λ e q. clash (p.1 q), λ f. refl); taken = (λ e. absurd (omega arith), λ q. clash (p.1 q)) }

record TwoTests (P Q : Type 0) (b code : ℕ) : Type 0 where
  twenty : (code ≡ 20) ↔ (P → ⊥)
  second : (code ≡ b) ↔ (P × (Q → ⊥))
  taken : (code ≡ 0) ↔ (P × Q)

two_tests : {P Q : Type 0} (x y : Bool) (b : ℕ) → 20 < b → (x ≡ true) ↔ P → (y ≡ true) ↔ Q → TwoTests P Q b (cond x (cond y 0 b) 20)
two_tests true true b h p q =
    record {
      twenty = (λ e. absurd (omega arith), λ f. absurd (f (p.0 refl)));
      second = (λ e. absurd (omega arith), λ (r, f). absurd (f (q.0 refl)));
      taken = (λ e. (p.0 refl, q.0 refl), λ r. refl);
    }
two_tests true false b h p q =
    record {
      twenty = (λ e. absurd (omega arith), λ f. absurd (f (p.0 refl)));
      second = (λ e. (p.0 refl, λ r. clash (q.1 r)), λ r. refl);
      taken = (λ e. absurd (omega arith), λ (r, s). clash (q.1 s));
    }
two_tests false y b h p q =
    record {
      twenty = (λ e r. clash (p.1 r), λ f. refl);
      second = (λ e. absurd (omega arith), λ (r, f). clash (p.1 r));
      taken = (λ e. absurd (omega arith), λ (r, s). clash (p.1 r));
    }

both : {P Q : Type 0} (x y : Bool) → (x ≡ true) ↔ P → (y ≡ true) ↔ Q → ((x && y) ≡ true) ↔ (P × Q)
both x y p q = (λ e. let t = and_true x y e in (p.0 t.0, q.0 t.1), λ (a, b). rw (p.1 a, q.1 b))

-- ---- a column's tests: of its limits, of twenty held, of its D
module _ (ks : List Column) (k : Column) where
  by_answers :
      (l full above : Bool) → (l ≡ true) ↔ ColumnRange k → leb 20 (length ks) ≡ full → (above ≡ true) ↔ (0 < length ks → last_d ks < k.d) →
      ColumnCodes ks k (added_code (cond (not l) (Err Limits) (cond full (Err Full) (cond above (Ok tt) (Err NotAbove)))))
  by_answers false full above p f a =
      record {
        twenty = (λ e r. clash (p.1 r), λ g. refl);
        twenty_three = (λ e. absurd (omega arith), λ (r, h). clash (p.1 r));
        twenty_two = (λ e. absurd (omega arith), λ (r, h, i, j). clash (p.1 r));
        taken = (λ e. absurd (omega arith), λ (r, h, g). clash (p.1 r));
      }
  by_answers true true above p f a =
      let n = leb-true 20 (length ks) f in
      record {
        twenty = (λ e. absurd (omega arith), λ g. absurd (g (p.0 refl)));
        twenty_three = (λ e. (p.0 refl, n), λ r. refl);
        twenty_two = (λ e. absurd (omega arith), λ (r, h, i, j). absurd (omega arith));
        taken = (λ e. absurd (omega arith), λ (r, h, g). absurd (omega arith));
      }
  by_answers true false true p f a =
      let n = leb-false 20 (length ks) f in
      record {
        twenty = (λ e. absurd (omega arith), λ g. absurd (g (p.0 refl)));
        twenty_three = (λ e. absurd (omega arith), λ (r, h). absurd (omega arith));
        twenty_two = (λ e. absurd (omega arith), λ (r, h, i, j). absurd (omega (arith, a.0 refl i)));
        taken = (λ e. (p.0 refl, n, a.0 refl), λ r. refl);
      }
  by_answers true false false p f a =
      let n = leb-false 20 (length ks) f in
      let u : (0 < length ks → last_d ks < k.d) → ⊥ = λ g. clash (a.1 g) in
      let s : (0 < length ks) × (k.d ≤ last_d ks) = not_above_lem (dec_le 1 (length ks)) (dec_le k.d (last_d ks)) u in
      record {
        twenty = (λ e. absurd (omega arith), λ g. absurd (g (p.0 refl)));
        twenty_three = (λ e. absurd (omega arith), λ (r, h). absurd (omega arith));
        twenty_two = (λ e. (p.0 refl, n, s.0, s.1), λ r. refl);
        taken = (λ e. absurd (omega arith), λ (r, h, g). absurd (u g));
      }
    where
      not_above_lem : Dec (1 ≤ length ks) → Dec (k.d ≤ last_d ks) → ((0 < length ks → last_d ks < k.d) → ⊥) → (0 < length ks) × (k.d ≤ last_d ks)
      not_above_lem (yes h) (yes g) u = (h, g)
      not_above_lem (yes h) (no g) u = absurd (u (λ i. lt_of_not-le g))
      not_above_lem (no h) g u = absurd (u (λ i. absurd (h i)))

  column_coded : ColumnCodes ks k (added_code (column_answer ks k))
  unfolding column_answer
  column_coded = by_answers (column_limits k) (leb 20 (length ks)) (is_above k.d ks) (column_range k) refl (above_is k.d ks no_column)

-- ---- the operations
module _ (c : Condition) where
  pub ship_codes : (s : Ship) → LimitCodes (ShipRange s) (ship_operation c s).code
  unfolding ship_operation
  ship_codes s = rw (by_cond (ship_limits s) (taken (with_ship c s)) (refused_with 20 c)) (limit_codes (ship_limits s) (ship_range s))

  pub load_codes : (l : Load) → LimitCodes (LoadRange l) (load_operation c l).code
  unfolding load_operation
  load_codes l = rw (by_cond (load_limits l) (taken (with_load c l)) (refused_with 20 c)) (limit_codes (load_limits l) (load_range l))

  pub column_codes : (k : Column) → ColumnCodes (held c.columns) k (column_operation c k).code
  unfolding column_operation
  column_codes k = rw (change_code c k (column_answer (held c.columns) k)) (column_coded (held c.columns) k)

  -- two tests, one after the other
  two_codes : {P Q : Type 0} (x y : Bool) (after : Condition) (b : ℕ) → 20 < b → (x ≡ true) ↔ P → (y ≡ true) ↔ Q → TwoTests P Q b (cond x (cond y (taken after) (refused_with b c)) (refused_with 20 c)).code
  two_codes x y after b h p q =
      rw (two_coded c x y after b) (two_tests x y b h p q)

  pub hold_codes : (n : ℕ) (h : Hold) → HoldCodes n h (hold_operation c n h).code
  unfolding hold_operation
  hold_codes n h =
      let t = two_codes (place_limits n && hold_limits h) (hold_fits h) _ 21 (omega arith) (both (place_limits n) (hold_limits h) (place_range n) (hold_range h)) (hold_fits_lem h) in
      record { twenty = t.twenty; twenty_one = t.second; taken = t.taken }

  pub drop_codes : (n : ℕ) → DropCodes c n (drop_operation c n).code
  unfolding drop_operation
  drop_codes n =
      let held = (get_or c.holds (n - 1) no_hold).head.count in
      let t = two_codes (place_limits n) (is_held (hold_at c n)) _ 24 (omega arith) (place_range n) (ltb-true 0 held, lt-ltb 0 held) in
      record { twenty = t.twenty; twenty_four = t.second; taken = t.taken }

  -- what is not at most another number is above it
  above : {P : Type 0} {code n : ℕ} (a b : ℕ) → (code ≡ n) ↔ (P × (a ≤ b → ⊥)) → (code ≡ n) ↔ (P × (b < a))
  above a b t = (λ e. let u = t.0 e in (u.0, lt_of_not-le u.1), λ (p, h). t.1 (p, λ g. omega arith))

  pub weight_codes : (i : WeightItem) → WeightCodes c i (weighing_operation c (Weight i)).code
  unfolding weighing_operation
  weight_codes i =
      let sum = c.sums.tonnes + i.tonnes in
      let t = two_codes (item_limits i) (has_room c.sums i) _ 26 (omega arith) (item_range i) (leb-true sum 400000, le-leb sum 400000) in
      record { twenty = t.twenty; twenty_six = above sum 400000 t.second; taken = t.taken }

  pub weighed_codes : (fs : ℕ) → WeighedCodes c fs (weighing_operation c (Weighed fs)).code
  unfolding weighing_operation
  weighed_codes fs =
      let sum = c.sums.tonnes in
      let t = two_codes (rise fs) (makes_load c.sums) _ 27 (omega arith) (rise_range fs) (leb-true 100 sum, le-leb 100 sum) in
      record { twenty = t.twenty; twenty_seven = above 100 sum t.second; taken = t.taken }
