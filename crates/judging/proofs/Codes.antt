-- Each of 30 to 34 is given exactly where the paper's words give it.
use mathlib.Core.Path.{◌≡◌, refl, sym, ap, ◌∙◌}
use mathlib.Core.Bool.{Bool, true, cond}
use mathlib.Core.List.{List, [], ◌∷◌}
use mathlib.Core.Logic.{◌↔◌, ◌⊎◌, inl, inr, ⊎_elim}
use Prim.Native.Nat.{ℕ, ◌≤◌, ◌<◌}
use native.Mathlib.Omega.{arith}
use native.Mathlib.Nat.{lt_of_not-le}
use native.Mathlib.Decide.{dec_le}
use lib.ListN.{length, get_or}
use borrow.Author.Tests.{le-leb, lt-leb}
use Rattle.record.specs.declared.Ship.{Ship}
use Rattle.record.specs.declared.Load.{Load}
use Rattle.record.specs.declared.Column.{Column}
use Rattle.record.specs.Held.{held, last_d}
use Rattle.record.specs.Filler.{no_column}
use Rattle.columns.specs.Columns.{in_order}
use Rattle.std.specs.Prelude.{Option, Some, None, Ok, Err}
use Rattle.columns.specs.Search.{columns_around}
use Rattle.stability.specs.declared.Shortfall.TheVariants.{ShortOfGm, ShortAtHeel, ShortBeyond, ShortOfArea}
use Rattle.stability.specs.Verdict.{Judgement, judgement_code, verdict_of}
use Rattle.columns.proofs.Standing.{below_outside, above_outside}
use Rattle.condition.specs.declared.Condition.{Condition}
use Rattle.judging.specs.declared.NotJudged.{NotJudged}
use Rattle.judging.specs.declared.NotJudged.TheVariants.{NoShip, FewColumns, NoLoad, OutsideColumns, TooHeavy}
use Rattle.total.specs.Total.{weight}
use Rattle.judging.specs.Judge.{Judged, basis_at, judged_at, judged_of, refusal_code, judged_code}
use Rattle.judging.specs.Complete.{Ready}
use Rattle.judging.specs.Codes.{JudgeCodes, CodesOfJudge}
use Rattle.judging.proofs.Judging.{LimitsMet, ranges_sound, ready_around, ready_judged}

judgement_other : (j : Judgement) (n : ℕ) → 30 ≤ n → n ≤ 34 → judgement_code j ≡ n → ⊥
judgement_other (Ok u) n p q e = omega arith
judgement_other (Err ShortOfGm) n p q e = omega arith
judgement_other (Err ShortAtHeel) n p q e = omega arith
judgement_other (Err ShortBeyond) n p q e = omega arith
judgement_other (Err ShortOfArea) n p q e = omega arith

-- D below the first or above the last of two columns or more has none around it
below_first : (d : ℕ) (ks : List Column) → in_order ks ≡ true → 2 ≤ length ks → d < (get_or ks 0 no_column).d → columns_around d ks ≡ None
below_first d [] o n h = absurd (omega arith)
below_first d (a ∷ ks) o n h = below_outside d a ks o h

above_last : (d : ℕ) (ks : List Column) → in_order ks ≡ true → 2 ≤ length ks → last_d ks < d → columns_around d ks ≡ None
above_last d [] o n h = absurd (omega arith)
above_last d (a ∷ ks) o n h = above_outside d a ks o h

none_some : {A P : Type 0} {o : Option A} {x : A} → o ≡ None → o ≡ Some x → P
none_some n s = let z : ◌≡◌ {A = ℕ} 0 1 = cc in absurd (omega arith)

module _ (c : Condition) (w : LimitsMet c) where
  abbrev columns : List Column
  columns = held c.columns

  abbrev code : ℕ
  code = judged_code (judged_of c)

  coded : {r : NotJudged} → judged_of c ≡ Err r → code ≡ refusal_code r
  coded e = ap judged_code e

  abbrev Outer : Load → Type 0
  Outer l = (l.d < (get_or columns 0 no_column).d) ⊎ (last_d columns < l.d)

  no_ship_lem : c.ship ≡ None → judged_of c ≡ Err NoShip
  unfolding judged_of
  no_ship_lem e = rw e

  ready_not_outer : Ready c → (l : Load) → c.load ≡ Some l → Outer l → ⊥
  ready_not_outer r l e o =
      let same : l ≡ r.load = cc in
      let d = ap (λ (l : Load). l.d) same in
      ⊎_elim (λ (h : l.d < (get_or columns 0 no_column).d). omega (arith, r.from_first, d)) (λ (h : last_d columns < l.d). omega (arith, r.to_last, d)) o

  module _ (x : Ship) (s : c.ship ≡ Some x) where
    few_columns : length columns < 2 → judged_of c ≡ Err FewColumns
    unfolding judged_of
    few_columns h = rw (s, w.ship x s, lt-leb 2 (length columns) h)

    module _ (two : 2 ≤ length columns) where
      no_load_lem : c.load ≡ None → judged_of c ≡ Err NoLoad
      unfolding judged_of
      no_load_lem e = rw (s, w.ship x s, le-leb 2 (length columns) two, w.columns, e)

      outside : (y : Load) → c.load ≡ Some y → Outer y → judged_of c ≡ Err OutsideColumns
      unfolding judged_of
      outside y l o =
          let e : columns_around y.d columns ≡ None =
          ⊎_elim (below_first y.d columns w.columns two) (above_last y.d columns w.columns two) o in
          rw (s, w.ship x s, le-leb 2 (length columns) two, w.columns, l, w.load y l, e)

  -- the verdict between the columns i and i + 1, or 34
  abbrev chosen : (s : Ship) (l : Load) (i : ℕ) → Bool → Judged
  chosen s l i x = cond x (Ok (verdict_of s (basis_at c l i))) (Err TooHeavy)

  module _ (r : Ready c) where
    too_heavy : 1000000000 < weight c → judged_of c ≡ Err TooHeavy
    too_heavy h =
        let a = ready_around c w r in
        ready_judged c w r ∙ ap (judged_at c r.ship r.load) a.1 ∙ ap (chosen r.ship r.load a.0) (lt-leb c.total 1000000000 (omega (arith, w.total)))

    judged : weight c ≤ 1000000000 → (n : ℕ) → 30 ≤ n → n ≤ 34 → code ≡ n → ⊥
    judged h n p q e =
        let a = ready_around c w r in
        let v = verdict_of r.ship (basis_at c r.load a.0) in
        let g : judged_of c ≡ Ok v = ready_judged c w r ∙ ap (judged_at c r.ship r.load) a.1 ∙ ap (chosen r.ship r.load a.0) (le-leb c.total 1000000000 (omega (arith, w.total))) in
        judgement_other v.judgement n p q (sym (ap judged_code g) ∙ e)

  -- ---- the cases, each with the codes that it excludes
  other : {P : Type 0} {n m : ℕ} → code ≡ n → (n ≡ m → ⊥) → (P → ⊥) → (code ≡ m) ↔ P
  other e f g = (λ h. absurd (f (sym e ∙ h)), λ p. absurd (g p))

  this : {P : Type 0} {n : ℕ} → code ≡ n → P → (code ≡ n) ↔ P
  this e p = (λ h. p, λ q. e)

  at_no_ship : c.ship ≡ None → JudgeCodes c code
  at_no_ship s =
      let e = coded (no_ship_lem s) in
      let f : (x : Ship) → c.ship ≡ Some x → ⊥ = λ x t. none_some s t in
      record {
        thirty = this e s;
        thirty_one = other e (λ z. omega arith) (λ p. f p.0.0 p.0.1);
        thirty_two = other e (λ z. omega arith) (λ p. f p.0.0 p.0.1);
        thirty_three = other e (λ z. omega arith) (λ p. f p.0.0 p.0.1);
        thirty_four = other e (λ z. omega arith) (λ p. f p.0.ship p.0.shipped);
      }

  module _ (x : Ship) (s : c.ship ≡ Some x) where
    f : c.ship ≡ None → ⊥
    f t = none_some t s

    at_few : length columns < 2 → JudgeCodes c code
    at_few h =
        let e = coded (few_columns x s h) in
        record {
          thirty = other e (λ z. omega arith) f;
          thirty_one = this e ((x, s), h);
          thirty_two = other e (λ z. omega arith) (λ p. omega (arith, p.1));
          thirty_three = other e (λ z. omega arith) (λ p. omega (arith, p.1));
          thirty_four = other e (λ z. omega arith) (λ p. omega (arith, p.0.columns));
        }

    module _ (two : 2 ≤ length columns) where
      at_no_load : c.load ≡ None → JudgeCodes c code
      at_no_load l =
          let e = coded (no_load_lem x s two l) in
          record {
            thirty = other e (λ z. omega arith) f;
            thirty_one = other e (λ z. omega arith) (λ p. omega (arith, p.1));
            thirty_two = this e ((x, s), two, l);
            thirty_three = other e (λ z. omega arith) (λ p. none_some l p.2.1);
            thirty_four = other e (λ z. omega arith) (λ p. none_some l p.0.loaded);
          }

      module _ (y : Load) (l : c.load ≡ Some y) where
        at_outer : Outer y → JudgeCodes c code
        at_outer o =
            let e = coded (outside x s two y l o) in
            record {
              thirty = other e (λ z. omega arith) f;
              thirty_one = other e (λ z. omega arith) (λ p. omega (arith, p.1));
              thirty_two = other e (λ z. omega arith) (λ p. none_some p.2 l);
              thirty_three = this e ((x, s), two, (y, l, o));
              thirty_four = other e (λ z. omega arith) (λ p. ready_not_outer p.0 y l o);
            }

        module _ (r : Ready c) where
          at_heavy : 1000000000 < weight c → JudgeCodes c code
          at_heavy h =
              let e = coded (too_heavy r h) in
              record {
                thirty = other e (λ z. omega arith) f;
                thirty_one = other e (λ z. omega arith) (λ p. omega (arith, p.1));
                thirty_two = other e (λ z. omega arith) (λ p. none_some p.2 l);
                thirty_three = other e (λ z. omega arith) (λ p. ready_not_outer r p.2.0 p.2.1 p.2.2);
                thirty_four = this e (r, h);
              }

          at_verdict : weight c ≤ 1000000000 → JudgeCodes c code
          at_verdict h =
              let g = judged r h in
              record {
                thirty = (λ e. absurd (g 30 (omega arith) (omega arith) e), λ p. absurd (f p));
                thirty_one = (λ e. absurd (g 31 (omega arith) (omega arith) e), λ p. absurd (omega (arith, p.1)));
                thirty_two = (λ e. absurd (g 32 (omega arith) (omega arith) e), λ p. none_some p.2 l);
                thirty_three = (λ e. absurd (g 33 (omega arith) (omega arith) e), λ p. absurd (ready_not_outer r p.2.0 p.2.1 p.2.2));
                thirty_four = (λ e. absurd (g 34 (omega arith) (omega arith) e), λ p. absurd (omega (arith, p.1)));
              }

        by_weight : Ready c → Dec (weight c ≤ 1000000000) → JudgeCodes c code
        by_weight r (yes h) = at_verdict r h
        by_weight r (no h) = at_heavy r (lt_of_not-le h)

        by_ends : Dec ((get_or columns 0 no_column).d ≤ y.d) → Dec (y.d ≤ last_d columns) → JudgeCodes c code
        by_ends (no h) d = at_outer (inl (lt_of_not-le h))
        by_ends (yes h) (no g) = at_outer (inr (lt_of_not-le g))
        by_ends (yes h) (yes g) =
            by_weight (record { ship = x; shipped = s; columns = two; load = y; loaded = l; from_first = h; to_last = g }) (dec_le (weight c) 1000000000)

      by_load : (o : Option Load) → c.load ≡ o → JudgeCodes c code
      by_load (Some y) l = by_ends y l (dec_le (get_or columns 0 no_column).d y.d) (dec_le y.d (last_d columns))
      by_load None l = at_no_load l

    by_count : Dec (2 ≤ length columns) → JudgeCodes c code
    by_count (yes h) = by_load h c.load refl
    by_count (no h) = at_few (lt_of_not-le h)

  by_ship : (o : Option Ship) → c.ship ≡ o → JudgeCodes c code
  by_ship (Some x) s = by_count x s (dec_le 2 (length columns))
  by_ship None s = at_no_ship s

  pub sound_codes : JudgeCodes c code
  sound_codes = by_ship c.ship refl

pub judge_codes : CodesOfJudge
judge_codes c r = sound_codes c (ranges_sound c r)
