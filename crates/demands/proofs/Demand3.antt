-- Demand 3: on a complete condition within its limits judge gives the verdict between the columns around D, and that verdict says what
-- it says of the exact values.
use mathlib.Core.Path.{◌≡◌, refl, ap, ◌∙◌}
use Prim.Native.Nat.{ℕ, ◌+◌, ◌<◌}
use native.Mathlib.Omega.{arith}
use native.Mathlib.Numerals.{add-one}
use lib.ListN.{length, get_or}
use lib.Seq.{get_or-take}
use borrow.Author.Tests.{le-leb}
use Rattle.record.specs.declared.Column.{Column}
use Rattle.record.specs.Held.{held}
use Rattle.record.specs.Filler.{no_column}
use Rattle.std.specs.Prelude.{Some, Ok}
use Rattle.columns.specs.Search.{columns_around}
use Rattle.stability.specs.Verdict.{verdict_of}
use Rattle.arms.specs.Judgeable.{Judgeable}
use Rattle.columns.proofs.Standing.{around_at}
use Rattle.stability.proofs.Demand3.{demand3, margins}
use Rattle.forms.specs.declared.Request.TheVariants.{JudgeLine}
use Rattle.condition.specs.declared.Condition.{Condition}
use Rattle.judging.specs.Judge.{basis_at, judged_at, judged_of}
use Rattle.panel.specs.Step.{Outcome, verdict_given, outcome_of}
use Rattle.reply.proofs.Shown.{verdict_shown}
use Rattle.stability.proofs.Shown.{sizes}
use Rattle.judging.specs.Complete.{Complete}
use Rattle.judging.proofs.Judging.{ready_around, ready_judged}
use Rattle.storing.proofs.Columns.{held_length}
use Rattle.sending.specs.Within.{Within}
use Rattle.demands.specs.Demands.{VerdictsHold}
use Rattle.demands.proofs.Asked.{asked}
use Rattle.demands.proofs.Within.{within_sound}

module _ (c : Condition) (w : Within c) (m : Complete c) where
  -- a column held has ten KN
  ten : (i : ℕ) → i < length (held c.columns) → length (get_or (held c.columns) i no_column).kn ≡ 10
  ten i p =
      let h : i < c.columns.count = omega (arith, held_length c.columns (record { places = w.places.column_places; count = w.places.column_count })) in
      ap (λ (k : Column). length k.kn) (get_or-take c.columns.count c.columns.places i no_column h) ∙ w.places.kn_places i h

  judgeable : (i : ℕ) → columns_around m.ready.load.d (held c.columns) ≡ Some i → Judgeable (basis_at c m.ready.load i)
  judgeable i e =
      let s = around_at m.ready.load.d (held c.columns) i (within_sound c w).columns e in
      record {
        low = s.low_limits;
        high = rw add-one at s.high_limits;
        ten_low = ten i (omega (arith, s.place));
        ten_high = rw add-one at (ten (i + 1) s.place);
        load = (within_sound c w).load m.ready.load m.ready.loaded;
        apart = rw add-one at s.apart;
        from = s.low;
        to = rw add-one at s.high;
        weight = omega (arith, w.total, m.weights);
      }

  given : (i : ℕ) → columns_around m.ready.load.d (held c.columns) ≡ Some i → judged_of c ≡ Ok (verdict_of m.ready.ship (basis_at c m.ready.load i))
  given i e =
      ready_judged c (within_sound c w) m.ready ∙ ap (judged_at c m.ready.ship m.ready.load) e ∙ rw (le-leb c.total 1000000000 (omega (arith, w.total, m.weights)))

pub verdicts_hold_lem : VerdictsHold
unfolding outcome_of
verdicts_hold_lem c line lent w m a =
    let p = ready_around c (within_sound c w) m.ready in
    let s = m.ready.ship in
    let b = basis_at c m.ready.load p.0 in
    let jd = judgeable c w m p.0 p.1 in
    let st = around_at m.ready.load.d (held c.columns) p.0 (within_sound c w).columns p.1 in
    let o = asked c line lent (Some JudgeLine) a ∙ ap (verdict_given c) (given c w m p.0 p.1) in
    let z = sizes b jd s in
    record {
      ship = s;
      shipped = m.ready.shipped;
      place = p.0;
      next = st.place;
      basis = b;
      low = refl;
      high = rw add-one;
      from = jd.from;
      to = jd.to;
      load = m.ready.loaded;
      weight = w.total;
      code = ap (λ (o : Outcome). o.code) o;
      shown = rw o
          (verdict_shown _ (verdict_of s b).gm (verdict_of s b).diff (verdict_of s b).upper (verdict_of s b).area
          (record {
            gm_above = omega (arith, z.gm_above);
            gm_below = omega (arith, z.gm_below);
            diff_above = omega (arith, z.diff_above);
            diff_below = omega (arith, z.diff_below);
            upper_above = omega (arith, z.upper);
            area_above = omega (arith, z.area);
          }));
      demand = demand3 s b jd;
      margins = margins s b jd;
    }
