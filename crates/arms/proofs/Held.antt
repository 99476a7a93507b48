-- At a displacement that a column has, the arms are that column's alone: of the two pairs of neighbours that hold it, either gives the
-- same.
use mathlib.Core.Path.{◌≡◌, refl, sym, ap, ap₂, fun_ext, ◌∙◌}
use Prim.Native.Nat.{ℕ, ◌+◌, ◌*◌, ◌/◌, ◌<◌}
use native.Mathlib.Omega.{arith}
use native.Mathlib.Nat.{mul-div_cancel}
use lib.ListN.{get_or}
use lib.IntN.{sub_ℕ}
use Rattle.whole.specs.Line.{on_line, round_down}
use Rattle.whole.specs.Lists.{tabulate}
use Rattle.whole.proofs.Lines.{line_start, line_end_lem, rounded_whole}
use Rattle.record.specs.declared.Column.{Column}
use Rattle.record.specs.declared.Load.{Load}
use Rattle.arms.specs.declared.Basis.{Basis}
use Rattle.arms.specs.Arms.{span, past, fluid_kg, kn_arm, kg_arm, righting_arm, heeling_arm, gm, diff, diffs}

-- ---- the arms of one column
whole_quotient : (n m h : ℕ) → 0 < h → n ≡ 1000 * (h * m) → n / h ≡ 1000 * m
whole_quotient n m h p e = ap (λ x. x / h) (e ∙ turn h m) ∙ mul-div_cancel (1000 * m) p
  where
    turn : (h m : ℕ) → 1000 * (h * m) ≡ 1000 * m * h
    turn h m = omega arith

module _ (b : Basis) (p : 0 < span b) (k : ℕ) where
  pub at_low : past b ≡ 0 → kn_arm b k ≡ 1000 * get_or b.low.kn k 0
  unfolding kn_arm
  at_low e = whole_quotient _ (get_or b.low.kn k 0) (span b) p (ap (λ n. 1000 * n) (ap (λ t. on_line (span b) t (get_or b.low.kn k 0) (get_or b.high.kn k 0)) e ∙ line_start (span b) (get_or b.low.kn k 0) (get_or b.high.kn k 0)))

  pub at_high : past b ≡ span b → kn_arm b k ≡ 1000 * get_or b.high.kn k 0
  unfolding kn_arm
  at_high e = whole_quotient _ (get_or b.high.kn k 0) (span b) p (ap (λ n. 1000 * n) (ap (λ t. on_line (span b) t (get_or b.low.kn k 0) (get_or b.high.kn k 0)) e ∙ line_end_lem (span b) (get_or b.low.kn k 0) (get_or b.high.kn k 0)))

module _ (b : Basis) (p : 0 < span b) where
  column_gm : (m : ℕ) → 1000 * (span b * m) ≡ 1000 * m * span b
  column_gm m = omega arith

  pub gm_low : past b ≡ 0 → gm b ≡ sub_ℕ (1000 * b.low.km) (1000 * fluid_kg b)
  unfolding gm
  gm_low e =
      ap (λ n. round_down n (1000 * fluid_kg b * span b) (span b))
      (ap (λ n. 1000 * n) (ap (λ t. on_line (span b) t b.low.km b.high.km) e ∙ line_start (span b) b.low.km b.high.km) ∙ column_gm b.low.km)
      ∙ rounded_whole (1000 * b.low.km) (1000 * fluid_kg b) (span b) p

  pub gm_high : past b ≡ span b → gm b ≡ sub_ℕ (1000 * b.high.km) (1000 * fluid_kg b)
  unfolding gm
  gm_high e =
      ap (λ n. round_down n (1000 * fluid_kg b * span b) (span b))
      (ap (λ n. 1000 * n) (ap (λ t. on_line (span b) t b.low.km b.high.km) e ∙ line_end_lem (span b) b.low.km b.high.km) ∙ column_gm b.high.km)
      ∙ rounded_whole (1000 * b.high.km) (1000 * fluid_kg b) (span b) p

-- ---- either pair of neighbours that hold D gives the same GM and the same ten DIFFs
module _ (b c : Basis) (pb : 0 < span b) (pc : 0 < span c) (shared : b.high ≡ c.low) (load : b.load ≡ c.load) (weight : b.weight ≡ c.weight) (top : past b ≡ span b) (foot : past c ≡ 0) where
  pub same_gm : gm b ≡ gm c
  same_gm =
      gm_high b pb top
      ∙ ap₂ sub_ℕ (ap (λ (k : Column). 1000 * k.km) shared) (ap (λ (l : Load). 1000 * (l.kg + l.fs)) load)
      ∙ sym (gm_low c pc foot)

  same_diff : (k : ℕ) → diff b k ≡ diff c k
  unfolding diff righting_arm kg_arm heeling_arm
  same_diff k =
      rw (at_high b pb k top, at_low c pc k foot, shared, load, weight) refl

  pub same_diffs : diffs b ≡ diffs c
  same_diffs = ap (tabulate 10) (fun_ext same_diff)
