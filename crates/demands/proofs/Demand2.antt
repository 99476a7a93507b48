-- Demand 2: W is the weight moments of the holds held, added up, each as the paper's words make it.
use mathlib.Core.Path.{ap, ◌∙◌}
use Prim.Native.Nat.{ℕ, ◌<◌}
use native.Mathlib.Omega.{arith}
use lib.ListN.{length, get_or, length-take}
use lib.Seq.{get_or-take}
use borrow.Author.Tests.{lt-ltb}
use Rattle.record.specs.declared.Part.{Part}
use Rattle.record.specs.Filler.{no_part, no_hold}
use Rattle.grain.specs.Figures.{total, WeightMoment}
use Rattle.grain.specs.Sum.{weight_moment, total_weight}
use Rattle.grain.proofs.Totals.{sum_total}
use Rattle.grain.proofs.Weights.{nothing_weighs}
use Rattle.grain.proofs.Figures.{weight_moment_lem}
use Rattle.condition.specs.declared.Condition.{Condition}
use Rattle.sending.specs.Within.{Within}
use Rattle.demands.specs.Demands.{WeightIsTotal}
use Rattle.demands.proofs.Within.{hold_sound}

module _ (c : Condition) (w : Within c) where
  held_weighs : (i : ℕ) → i < 16 → 0 < (get_or c.holds i no_hold).head.count → WeightMoment (get_or c.holds i no_hold) (weight_moment (get_or c.holds i no_hold))
  held_weighs i h some =
      let x = get_or c.holds i no_hold in
      let l = (hold_sound c w i h (lt-ltb 0 x.head.count some)).limits in
      weight_moment_lem x l
      (λ j k.
      let n = length-take x.head.count x.parts in
      ap (λ (p : Part). length p.cells) (get_or-take x.head.count x.parts j no_part (omega arith))
      ∙ w.places.cell_places i h j (omega (arith, w.places.part_places i h)))

pub weight_is_total_lem : WeightIsTotal
unfolding total_weight
weight_is_total_lem c w =
    record {
      weights = λ i. weight_moment (get_or c.holds i no_hold);
      held = held_weighs c w;
      none = λ i h z. nothing_weighs (get_or c.holds i no_hold) z;
      sum =
          sum_total weight_moment c.holds no_hold
          ∙ ap (λ (n : ℕ). total n (λ i. weight_moment (get_or c.holds i no_hold))) w.places.hold_places;
    }
