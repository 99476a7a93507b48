-- The definitions give the figures of a hold that the paper's words ask for.
use mathlib.Core.Path.{◌≡◌, refl, sym, ap, ap₂, ◌∙◌}
use mathlib.Core.Bool.{true}
use mathlib.Core.List.{List, [], ◌∷◌}
use mathlib.Core.Logic.{◌↔◌}
use Prim.Native.Nat.{ℕ, zero, suc, ◌*◌, ◌-◌, ◌/◌, ◌≤◌, ◌<◌, min}
use native.Mathlib.Omega.{arith}
use lib.Dec.{leb}
use lib.ListN.{length, get_or}
use borrow.Author.Tests.{leb-true, le-leb}
use Rattle.whole.specs.Lists.{sum_of}
use Rattle.whole.proofs.Lists.{all_at, all_from, sum_at}
use Rattle.record.specs.declared.Mode.{Mode}
use Rattle.record.specs.declared.Mode.TheVariants.{Trimmed, Voided, Partial}
use Rattle.record.specs.declared.Cell.{Cell}
use Rattle.record.specs.declared.Cell.TheVariants.{Void}
use Rattle.record.specs.declared.Slack.{Slack}
use Rattle.record.specs.declared.Slack.TheVariants.{Undivided, Split}
use Rattle.record.specs.declared.Part.{Part}
use Rattle.record.specs.declared.Hold.{Hold}
use Rattle.record.specs.Filler.{no_part}
use Rattle.record.specs.Held.{cell_width, cell_lip, cells_of, parts_of}
use Rattle.limits.specs.Limits.{section_limits, part_limits, hold_limits}
use Rattle.limits.specs.Ranges.{SizeRange}
use Rattle.limits.proofs.Ranges.{slack_range}
use Rattle.slack.specs.Deck.{deck_moment}
use Rattle.slack.proofs.Rows.{moments_near}
use Rattle.boards.proofs.Laws.{laws}
use Rattle.cells.specs.Depth.{cell_area}
use Rattle.cells.specs.Sizes.{cell_most}
use Rattle.cells.proofs.Figures.{rounded_up, area_is, most_is, area_only, most_only}
use Rattle.grain.specs.Section.{Kept, kept, kept_of, base, first_moment, old_twice, fits, fits_from, section_moment}
use Rattle.grain.specs.Slack.{slack_over, slack_volume}
use Rattle.grain.specs.Sum.{section_volume, part_volume, part_moment, percentage, hold_moment, weight_moment, part_fits, hold_fits}
use Rattle.grain.specs.Within.{SectionWithin}
use Rattle.grain.specs.Figures.{total, cell, KeptAreas, Fits, FirstTaken, SectionMoment, PartFits, HoldFits, SectionVolume, SlackVolume, PartVolume, percent, part, WeightMoment}
use Rattle.grain.proofs.Sections.{first_triangle, first_trapezium, trapezium_taken, base_is, areas_le, kept_sum, kept_length}
use Rattle.grain.proofs.Walks.{part_within, cells_section}
use Rattle.grain.proofs.Weights.{hold_within}
use Rattle.grain.proofs.Totals.{total_same, sum_total, kept_at, width_at, kept_at_lem, fits_last, highs, olds}
use Rattle.grain.proofs.Accuracy.{base_one, made, bounds, first_from, first_to, every_scale}

-- ---- kept areas
kept_together : (c : Cell) (cs : List Cell) → total (length (c ∷ cs)) (kept_at (kept_of (c ∷ cs))) ≡ total (length (c ∷ cs)) (λ i. cell_area (cell (c ∷ cs) i))
kept_together c cs =
    let s : sum_of (λ k. k.area) (kept_of (c ∷ cs)) ≡ sum_of cell_area (c ∷ cs) = omega (arith, kept_sum 0 c cs) in
    ap (λ (n : ℕ). total n (kept_at (kept_of (c ∷ cs)))) (sym (kept_length 0 (c ∷ cs)))
    ∙ sym (sum_total (λ k. k.area) (kept_of (c ∷ cs)) (kept 0 0))
    ∙ s
    ∙ sum_total cell_area (c ∷ cs) (Void 0 0 0)

-- the areas and kept areas of a section that has a cell
kept_areas : (c : Cell) (cs : List Cell) → KeptAreas (c ∷ cs)
kept_areas c cs =
    record {
      area = λ i. cell_area (cell (c ∷ cs) i);
      kept = kept_at (kept_of (c ∷ cs));
      areas = λ i h. area_is (cell (c ∷ cs) i);
      inner = λ i h. (cell_most (cell (c ∷ cs) i), most_is (cell_width (cell (c ∷ cs) i)) (cell_lip (cell (c ∷ cs) i)), kept_at_lem 0 (c ∷ cs) i h);
      together = kept_together c cs;
    }

-- ---- 21 by the last cell
module _ (c : Cell) (cs : List Cell) where
  last : length (c ∷ cs) - 1 ≡ length cs
  last = omega arith

  last_test : fits (c ∷ cs) ≡ leb (kept_at (kept_of (c ∷ cs)) (length (c ∷ cs) - 1)) (cell_most (cell (c ∷ cs) (length (c ∷ cs) - 1)))
  last_test = rw last (fits_last 0 c cs)

no_cells : KeptAreas []
unfolding total
no_cells = record { area = λ i. 0; kept = λ i. 0; areas = λ i h. absurd (omega arith); inner = λ i h. absurd (omega arith); together = refl }

fits_to : (cs : List Cell) → fits cs ≡ true → Fits cs
unfolding kept_areas no_cells
fits_to [] e = record { areas = no_cells; most = _; is = most_is 0 0; holds = omega arith }
fits_to (c ∷ cs) e =
    record {
      areas = kept_areas c cs;
      most = _;
      is = most_is (cell_width (cell (c ∷ cs) (length (c ∷ cs) - 1))) (cell_lip (cell (c ∷ cs) (length (c ∷ cs) - 1)));
      holds = leb-true _ _ (sym (last_test c cs) ∙ e);
    }

-- ---- and no other figures meet the paper's words
-- of two sums that are alike but for the last entry
last_same : (n : ℕ) (f g : ℕ → ℕ) → ((i : ℕ) → i < n → f i ≡ g i) → total (suc n) f ≡ total (suc n) g → f n ≡ g n
unfolding total
last_same zero f g e t = omega arith
last_same (suc n) f g e t =
    last_same n (λ i. f (suc i)) (λ i. g (suc i)) (λ i h. e (suc i) (omega arith)) (omega (arith, e 0 (omega arith)))

module _ (c : Cell) (cs : List Cell) (k : KeptAreas (c ∷ cs)) where
  inner_only : (i : ℕ) → i < length cs → k.kept i ≡ kept_at (kept_of (c ∷ cs)) i
  inner_only i h =
      let x = cell (c ∷ cs) i in
      let t = k.inner i (omega arith) in
      t.2
      ∙ ap₂ min (area_only x (k.area i) (k.areas i (omega arith))) (most_only (cell_width x) (cell_lip x) t.0 t.1)
      ∙ sym (kept_at_lem 0 (c ∷ cs) i (omega arith))

  kept_only : k.kept (length cs) ≡ kept_at (kept_of (c ∷ cs)) (length cs)
  kept_only =
      last_same (length cs) k.kept (kept_at (kept_of (c ∷ cs))) inner_only
      (k.together
      ∙ total_same (length (c ∷ cs)) k.area (λ i. cell_area (cell (c ∷ cs) i)) (λ i h. area_only (cell (c ∷ cs) i) (k.area i) (k.areas i h))
      ∙ sym (kept_together c cs))

fits_from_lem : (cs : List Cell) → Fits cs → fits cs ≡ true
unfolding fits_from
fits_from_lem [] f = refl
fits_from_lem (c ∷ cs) f =
    let n = last c cs in
    let h : f.areas.kept (length cs) ≤ f.most = rw n at f.holds in
    let k = kept_only c cs f.areas in
    let m : f.most ≡ cell_most (cell (c ∷ cs) (length cs)) =
    most_only _ _ f.most f.is ∙ ap (λ (i : ℕ). cell_most (cell (c ∷ cs) i)) n in
    fits_last 0 c cs ∙ le-leb (kept_at (kept_of (c ∷ cs)) (length cs)) (cell_most (cell (c ∷ cs) (length cs))) (omega arith)

pub fits_is : (cs : List Cell) → (fits cs ≡ true) ↔ Fits cs
fits_is cs = (fits_to cs, fits_from_lem cs)

part_fits_lem : (mode : Mode) (p : Part) → (part_fits mode p ≡ true) ↔ PartFits mode p
part_fits_lem Trimmed p = fits_is (cells_of p)
part_fits_lem Voided p = fits_is (cells_of p)
part_fits_lem Partial p = (λ e. tt, λ u. refl)

pub hold_fits_lem : (h : Hold) → (hold_fits h ≡ true) ↔ HoldFits h
unfolding hold_fits
hold_fits_lem h = (
  λ e i l. (part_fits_lem h.head.mode (get_or (parts_of h) i no_part)).0 (all_at (part_fits h.head.mode) (parts_of h) i no_part e l),
  λ f. all_from (part_fits h.head.mode) (parts_of h) no_part (λ i l. (part_fits_lem h.head.mode (get_or (parts_of h) i no_part)).1 (f i l)),
)

-- ---- the section moment
first_taken : (k : Kept) → k.area ≤ 200000000 → FirstTaken k.width k.area (first_moment k)
first_taken k small =
    let w = k.width in
    let a = k.area in
    record {
      triangle = λ h.
          let e = first_triangle w a h in
          (base a, base_one a (base a) (base_is a small), rw (← e) (omega arith, omega arith));
      trapezium = λ h.
          let e = first_trapezium w a h in
          let t = trapezium_taken w a h in
          rw (← e) (omega arith, omega arith);
    }

-- each kept area of a section within its limits
kept_small : (cs : List Cell) → SectionWithin cs → (i : ℕ) → i < length (kept_of cs) → kept_at (kept_of cs) i ≤ 200000000
kept_small [] w i h = absurd (omega (arith, w.some))
kept_small (c ∷ cs) w i h =
    omega (arith, sum_at (λ (k : Kept). k.area) (kept 0 0) (kept_of (c ∷ cs)) i h, kept_sum 0 c cs, areas_le (c ∷ cs) w.cells, w.widths)

pub section_moment_lem : (cs : List Cell) → SectionWithin cs → SectionMoment cs (section_moment cs)
unfolding kept_areas
section_moment_lem [] w = absurd (omega (arith, w.some))
section_moment_lem (c ∷ cs) w =
    record {
      areas = kept_areas c cs;
      first = λ i. first_moment (get_or (kept_of (c ∷ cs)) i (kept 0 0));
      old = old_twice 0 (c ∷ cs) / 2;
      firsts = λ i h. rw (← width_at 0 (c ∷ cs) i h) (first_taken (get_or (kept_of (c ∷ cs)) i (kept 0 0)) (kept_small (c ∷ cs) w i (omega (arith, kept_length 0 (c ∷ cs)))));
      olds = rw (← olds (c ∷ cs)) (omega arith, omega arith);
      made =
          rw (← highs 0 (c ∷ cs), ← kept_length 0 (c ∷ cs), ← sum_total first_moment (kept_of (c ∷ cs)) (kept 0 0))
          (made (c ∷ cs) w);
      accurate = λ k pk lo hi f.
          let b = bounds (c ∷ cs) w k pk lo hi f in
          record {
            never_below = rw (← highs 0 (c ∷ cs), ← olds (c ∷ cs)) b.low;
            never_far = rw (← highs 0 (c ∷ cs), ← olds (c ∷ cs), ← sum_total cell_area (c ∷ cs) (Void 0 0 0)) b.high;
          };
      scales = λ k pk. (
        λ i. first_from k (cell_width (cell (c ∷ cs) i)) (kept_at (kept_of (c ∷ cs)) i),
        λ i. first_to k (cell_width (cell (c ∷ cs) i)) (kept_at (kept_of (c ∷ cs)) i),
        λ i h. every_scale k (cell_width (cell (c ∷ cs) i)) (kept_at (kept_of (c ∷ cs)) i),
      );
    }

-- ---- the sum
of_cells : (p : Part) → section_limits p ≡ true → length p.cells ≡ 8 → SectionVolume p (section_volume p)
of_cells p e l =
    record { moment = section_moment (cells_of p); section = section_moment_lem (cells_of p) (cells_section p (part_within p e) l); volume = refl }

of_sizes : (n : ℕ) (s : Slack) → SizeRange n s → SlackVolume n s (slack_over n s)
of_sizes n (Undivided b v g) r = record { moment = deck_moment b v g; section = moments_near b v g (omega arith); volume = refl }
of_sizes n (Split run left right) r = laws.volumes_are_made n run left right r.1

volume_of : (mode : Mode) (p : Part) → part_limits mode p ≡ true → length p.cells ≡ 8 → PartVolume mode p (part_volume mode p)
unfolding slack_volume
volume_of Trimmed p e l = of_cells p e l
volume_of Voided p e l = of_cells p e l
volume_of Partial p e l = of_sizes p.length p.slack ((slack_range p).0 e).2

percent_is : (mode : Mode) → percentage mode ≡ percent mode
percent_is Trimmed = refl
percent_is Voided = refl
percent_is Partial = refl

parts_sum : (h : Hold) → percent h.head.mode * total (length (parts_of h)) (λ i. part_moment h.head.mode (part h i)) ≡ sum_of (part_moment h.head.mode) (parts_of h) * percentage h.head.mode
parts_sum h =
    rw (sum_total (part_moment h.head.mode) (parts_of h) no_part, percent_is h.head.mode)
    (turned (percent h.head.mode) (total (length (parts_of h)) (λ i. part_moment h.head.mode (part h i))))
  where
    turned : (a b : ℕ) → a * b ≡ b * a
    turned a b = omega arith

pub weight_moment_lem : (h : Hold) → hold_limits h ≡ true → ((i : ℕ) → i < length (parts_of h) → length (part h i).cells ≡ 8) → WeightMoment h (weight_moment h)
unfolding part_moment hold_moment weight_moment
weight_moment_lem h e eight =
    let w = hold_within h e in
    record {
      volumes = λ i. part_volume h.head.mode (part h i);
      parts = λ i. part_moment h.head.mode (part h i);
      moment = hold_moment h;
      volume = λ i l. volume_of h.head.mode (part h i) (all_at (part_limits h.head.mode) (parts_of h) i no_part w.parts l) (eight i l);
      rounded = λ i l. rounded_up (part_volume h.head.mode (part h i)) 1000000000 (omega arith);
      hold = rw (parts_sum h) (rounded_up (sum_of (part_moment h.head.mode) (parts_of h) * percentage h.head.mode) 100 (omega arith));
      weight = rounded_up (10000 * hold_moment h) h.head.factor (omega (arith, w.factor.low));
    }
