-- Laws of parts, holds and weight moments: how large they are.
use mathlib.Core.Path.{◌≡◌, refl, ap}
use mathlib.Core.Bool.{Bool, true, false, cond}
use mathlib.Core.List.{List, [], ◌∷◌}
use Prim.Native.Nat.{ℕ, ◌+◌, ◌*◌, ◌-◌, ◌^◌, ◌≤◌}
use native.Mathlib.Omega.{arith}
use native.Mathlib.Nat.{mul-le-mul, mul-le-mul_left, zero-mul}
use lib.ListN.{length, length-take}
use Rattle.std.specs.Prelude.{Some, None}
use Rattle.whole.specs.Lists.{within, all, sum_of}
use Rattle.whole.proofs.Lists.{Within, and_true, within_true}
use Rattle.whole.proofs.Dividing.{ceil_zero, ceil_le}
use Rattle.record.specs.declared.Mode.{Mode}
use Rattle.record.specs.declared.Mode.TheVariants.{Trimmed, Voided, Partial}
use Rattle.record.specs.declared.Cell.{Cell}
use Rattle.record.specs.declared.Slack.{Slack}
use Rattle.record.specs.declared.Slack.TheVariants.{Undivided, Split}
use Rattle.record.specs.declared.Part.{Part}
use Rattle.record.specs.declared.Hold.{Hold}
use Rattle.record.specs.Held.{cell_width, cells_of, parts_of}
use Rattle.limits.specs.Limits.{cell_limits, section_limits, slack_limits, part_limits, hold_limits}
use Rattle.limits.specs.Ranges.{SizeRange}
use Rattle.limits.proofs.Ranges.{slack_range}
use Rattle.slack.specs.Deck.{deck_moment}
use Rattle.slack.proofs.Rows.{deck_le}
use Rattle.boards.proofs.Fits.{volume_fits_lem}
use Rattle.grain.specs.Section.{Kept, kept_from, kept_of, high_moment, section_moment, fits}
use Rattle.grain.specs.Slack.{slack_over, slack_volume}
use Rattle.grain.specs.Sum.{section_volume, part_volume, part_moment, percentage, hold_moment, weight_moment}
use Rattle.grain.specs.Walk.{section_answer}
use Rattle.cells.specs.Depth.{cell_area}
use Rattle.cells.specs.Sizes.{cell_most}
use Rattle.grain.proofs.Sections.{areas_le, kept_sum}
use Rattle.grain.proofs.Walks.{part_within}

-- ---- an answer taken apart
pub moment_of_lem : (b : Bool) (x m : ℕ) → Some m ≡ cond b (Some x) None → (b ≡ true) × (m ≡ x)
moment_of_lem true x m e = (refl, cc)
moment_of_lem false x m e =
    let z : ◌≡◌ {A = ℕ} 0 1 = cc in absurd (omega arith)

pub no_fit_of : (b : Bool) (x : ℕ) → None ≡ cond b (Some x) None → b ≡ false
no_fit_of true x e =
    let z : ◌≡◌ {A = ℕ} 0 1 = cc in absurd (omega arith)
no_fit_of false x e = refl

-- ---- a section's moment is at most its void area × its width
high_le : (x : ℕ) (ks : List Kept) → high_moment x ks ≤ sum_of (λ k. k.area) ks * (x + sum_of (λ k. k.width) ks)
unfolding high_moment sum_of
high_le x [] = omega arith
high_le x (k ∷ ks) =
    omega (arith, high_le (x + k.width) ks, mul-le-mul_left k.area (more x k.width (sum_of (λ k. k.width) ks)))
  where
    more : (x w r : ℕ) → x + w ≤ x + (w + r)
    more x w r = omega arith

kept_widths : (e : ℕ) (cs : List Cell) → sum_of (λ k. k.width) (kept_from e cs) ≡ sum_of cell_width cs
unfolding sum_of kept_from
kept_widths e [] = refl
kept_widths e (c ∷ []) = refl
kept_widths e (c ∷ d ∷ cs) = ap (λ (n : ℕ). cell_width c + n) (kept_widths (e + (cell_area c - cell_most c)) (d ∷ cs))

section_le : (cs : List Cell) → all cell_limits cs ≡ true → sum_of cell_width cs ≤ 40000 → section_moment cs ≤ 2 ^ 44
unfolding section_moment high_moment kept_from
section_le [] e w = omega arith
section_le (c ∷ cs) e w =
    let a : sum_of (λ k. k.area) (kept_of (c ∷ cs)) ≤ 200000000 = omega (arith, kept_sum 0 c cs, areas_le (c ∷ cs) e) in
    let b : 0 + sum_of (λ k. k.width) (kept_of (c ∷ cs)) ≤ 40000 = omega (arith, kept_widths 0 (c ∷ cs)) in
    omega (arith, high_le 0 (kept_of (c ∷ cs)), mul-le-mul a b)

-- ---- a part: a section moment is within 2 to the 44th mm³, so that a part is within 60,000 times that in mm⁴, and 2 to the 30th thousandths of m⁴
cells_le : (p : Part) → section_limits p ≡ true → section_volume p ≤ 2 ^ 44 * 60000
cells_le p e =
    let w = part_within p e in
    mul-le-mul (section_le (cells_of p) w.cells w.widths) (within_true 1 60000 p.length w.length).high

size_le : (n : ℕ) (s : Slack) → n ≤ 60000 → SizeRange n s → slack_over n s ≤ 2 ^ 44 * 60000
size_le n (Undivided b v g) h r = mul-le-mul (deck_le b v g r.1) h
size_le n (Split run left right) h r = omega (arith, volume_fits_lem n run left right h r.1 r.4)

slack_le : (p : Part) → slack_limits p ≡ true → slack_volume p ≤ 2 ^ 44 * 60000
unfolding slack_volume
slack_le p e =
    let r = (slack_range p).0 e in size_le p.length p.slack r.1 r.2

pub cells_fit : (p : Part) (m : ℕ) → section_limits p ≡ true → Some m ≡ section_answer (cells_of p) → m * p.length ≤ 2 ^ 44 * 60000
unfolding section_answer
cells_fit p m e s = omega (arith, cells_le p e, ap (λ x. x * p.length) (moment_of_lem (fits (cells_of p)) (section_moment (cells_of p)) m s).1)

-- its sizes, where they are known: 64 bits hold the product, and a board is no longer than its part
pub deck_fits : (p : Part) (b v g m : ℕ) → slack_limits p ≡ true → p.slack ≡ Undivided b v g → m ≡ deck_moment b v g → m * p.length ≤ 2 ^ 44 * 60000
unfolding slack_volume
deck_fits p b v g m e s is = let t : slack_over p.length p.slack ≤ 2 ^ 44 * 60000 = slack_le p e in rw is (rw s at t)

pub board_fits : (p : Part) (run l r : ℕ) → slack_limits p ≡ true → p.slack ≡ Split run l r → (run ≤ p.length) × (l + r ≤ 40000)
board_fits p run l r e s =
    let t = rw s at ((slack_range p).0 e).2 in (t.1, t.4)

part_le : (mode : Mode) (p : Part) → part_limits mode p ≡ true → part_volume mode p ≤ 2 ^ 44 * 60000
part_le Trimmed p e = cells_le p e
part_le Voided p e = cells_le p e
part_le Partial p e = slack_le p e

pub moment_le : (mode : Mode) (p : Part) → part_limits mode p ≡ true → part_moment mode p ≤ 2 ^ 30
unfolding part_moment
moment_le mode p e = ceil_le (part_volume mode p) 1000000000 (2 ^ 30) (omega arith) (omega (arith, part_le mode p e))

-- ---- a hold
pub record HoldWithin (h : Hold) : Type 0 where
  pub low : 1 ≤ h.head.count
  pub count : h.head.count ≤ 6
  pub factor : Within 5000 40000 h.head.factor
  pub parts : all (part_limits h.head.mode) (parts_of h) ≡ true

pub hold_within : (h : Hold) → hold_limits h ≡ true → HoldWithin h
unfolding hold_limits
hold_within h e =
    let t = and_true (within 1 6 h.head.count) _ e in
    let u = and_true (within 5000 40000 h.head.factor) (all (part_limits h.head.mode) (parts_of h)) t.1 in
    let n = within_true 1 6 h.head.count t.0 in
    record { low = n.low; count = n.high; factor = within_true 5000 40000 h.head.factor u.0; parts = u.1 }

pub parts_within : (h : Hold) → hold_limits h ≡ true → all (part_limits h.head.mode) (parts_of h) ≡ true
parts_within h e = (hold_within h e).parts

pub few_parts : (h : Hold) → hold_limits h ≡ true → length (parts_of h) ≤ 6
few_parts h e = omega (arith, (hold_within h e).count, length-take h.head.count h.parts)

moments_le : (mode : Mode) (ps : List Part) → all (part_limits mode) ps ≡ true → sum_of (part_moment mode) ps ≤ length ps * 2 ^ 30
unfolding all sum_of
moments_le mode [] e = omega arith
moments_le mode (p ∷ ps) e =
    let t = and_true (part_limits mode p) (all (part_limits mode) ps) e in
    omega (arith, moment_le mode p t.0, moments_le mode ps t.1)

pub parts_le : (h : Hold) → HoldWithin h → sum_of (part_moment h.head.mode) (parts_of h) ≤ 2 ^ 33
parts_le h w =
    omega (arith, moments_le h.head.mode (parts_of h) w.parts, length-take h.head.count h.parts, w.count)

percentage_le : (mode : Mode) → percentage mode ≤ 112
percentage_le Trimmed = omega arith
percentage_le Voided = omega arith
percentage_le Partial = omega arith

hold_le : (h : Hold) → HoldWithin h → hold_moment h ≤ 2 ^ 34
unfolding hold_moment
hold_le h w =
    ceil_le (sum_of (part_moment h.head.mode) (parts_of h) * percentage h.head.mode) 100 (2 ^ 34) (omega arith)
    (omega (arith, mul-le-mul (parts_le h w) (percentage_le h.head.mode)))

-- its weight moment is within 2 to the 35th kg·m
pub weight_le : (h : Hold) → hold_limits h ≡ true → weight_moment h ≤ 2 ^ 35
unfolding weight_moment
weight_le h e =
    let w = hold_within h e in
    ceil_le (10000 * hold_moment h) h.head.factor (2 ^ 35) (omega (arith, w.factor.low))
    (omega (arith, hold_le h w, mul-le-mul_left (2 ^ 35) w.factor.low))

-- a place that holds no parts counts nothing
pub nothing_weighs : (h : Hold) → h.head.count ≡ 0 → weight_moment h ≡ 0
unfolding weight_moment hold_moment sum_of
nothing_weighs h e = rw (e, zero-mul) (ceil_zero h.head.factor)
