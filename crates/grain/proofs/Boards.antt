-- A board never makes a hold heavier than the same part from side to side, uncut.
use mathlib.Core.Path.{◌≡◌, sym}
use mathlib.Core.Bool.{Bool, true}
use mathlib.Core.List.{List, [], ◌∷◌, ◌++◌}
use Prim.Native.Nat.{ℕ, ◌≤◌}
use native.Mathlib.Omega.{arith}
use native.Mathlib.Nat.{mul-le-mul_left, mul-le-mul_right}
use Rattle.whole.specs.Lists.{within, all, sum_of}
use Rattle.whole.proofs.Lists.{and_true}
use Rattle.record.specs.declared.Mode.TheVariants.{Partial}
use Rattle.record.specs.declared.Slack.TheVariants.{Split}
use Rattle.record.specs.declared.Part.{Part}
use Rattle.record.specs.declared.Hold.{Hold}
use Rattle.record.specs.Held.{parts_of}
use Rattle.limits.specs.Limits.{part_limits, hold_limits}
use Rattle.limits.specs.Ranges.{SizeRange}
use Rattle.limits.proofs.Ranges.{slack_range}
use Rattle.boards.specs.Exact.{EffectiveLength}
use Rattle.boards.proofs.Moments.{ceil_more}
use Rattle.boards.proofs.Laws.{laws}
use Rattle.grain.specs.Slack.{slack_volume}
use Rattle.grain.specs.Sum.{part_moment, percentage, hold_moment, weight_moment}
use Rattle.grain.specs.Boards.{BoardTakenOut, BoardsAddNoWeight}
use Rattle.grain.proofs.Weights.{hold_within}

-- ---- one part in the place of another
sum_put : {A : Type 0} (f : A → ℕ) (xs ys : List A) (p q : A) → f p ≤ f q → sum_of f (xs ++ p ∷ ys) ≤ sum_of f (xs ++ q ∷ ys)
unfolding sum_of
sum_put f [] ys p q h = omega arith
sum_put f (x ∷ xs) ys p q h = omega (arith, sum_put f xs ys p q h)

all_put : {A : Type 0} (f : A → Bool) (xs ys : List A) (p q : A) → (f p ≡ true → f q ≡ true) → all f (xs ++ p ∷ ys) ≡ true → (f p ≡ true) × (all f (xs ++ q ∷ ys) ≡ true)
unfolding all
all_put f [] ys p q g e =
    let t = and_true (f p) (all f ys) e in (t.0, rw (g t.0, t.1))
all_put f (x ∷ xs) ys p q g e =
    let t = and_true (f x) (all f (xs ++ p ∷ ys)) e in
    let r = all_put f xs ys p q g t.1 in
    (r.0, rw (t.0, r.1))

-- a hold whose part is not lighter is not lighter
weighs_no_less : (h k : Hold) (xs ys : List Part) (p q : Part) → k.head ≡ h.head → 1 ≤ h.head.factor →
    parts_of h ≡ xs ++ p ∷ ys → parts_of k ≡ xs ++ q ∷ ys → part_moment h.head.mode p ≤ part_moment h.head.mode q → weight_moment h ≤ weight_moment k
unfolding weight_moment hold_moment
weighs_no_less h k xs ys p q e some a b m =
    rw (a, b, e)
    (ceil_more _ _ h.head.factor some (mul-le-mul_left 10000
    (ceil_more _ _ 100 (omega arith) (mul-le-mul_right (percentage h.head.mode) (sum_put (part_moment h.head.mode) xs ys p q m)))))

-- ---- a split, and the part from side to side in its place
module _ (h without : Hold) (run l r : ℕ) (b : BoardTakenOut h without run l r) (within : part_limits Partial b.split ≡ true) where
  lengths : (1 ≤ b.split.length) × (b.split.length ≤ 60000)
  lengths = let t = (slack_range b.split).0 within in (t.0, t.1)

  sizes : SizeRange b.split.length (Split run l r)
  sizes = rw b.board at ((slack_range b.split).0 within).2

  still_within : part_limits Partial b.whole ≡ true
  still_within =
      (slack_range b.whole).1 (rw b.length lengths.0, rw b.length lengths.1, rw b.breadth (omega (arith, sizes.2), sizes.4, omega arith, omega arith, omega arith, omega arith))

  no_lighter : part_moment Partial b.split ≤ part_moment Partial b.whole
  unfolding part_moment slack_volume
  no_lighter =
      rw (b.board, b.breadth, b.length) (laws.boards_add_nothing b.split.length run l r lengths.0 lengths.1 sizes.1 sizes.2 sizes.3 sizes.4)

  no_heavier : EffectiveLength run l r 0 → part_moment Partial b.whole ≤ part_moment Partial b.split
  unfolding part_moment slack_volume
  no_heavier z =
      rw (b.board, b.breadth, b.length, laws.ineffective_alike b.split.length run l r sizes.4 (sym (laws.one_effective_length run l r 0 z))) (omega arith)

pub boards_add_no_weight_lem : BoardsAddNoWeight
unfolding hold_limits
boards_add_no_weight_lem h without run l r b e =
    let w = hold_within h e in
    let some : 1 ≤ h.head.factor = omega (arith, w.factor.low) in
    let a = all_put (part_limits Partial) b.before b.after b.split b.whole (still_within h without run l r b) (rw (b.partial, b.parts) at w.parts) in
    let t = and_true (within 1 6 h.head.count) _ e in
    let u = and_true (within 5000 40000 h.head.factor) (all (part_limits h.head.mode) (parts_of h)) t.1 in
    let m = weighs_no_less h without b.before b.after b.split b.whole b.head some b.parts b.others (rw b.partial (no_lighter h without run l r b a.0)) in (
      rw (b.others, b.head, t.0, u.0, b.partial, a.1),
      m,
      λ z. omega (
        arith,
        m,
        weighs_no_less without h b.before b.after b.whole b.split (sym b.head) (rw b.head some) b.others b.parts
            (rw (b.head, b.partial) (no_heavier h without run l r b a.0 z)),
      ),
    )
