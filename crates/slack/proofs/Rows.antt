-- Each shape has its row of Deck.antt: so the moment is as near as P3 asks.
use mathlib.Core.Path.{◌≡◌, refl, ap}
use mathlib.Core.Bool.{Bool, true, false}
use mathlib.Core.Logic.{◌⊎◌, inl, inr}
use Prim.Native.Nat.{ℕ, ◌+◌, ◌*◌, ◌^◌, ◌≤◌, ◌<◌, min}
use native.Mathlib.Omega.{arith}
use native.Mathlib.Nat.{mul-le-mul, mul-le-mul_left, lt_of_not-le, add_comm, mul_comm}
use native.Mathlib.Decide.{dec_le}
use borrow.Author.Tests.{leb-true, leb-false, le-leb, lt-leb}
use Rattle.slack.specs.Deck.{rise, is_uncut, height_square, lies_in_triangle, uncut_moment, triangle_moment, neither_moment, deck_moment}
use Rattle.slack.specs.Exact.{Uncut, LiesAsTriangle, TriangleMoment, Crosses}
use Rattle.slack.specs.Laws.{MomentsAreNear, ExchangedAlike}
use Rattle.slack.proofs.Cases.{row_uncut, row_triangle, row_neither}
use Rattle.slack.proofs.Triangles.{triangle_moment_lem, triangle_le}
use Rattle.slack.proofs.Neither.{some_height, neither_le}
use Rattle.slack.proofs.Shapes.{uncut_near, neither_near, lies_by, cut_by, shapes_apart}

-- a test by the other answer's absurdity
is_true : (t : Bool) → (t ≡ false → ⊥) → t ≡ true
is_true true f = refl
is_true false f = absurd (f refl)

is_false : (t : Bool) → (t ≡ true → ⊥) → t ≡ false
is_false true f = absurd (f refl)
is_false false f = refl

-- ---- the row by the program's comparisons, with the lesser depth m
module _ (b v g m : ℕ) (least : m ≡ min v g) where
  pub by_uncut : rise b ≤ 200000 * m → deck_moment b v g ≡ uncut_moment b
  by_uncut h = row_uncut b v g (rw (← least) (le-leb (rise b) (200000 * m) h))

  module _ (cut : 200000 * m < rise b) where
    is_cut : is_uncut b v g ≡ false
    is_cut = rw (← least) (lt-leb (rise b) (200000 * m) cut)

    pub by_triangle : height_square (b * m) ≤ 100000 * ((v + g) * (v + g)) → deck_moment b v g ≡ triangle_moment b (b * m)
    by_triangle h =
        rw least (row_triangle b v g is_cut (rw (← least) (le-leb (height_square (b * m)) (100000 * ((v + g) * (v + g))) h)))

    pub by_neither : 100000 * ((v + g) * (v + g)) < height_square (b * m) → deck_moment b v g ≡ neither_moment b v g (v + g)
    by_neither h = row_neither b v g is_cut (rw (← least) (lt-leb (height_square (b * m)) (100000 * ((v + g) * (v + g))) h))

  -- void and grain are each too great to lie as a triangle, if the lesser is
  pub crosses_by : 100000 * ((v + g) * (v + g)) < 93262 * (b * m) → Crosses b v g
  crosses_by h =
      let x : m ≤ v = omega arith in
      let y : m ≤ g = omega arith in
      record { void = omega (arith, mul-le-mul_left b x); grain = omega (arith, mul-le-mul_left b y) }

-- ---- the shape by the lesser depth
module _ (b v g : ℕ) where
  uncut_or : Dec (46631 * b ≤ 200000 * min v g) → Uncut b v g ⊎ (200000 * min v g < 46631 * b)
  uncut_or (yes h) = inl (record { deck = omega arith; floor = omega arith })
  uncut_or (no f) = inr (lt_of_not-le f)

  -- what lies as a triangle is the lesser of the two
  void_lesser : LiesAsTriangle b v (v + g) → min v g ≡ v
  void_lesser l = go (dec_le v g)
    where
      go : Dec (v ≤ g) → min v g ≡ v
      go (yes h) = omega arith
      go (no f) =
          let h : g < v = lt_of_not-le f in
          let k : g ≤ v = omega arith in
          let c = cut_by b v (v + g) l in
          absurd ((shapes_apart b v g (omega arith)).void_grain l (lies_by b g (v + g) (omega arith) (omega (arith, l.high, mul-le-mul_left b k))))

  grain_lesser : LiesAsTriangle b g (v + g) → min v g ≡ g
  grain_lesser l = go (dec_le g v)
    where
      go : Dec (g ≤ v) → min v g ≡ g
      go (yes h) = omega arith
      go (no f) =
          let h : v < g = lt_of_not-le f in
          let k : v ≤ g = omega arith in
          let c = cut_by b g (v + g) l in
          absurd ((shapes_apart b v g (omega arith)).void_grain (lies_by b v (v + g) (omega arith) (omega (arith, l.high, mul-le-mul_left b k))) l)

  lesser_crosses : Crosses b v g → 100000 * ((v + g) * (v + g)) < 93262 * (b * min v g)
  lesser_crosses c = go (dec_le v g)
    where
      go : Dec (v ≤ g) → 100000 * ((v + g) * (v + g)) < 93262 * (b * min v g)
      go (yes h) = let e : min v g ≡ v = omega arith in rw e c.void
      go (no f) = let e : min v g ≡ g = omega (arith, lt_of_not-le f) in rw e c.grain

  crosses_cut : Crosses b v g → 200000 * min v g < 46631 * b
  crosses_cut c = go (uncut_or (dec_le (46631 * b) (200000 * min v g)))
    where
      go : Uncut b v g ⊎ (200000 * min v g < 46631 * b) → 200000 * min v g < 46631 * b
      go (inl u) = absurd ((shapes_apart b v g (some_height b v g c)).uncut_crosses u c)
      go (inr h) = h

  lies_or_crosses : 200000 * min v g < 46631 * b → LiesAsTriangle b v (v + g) ⊎ (LiesAsTriangle b g (v + g) ⊎ Crosses b v g)
  lies_or_crosses cut = go (dec_le (93262 * (b * min v g)) (100000 * ((v + g) * (v + g)))) (dec_le v g)
    where
      go : Dec (93262 * (b * min v g) ≤ 100000 * ((v + g) * (v + g))) → Dec (v ≤ g) → LiesAsTriangle b v (v + g) ⊎ (LiesAsTriangle b g (v + g) ⊎ Crosses b v g)
      go (yes h) (yes k) = let e : min v g ≡ v = omega arith in inl (lies_by b v (v + g) (omega arith) (rw e at h))
      go (yes h) (no f) =
          let e : min v g ≡ g = omega (arith, lt_of_not-le f) in inr (inl (lies_by b g (v + g) (omega arith) (rw e at h)))
      go (no f) k = inr (inr (crosses_by b v g (min v g) refl (lt_of_not-le f)))

  every_shape : Uncut b v g ⊎ (LiesAsTriangle b v (v + g) ⊎ (LiesAsTriangle b g (v + g) ⊎ Crosses b v g))
  every_shape = go (uncut_or (dec_le (46631 * b) (200000 * min v g)))
    where
      go :
          Uncut b v g ⊎ (200000 * min v g < 46631 * b)
          → Uncut b v g ⊎ (LiesAsTriangle b v (v + g) ⊎ (LiesAsTriangle b g (v + g) ⊎ Crosses b v g))
      go (inl u) = inl u
      go (inr h) = inr (lies_or_crosses h)

  -- ---- the row of each shape
  uncut_is : Uncut b v g → deck_moment b v g ≡ uncut_moment b
  uncut_is u = row_uncut b v g (is_true (is_uncut b v g) (λ e. omega (arith, leb-false (rise b) (200000 * min v g) e, u.deck, u.floor)))

  lies_is : (d : ℕ) → min v g ≡ d → LiesAsTriangle b d (v + g) → deck_moment b v g ≡ triangle_moment b (b * d)
  lies_is d e l =
      let c = cut_by b d (v + g) l in
      let y = l.high in
      rw (← e)
      (row_triangle b v g
      (is_false (is_uncut b v g) (λ f. omega (arith, leb-true (rise b) (200000 * min v g) f)))
      (is_true (lies_in_triangle b v g) (λ f. omega (arith, leb-false (height_square (b * min v g)) (100000 * ((v + g) * (v + g))) f, ap (λ x. b * x) e))))

  crosses_is : Crosses b v g → deck_moment b v g ≡ neither_moment b v g (v + g)
  crosses_is c =
      let x = crosses_cut c in
      let y = lesser_crosses c in
      row_neither b v g
      (is_false (is_uncut b v g) (λ f. omega (arith, leb-true (rise b) (200000 * min v g) f)))
      (is_false (lies_in_triangle b v g) (λ f. omega (arith, leb-true (height_square (b * min v g)) (100000 * ((v + g) * (v + g))) f)))

  lies_near : (d : ℕ) → min v g ≡ d → LiesAsTriangle b d (v + g) → b ≤ 65535 → TriangleMoment b (b * d) (deck_moment b v g)
  lies_near d e l broad = rw (lies_is d e l) (triangle_moment_lem b d broad (cut_by b d (v + g) l))

  lies_le : (d : ℕ) → min v g ≡ d → LiesAsTriangle b d (v + g) → b ≤ 40000 → deck_moment b v g ≤ 2 ^ 44
  lies_le d e l broad = rw (lies_is d e l) (omega (arith, triangle_le b d broad (cut_by b d (v + g) l)))

pub moments_near : MomentsAreNear
moments_near b v g broad =
    record {
      uncut = λ u. rw (uncut_is b v g u) (uncut_near b v g u);
      void = λ l. lies_near b v g v (void_lesser b v g l) l broad;
      grain = λ l. lies_near b v g g (grain_lesser b v g l) l broad;
      neither = λ c. rw (crosses_is b v g c) (neither_near b v g c);
      shape = every_shape b v g;
    }

pub exchanged_alike_lem : ExchangedAlike
unfolding deck_moment
exchanged_alike_lem b v g = rw (least, add_comm v g, mul_comm v g)
  where
    least : min v g ≡ min g v
    least = omega arith

-- ---- within a part's limits the moment is at most 2 to the 44th mm³
pub deck_le : (b v g : ℕ) → b ≤ 40000 → deck_moment b v g ≤ 2 ^ 44
deck_le b v g broad = go (every_shape b v g)
  where
    go : Uncut b v g ⊎ (LiesAsTriangle b v (v + g) ⊎ (LiesAsTriangle b g (v + g) ⊎ Crosses b v g)) → deck_moment b v g ≤ 2 ^ 44
    go (inl u) = let bb = mul-le-mul broad broad in rw (uncut_is b v g u) (omega (arith, mul-le-mul broad bb))
    go (inr (inl l)) = lies_le b v g v (void_lesser b v g l) l broad
    go (inr (inr (inl l))) = lies_le b v g g (grain_lesser b v g l) l broad
    go (inr (inr (inr c))) = rw (crosses_is b v g c) (neither_le b v g c broad)
