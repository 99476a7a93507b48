-- The pieces' first moments are the rows of Deck.antt, without their rounding; and every section has one shape.
use mathlib.Core.Path.{◌≡◌, refl, ap, ◌∙◌}
use mathlib.Core.List.{List}
use Prim.Native.Nat.{ℕ, ◌+◌, ◌*◌, ◌-◌, ◌≤◌, ◌<◌}
use native.Mathlib.Omega.{arith}
use native.Mathlib.Nat.{mul-le-mul_left, mul-lt-mul_of_pos_left, le_of_mul-le-mul_left, lt_of_mul-lt-mul_left, mul-pos}
use Rattle.whole.specs.Divide.{ceil_div}
use Rattle.whole.proofs.Dividing.{ceil_low, ceil_high}
use Rattle.slack.specs.Deck.{uncut_moment, neither_moment}
use Rattle.slack.specs.Exact.{Piece, areas, to_moment, from_moment, VoidMoment, Uncut, low_side, uncut_pieces, LiesAsTriangle, Crosses, parts, line_width, line_end, pieces_at, neither_pieces}
use Rattle.slack.specs.Laws.{ShapesAreApart, LineFits, UncutUnrounded, NeitherUnrounded, VoidAroundGrain}
use Rattle.slack.specs.Walk.{K, first_term, second_term}
use Rattle.slack.proofs.Neither.{some_height, ordered, reduced}

-- ---- the pieces have the area b v and the first moment n/d: n/d rounded up is as near as that
record Made (b v n d i j : ℕ) (xs : List Piece) : Type 0 where
  keeps : areas xs ≡ i * (b * v)
  moment : d * to_moment xs ≡ d * from_moment xs + i * j * n

made_near : {b v n d i j : ℕ} {xs : List Piece} → Made b v n d i j xs → 0 < d → 0 < i → 0 < j → VoidMoment b v i j (ceil_div n d) xs
made_near {n = n} {d} {i} {j} {xs} made pd pi pj =
    record {
      keeps = made.keeps;
      rounded = record {
        never_below = le_of_mul-le-mul_left {k = d} (low (to_moment xs) (from_moment xs) (i * j) (ceil_div n d) made.moment (ceil_low n d pd)) pd;
        never_far = lt_of_mul-lt-mul_left d (high (to_moment xs) (from_moment xs) (i * j) (ceil_div n d) made.moment (mul-pos pi pj) (ceil_high n d pd));
      };
    }
  where
    low : (t f u M : ℕ) → d * t ≡ d * f + u * n → n ≤ d * M → d * t ≤ d * (f + u * M)
    low t f u M e l = omega (arith, mul-le-mul_left u l)

    high : (t f u M : ℕ) → d * t ≡ d * f + u * n → 0 < u → d * M < n + d → d * (f + u * M) < d * (t + u)
    high t f u M e pu l = omega (arith, mul-lt-mul_of_pos_left l pu)

-- ---- uncut: s b³/12
uncut_made : (b v : ℕ) → 46631 * b ≤ 200000 * v → Made b v (46631 * (b * (b * b))) 1200000 400000 6 (uncut_pieces b v)
uncut_made b v fits =
    let e : low_side b v + 46631 * b ≡ 200000 * v = omega arith in
    record { keeps = omega (arith, ap (λ x. b * x) e); moment = omega (arith, ap (λ x. b * b * x) e) }

pub uncut_near : (b v g : ℕ) → Uncut b v g → VoidMoment b v 400000 6 (uncut_moment b) (uncut_pieces b v)
uncut_near b v g u = made_near (uncut_made b v u.deck) (omega arith) (omega arith) (omega arith)

pub uncut_unrounded_lem : UncutUnrounded
uncut_unrounded_lem b v g u = omega (arith, (uncut_made b v u.deck).moment)

-- ---- neither: b² v g/(2 h) − h³/(24 s²), for any scale k in which p = h/s and a = b v/h − p/2 are whole
-- the terms of the identity as variables
joined :
    (t q r w y z : ℕ) → t ≡ 2 * (w + y) → 4 * q + r ≡ 4 * w → 46631 * 46631 * r ≡ 10000000000 * z
    → 6 * K * t + 30000000000 * z ≡ 4 * K * (3 * q + r) + 12 * K * y
joined t q r w y z e f i = omega arith

module _ (b v g h k a p : ℕ) (made : v + g ≡ h) (wide : 46631 * p ≡ 100000 * (h * k)) (starts : 2 * (a * h) + p * h ≡ 2 * (b * v * k)) where
  pieces_keep : areas (pieces_at b h k a p) ≡ 2 * k * (b * v)
  pieces_keep = omega arith

  pieces_moment :
      2 * h * K * to_moment (pieces_at b h k a p) + 2 * k * (6 * k) * (2 * h * second_term h)
      ≡ 2 * h * K * from_moment (pieces_at b h k a p) + 2 * k * (6 * k) * (K * first_term b v g)
  pieces_moment =
      omega (arith, joined (h * (k * b) * (2 * (a * h) + p * h)) (a * a * (h * h) + a * p * (h * h)) (p * p * (h * h)) (b * b * (v * v) * (k * k)) (b * b * (v * g) * (k * k)) (h * h * (h * h) * (k * k)) line start square)
    where
      line : h * (k * b) * (2 * (a * h) + p * h) ≡ 2 * (b * b * (v * v) * (k * k) + b * b * (v * g) * (k * k))
      line = ap (λ x. h * (k * b) * x) starts ∙ omega (arith, ap (λ x. b * b * v * (k * k) * x) made)

      start : 4 * (a * a * (h * h) + a * p * (h * h)) + p * p * (h * h) ≡ 4 * (b * b * (v * v) * (k * k))
      start = omega (arith, ap (λ x. x * x) starts)

      square : 46631 * 46631 * (p * p * (h * h)) ≡ 10000000000 * (h * h * (h * h) * (k * k))
      square = omega (arith, ap (λ x. x * x * (h * h)) wide)

module _ (b v g : ℕ) (crosses : Crosses b v g) where
  whole_start : (h a : ℕ) → a + 100000 * (h * h) ≡ 93262 * (b * v) → 2 * (a * h) + line_width h * h ≡ 2 * (b * v * parts h)
  whole_start h a e = omega (arith, ap (λ x. x * h) e)

  starts : (h : ℕ) → v + g ≡ h → 2 * (line_end b v h * h) + line_width h * h ≡ 2 * (b * v * parts h)
  starts h e = whole_start h (line_end b v h) (omega (arith, rw e at crosses.void))

  crosses_moment :
      (h : ℕ) → v + g ≡ h
      → 2 * h * K * to_moment (neither_pieces b v h) + 2 * parts h * (6 * parts h) * (2 * h * second_term h)
      ≡ 2 * h * K * from_moment (neither_pieces b v h) + 2 * parts h * (6 * parts h) * (K * first_term b v g)
  crosses_moment h e = pieces_moment b v g h (parts h) (line_end b v h) (line_width h) e (omega arith) (starts h e)

  neither_made :
      Made b v (K * first_term b v g - 2 * (v + g) * second_term (v + g)) (2 * (v + g) * K) (2 * parts (v + g)) (6 * parts (v + g))
      (neither_pieces b v (v + g))
  neither_made =
      record {
        keeps = pieces_keep b v g (v + g) (parts (v + g)) (line_end b v (v + g)) (line_width (v + g)) refl (omega arith) (starts (v + g) refl);
        moment =
            terms _ _ (2 * parts (v + g) * (6 * parts (v + g))) (K * first_term b v g) (2 * (v + g) * second_term (v + g)) (ordered b v g crosses)
            (crosses_moment (v + g) refl);
      }
    where
      terms : (t f u x y : ℕ) → y ≤ x → t + u * y ≡ f + u * x → t ≡ f + u * (x - y)
      terms t f u x y l e = let i : x - y + y ≡ x = omega arith in omega (arith, ap (λ z. u * z) i)

  pub neither_near :
      VoidMoment b v (2 * parts (v + g)) (6 * parts (v + g)) (neither_moment b v g (v + g)) (neither_pieces b v (v + g))
  neither_near =
      let p = some_height b v g crosses in
      rw (reduced b v g (v + g) p) at
      (made_near neither_made (mul-pos {m = 2 * (v + g)} {n = K} (omega arith) (omega arith)) (omega arith) (omega arith))

pub neither_unrounded_lem : NeitherUnrounded
neither_unrounded_lem b v g h e crosses =
    eight (2 * h * K) (K * first_term b v g) (2 * h * second_term h) (2 * parts h * (6 * parts h)) (to_moment (neither_pieces b v h))
    (from_moment (neither_pieces b v h)) _ _ _ (omega arith) (omega arith) (omega arith) (crosses_moment b v g crosses h (omega arith))
  where
    eight :
        (d x y u t f d' x' y' : ℕ) → d' ≡ 8 * d → x' ≡ 8 * x → y' ≡ 8 * y → d * t + u * y ≡ d * f + u * x
        → d' * t + u * y' ≡ d' * f + u * x'
    eight d x y u t f d' x' y' ed ex ey i = rw (ed, ex, ey) (omega arith)

-- the line meets the deck within the breadth
pub line_fits_lem : LineFits
line_fits_lem b v g crosses = within (v + g) refl crosses.void crosses.grain
  where
    within :
        (h : ℕ)
        → v + g ≡ h
        → 100000 * (h * h) < 93262 * (b * v)
        → 100000 * (h * h) < 93262 * (b * g)
        → line_end b v h + line_width h ≤ parts h * b
    within h e m l = omega (arith, ap (λ x. b * x) e)

-- ---- the void around a grain triangle
pub void_around_grain_lem : VoidAroundGrain
void_around_grain_lem b h c t cb th = go (b - c) (h - t) (omega arith) (omega arith)
  where
    go :
        (x y : ℕ) → b ≡ x + c → h ≡ y + t
        → (2 * (x * h) + (2 * (c * y) + (c * t + 0)) + c * t ≡ 2 * (b * h))
        × (2 * (x * h) * (3 * c) + (2 * (c * y) * (3 * c) + (c * t * (4 * c) + 0)) + (c * t * (2 * c) + 0)
        ≡ 2 * (x * h) * 0 + (2 * (c * y) * (3 * b) + (c * t * (3 * b) + 0)) + (c * t * (3 * b) + 0))
    go x y e f = rw (e, f) (omega arith, omega arith)

-- ---- one shape
-- a depth that s b/2 passes: the layer's base is less than the breadth
broad_by : (b d : ℕ) → 200000 * d < 46631 * b → 200000 * (b * d) < 46631 * (b * b)
broad_by b d cut = omega (arith, mul-lt-mul_of_pos_left {k = b} cut (omega arith))

pub lies_by : (b d h : ℕ) → 200000 * d < 46631 * b → 93262 * (b * d) ≤ 100000 * (h * h) → LiesAsTriangle b d h
lies_by b d h cut high = record { broad = broad_by b d cut; high = high }

-- a layer that lies as a triangle is less deep than s b/2
pub cut_by : (b d h : ℕ) → LiesAsTriangle b d h → 200000 * d < 46631 * b
cut_by b d h lies =
    let l : b * (200000 * d) < b * (46631 * b) = omega (arith, lies.broad) in
    lt_of_mul-lt-mul_left b l

pub shapes_apart : ShapesAreApart
shapes_apart b v g some =
    record {
      uncut_void = λ u l. omega (arith, u.deck, cut_by b v (v + g) l);
      uncut_grain = λ u l. omega (arith, u.floor, cut_by b g (v + g) l);
      uncut_crosses = λ u c. level (v + g) refl some u.deck u.floor c.void c.grain;
      void_grain = λ l k. two (v + g) refl some (cut_by b v (v + g) l) (cut_by b g (v + g) k) l.high k.high;
      void_crosses = λ l c. omega (arith, l.high, c.void);
      grain_crosses = λ l c. omega (arith, l.high, c.grain);
    }
  where
    -- s b is at most the height, and so the line is at least as wide as the breadth
    level :
        (h : ℕ) → v + g ≡ h → 0 < h → 46631 * b ≤ 200000 * v → 46631 * b ≤ 200000 * g
        → 100000 * (h * h) < 93262 * (b * v) → 100000 * (h * h) < 93262 * (b * g) → ⊥
    level h e p x y c d =
        let l : 46631 * b ≤ 100000 * h = omega arith in
        omega (arith, mul-le-mul_left h l, ap (λ z. b * z) e)

    -- s b is above the height, and so the two areas together above that of two triangles
    two :
        (h : ℕ) → v + g ≡ h → 0 < h → 200000 * v < 46631 * b → 200000 * g < 46631 * b
        → 93262 * (b * v) ≤ 100000 * (h * h) → 93262 * (b * g) ≤ 100000 * (h * h) → ⊥
    two h e p x y c d =
        let l : 100000 * h < 46631 * b = omega arith in
        omega (arith, mul-lt-mul_of_pos_left l p, ap (λ z. b * z) e)
