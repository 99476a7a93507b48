-- Document 02, P3, in its own words and numbers: the shapes in which void and grain lie under the deck, the exact section moment made from
-- them, and how near the moment is to it. Nothing here rests on the definitions by which the program is proved. Sketch: docs/SLACK.md.
-- The section is a rectangle, b broad and h = v + g high, v the void and g the grain before, in mm. The line of 25 degrees falls
-- s = 46,631/100,000 mm for each mm towards the high side, where the void goes; the grain area stays b g, and so the void area b v.
use Rattle.std.specs.Prelude.{◌≡◌, List, [], ◌∷◌, ◌⊎◌, ℕ, ◌+◌, ◌*◌, ◌-◌, ◌≤◌, ◌<◌}
use Rattle.whole.specs.Root.{RootAt}

-- ---- pieces
-- A piece's area, and its lever about mid-breadth towards the high side: toward − away. All in some whole part of a mm² and of a mm.
pub record Piece : Type 0 where
  pub area : ℕ
  pub toward : ℕ
  pub away : ℕ

-- the areas together
abbrev pub areas : List Piece → ℕ
areas [] = 0
areas (x ∷ xs) = x.area + areas xs

-- the first moment is `to_moment` less `from_moment`
abbrev pub to_moment : List Piece → ℕ
to_moment [] = 0
to_moment (x ∷ xs) = x.area * x.toward + to_moment xs

abbrev pub from_moment : List Piece → ℕ
from_moment [] = 0
from_moment (x ∷ xs) = x.area * x.away + from_moment xs

-- M mm³ is the pieces' first moment, rounded up once: not below it, and above it by less than 1. Areas are in i-ths of a mm², levers in
-- j-ths of a mm
pub record RoundedOnce (i j M : ℕ) (xs : List Piece) : Type 0 where
  pub never_below : to_moment xs ≤ from_moment xs + i * j * M
  pub never_far : from_moment xs + i * j * M < to_moment xs + i * j

-- the same of pieces that make up the void: their areas are b v together, so that the grain's stays too
pub record VoidMoment (b v i j M : ℕ) (xs : List Piece) : Type 0 where
  pub keeps : areas xs ≡ i * (b * v)
  pub rounded : RoundedOnce i j M xs

-- ---- uncut: the line meets both sides
-- half the breadth times the slope, s b/2, reaches neither deck nor floor
pub record Uncut (b v g : ℕ) : Type 0 where
  pub deck : 46631 * b ≤ 200000 * v
  pub floor : 46631 * b ≤ 200000 * g

-- the void is v + s b/2 deep at the high side and v − s b/2 at the low side; 200000 times these are
abbrev pub high_side : (b v : ℕ) → ℕ
high_side b v = 200000 * v + 46631 * b

abbrev pub low_side : (b v : ℕ) → ℕ
low_side b v = 200000 * v - 46631 * b

-- A diagonal cuts it into two triangles, each half a side × b. That on the high side lies b/3 from there, at b/2 − b/3 = b/6; the other
-- at b/6 on the low side. Areas in 400,000ths of a mm², levers in sixths of a mm.
abbrev pub uncut_pieces : (b v : ℕ) → List Piece
uncut_pieces b v =
    record { area = b * high_side b v; toward = b; away = 0 }
    ∷ record { area = b * low_side b v; toward = 0; away = b }
    ∷ []

-- ---- a triangle: the line meets one side, and deck or floor
-- The void or the grain, d deep before, lies as a triangle of area A = b d. Its area is s base²/2, so 46631 base² = 200000 A; its
-- height is s base, so 100000 height² = 93262 A. The base is less than the breadth, the height at most the section's.
pub record LiesAsTriangle (b d h : ℕ) : Type 0 where
  pub broad : 200000 * (b * d) < 46631 * (b * b)
  pub high : 93262 * (b * d) ≤ 100000 * (h * h)

-- such a triangle against one side lies a third of its base from there, at b/2 − base/3; its lever in sixths of a mm
abbrev pub triangle : (b area base : ℕ) → Piece
triangle b area base = record { area = area; toward = 3 * b; away = 2 * base }

-- The moment M made with a triangle of area A: its base rounded down to whole mm (`RootAt`: the whole part of the root of
-- 200000 A/46631), and the moment made with it rounded up once. Where the triangle is the grain, the void's moment is the same
-- (`VoidAroundGrain`, Laws.antt). 6 times the exact value is 3 A b − 2 A base with the exact base, a root; so what is at most 2 A base is
-- said by squares: (2 A base)² = 800000 A³/46631 (`BySquares`, Laws.antt).
pub record TriangleMoment (b A M : ℕ) : Type 0 where
  pub base : ℕ
  pub whole : RootAt (200000 * A) 46631 1 base
  pub rounded : RoundedOnce 1 6 M (triangle b A base ∷ [])
  -- never below the exact value: 3 A b − 6 M, if above 0, is at most 2 A base
  pub never_below :
      (3 * (A * b) ≤ 6 * M)
      ⊎ (46631 * ((3 * (A * b) - 6 * M) * (3 * (A * b) - 6 * M)) ≤ 800000 * (A * A * A))
  -- it exceeds the exact value by less than 1 plus a third of A: 3 A b + 6 + 2 A − 6 M is above 0, and more than 2 A base
  pub above : 6 * M < 3 * (A * b) + 6 + 2 * A
  pub never_far :
      800000 * (A * A * A)
      < 46631 * ((3 * (A * b) + 6 + 2 * A - 6 * M) * (3 * (A * b) + 6 + 2 * A - 6 * M))

-- ---- neither: the line goes from deck to floor
-- The line is p = h/s wide. It meets the floor a = b v/h − p/2 from the high side, and the deck a + p from there; both lie within the
-- breadth where void and grain each have more area than the greatest triangle, h²/(2 s).
pub record Crosses (b v g : ℕ) : Type 0 where
  pub void : 100000 * ((v + g) * (v + g)) < 93262 * (b * v)
  pub grain : 100000 * ((v + g) * (v + g)) < 93262 * (b * g)

-- all is whole in k-ths of a mm, k = 2 × 46631 h
abbrev pub parts : (h : ℕ) → ℕ
parts h = 93262 * h

-- k p = 2 × 100000 h²
abbrev pub line_width : (h : ℕ) → ℕ
line_width h = 200000 * (h * h)

-- k a = 2 × 46631 b v − k p/2
abbrev pub line_end : (b v h : ℕ) → ℕ
line_end b v h = 93262 * (b * v) - 100000 * (h * h)

-- The void is a rectangle a h at b/2 − a/2 and a triangle p h/2 at b/2 − a − p/3. Areas in 2 k-ths of a mm², levers in 6 k-ths of a mm.
abbrev pub pieces_at : (b h k a p : ℕ) → List Piece
pieces_at b h k a p =
    record { area = 2 * (a * h); toward = 3 * (k * b); away = 3 * a }
    ∷ record { area = p * h; toward = 3 * (k * b); away = 6 * a + 2 * p }
    ∷ []

abbrev pub neither_pieces : (b v h : ℕ) → List Piece
neither_pieces b v h = pieces_at b h (parts h) (line_end b v h) (line_width h)

-- ---- M is the section moment: some shape fits, and M is its moment
pub record DeckMoment (b v g M : ℕ) : Type 0 where
  pub uncut : Uncut b v g → VoidMoment b v 400000 6 M (uncut_pieces b v)
  pub void : LiesAsTriangle b v (v + g) → TriangleMoment b (b * v) M
  pub grain : LiesAsTriangle b g (v + g) → TriangleMoment b (b * g) M
  pub neither : Crosses b v g → VoidMoment b v (2 * parts (v + g)) (6 * parts (v + g)) M (neither_pieces b v (v + g))
  pub shape : Uncut b v g ⊎ (LiesAsTriangle b v (v + g) ⊎ (LiesAsTriangle b g (v + g) ⊎ Crosses b v g))
