-- Laws of the shapes of Exact.antt, and of the moment.
use Rattle.std.specs.Prelude.{◌≡◌, List, [], ◌∷◌, ◌↔◌, ℕ, ◌+◌, ◌*◌, ◌-◌, ◌≤◌, ◌<◌}
use Rattle.whole.specs.Root.{RootAt}
use Rattle.slack.specs.Deck.{deck_moment}
use Rattle.slack.specs.Exact.{Piece, areas, to_moment, from_moment, Uncut, uncut_pieces, LiesAsTriangle, triangle, Crosses, parts, line_width, line_end, neither_pieces, DeckMoment}

-- P3's accuracy, of every section up to 65,535 broad, whatever its depths: some shape fits, and the moment is as near to it as the request
-- asks
abbrev pub MomentsAreNear : Type 0
MomentsAreNear = (b v g : ℕ) → b ≤ 65535 → DeckMoment b v g (deck_moment b v g)

-- What the squares say, wherever the exact base of a triangle of area A is a fraction n/d: x is at most 2 A base
abbrev pub BySquares : Type 0
BySquares =
    (A n d x : ℕ) → 0 < d → 46631 * (n * n) ≡ 200000 * A * (d * d) →
    (46631 * (x * x) ≤ 800000 * (A * A * A)) ↔ (x * d ≤ 2 * (A * n))

-- A quarter of a triangle's area in place of a third would be too little: 40,000 broad, with a void of 9,322 above 30,000 of grain,
-- 6 A b + 12 + 3 A − 12 M is at most 4 A base
abbrev pub QuarterIsTooLittle : Type 0
QuarterIsTooLittle =
    (A M : ℕ) → A ≡ 40000 * 9322 → M ≡ deck_moment 40000 9322 30000 →
    46631 * ((6 * (A * 40000) + 12 + 3 * A - 12 * M) * (6 * (A * 40000) + 12 + 3 * A - 12 * M)) ≤ 3200000 * (A * A * A)

-- no two shapes fit one section
pub record Apart (b v g : ℕ) : Type 0 where
  pub uncut_void : Uncut b v g → LiesAsTriangle b v (v + g) → ⊥
  pub uncut_grain : Uncut b v g → LiesAsTriangle b g (v + g) → ⊥
  pub uncut_crosses : Uncut b v g → Crosses b v g → ⊥
  pub void_grain : LiesAsTriangle b v (v + g) → LiesAsTriangle b g (v + g) → ⊥
  pub void_crosses : LiesAsTriangle b v (v + g) → Crosses b v g → ⊥
  pub grain_crosses : LiesAsTriangle b g (v + g) → Crosses b v g → ⊥

abbrev pub ShapesAreApart : Type 0
ShapesAreApart = (b v g : ℕ) → 0 < v + g → Apart b v g

-- Between the shapes ≤ and < are alike: s b/2 is never exactly a depth, and no triangle exactly as high as its section. (46,631 is
-- 13 × 17 × 211.)
abbrev pub NoDepthMet : Type 0
NoDepthMet = (b d : ℕ) → 1 ≤ b → b ≤ 40000 → 46631 * b ≡ 200000 * d → ⊥

abbrev pub NoHeightMet : Type 0
NoHeightMet =
    (b d h : ℕ) → b ≤ 40000 → 200000 * d < 46631 * b → 0 < h → 93262 * (b * d) ≡ 100000 * (h * h) → ⊥

-- the triangle with its rounded base fits the breadth and the height
abbrev pub BaseFits : Type 0
BaseFits =
    (b d h base : ℕ) → LiesAsTriangle b d h → RootAt (200000 * (b * d)) 46631 1 base →
    (base < b) × (46631 * base ≤ 100000 * h)

-- the line from deck to floor meets the deck within the breadth
abbrev pub LineFits : Type 0
LineFits = (b v g : ℕ) → Crosses b v g → line_end b v (v + g) + line_width (v + g) ≤ parts (v + g) * b

-- uncut, the pieces' moment is s b³/12, the old figure without its rounding: 1,200,000 times both
abbrev pub UncutUnrounded : Type 0
UncutUnrounded =
    (b v g : ℕ) → Uncut b v g →
    1200000 * to_moment (uncut_pieces b v) ≡ 1200000 * from_moment (uncut_pieces b v) + 400000 * 6 * (46631 * (b * b * b))

-- neither a triangle, it is b² v g/(2 h) − h³/(24 s²): 2 h × 24 × 46631² times both
abbrev pub NeitherUnrounded : Type 0
NeitherUnrounded =
    (b v g h : ℕ) → h ≡ v + g → Crosses b v g →
    2 * h * (24 * (46631 * 46631)) * to_moment (neither_pieces b v h)
    + 2 * parts h * (6 * parts h) * (2 * h * (100000 * 100000 * (h * h * h)))
    ≡ 2 * h * (24 * (46631 * 46631)) * from_moment (neither_pieces b v h)
    + 2 * parts h * (6 * parts h) * (24 * (46631 * 46631) * (b * b * (v * g)))

-- The void around a grain triangle of any base c and height t, against the low side: beyond the base a rectangle b − c broad and h high, at
-- c/2 towards the high side; over the base one h − t high, at b/2 − c/2 on the low side, and a triangle c t/2, at b/2 − 2 c/3. Lengths in
-- any unit; areas in halves of its square, levers in sixths of it.
abbrev pub around_grain : (b h c t : ℕ) → List Piece
around_grain b h c t =
    record { area = 2 * ((b - c) * h); toward = 3 * c; away = 0 }
    ∷ record { area = 2 * (c * (h - t)); toward = 3 * c; away = 3 * b }
    ∷ record { area = c * t; toward = 4 * c; away = 3 * b }
    ∷ []

-- with the triangle it is the whole rectangle, whose moment about mid-breadth is 0: so its moment is the triangle's, to the other side
abbrev pub VoidAroundGrain : Type 0
VoidAroundGrain =
    (b h c t : ℕ) → c ≤ b → t ≤ h →
    (areas (around_grain b h c t) + c * t ≡ 2 * (b * h))
    × (to_moment (around_grain b h c t) + from_moment (triangle b (c * t) c ∷ [])
    ≡ from_moment (around_grain b h c t) + to_moment (triangle b (c * t) c ∷ []))

-- void and grain exchanged, the moment is the same
abbrev pub ExchangedAlike : Type 0
ExchangedAlike = (b v g : ℕ) → deck_moment b v g ≡ deck_moment b g v

-- all of them
pub record Laws : Type 0 where
  pub moments_are_near : MomentsAreNear
  pub by_squares : BySquares
  pub quarter_is_too_little : QuarterIsTooLittle
  pub shapes_are_apart : ShapesAreApart
  pub no_depth_met : NoDepthMet
  pub no_height_met : NoHeightMet
  pub base_fits : BaseFits
  pub line_fits : LineFits
  pub uncut_unrounded : UncutUnrounded
  pub neither_unrounded : NeitherUnrounded
  pub void_around_grain : VoidAroundGrain
  pub exchanged_alike : ExchangedAlike
