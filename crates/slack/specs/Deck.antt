-- Document 02, P3: the section moment of a partly filled section, in mm³, with the line of 25 degrees stopped at deck and floor.
-- b is the breadth, v the void, g the grain, all in mm; v + g is the height. docs/SLACK.md has the shapes, Exact.antt what they weigh.
use Rattle.std.specs.Prelude.{Bool, cond, ℕ, ◌+◌, ◌*◌, ◌-◌, ◌/◌, min, leb}
use Rattle.whole.specs.Divide.{ceil_div}
use Rattle.whole.specs.Root.{root}

-- the slope s of 25 degrees, in hundred-thousandths
abbrev pub slope25 : ℕ
slope25 = 46631

-- ---- which shape
-- half the breadth times the slope, s b/2, by which the grain rises at the low side and falls at the high side: 200,000 times that
abbrev pub rise : (b : ℕ) → ℕ
rise b = slope25 * b

-- it reaches neither deck nor floor
abbrev pub is_uncut : (b v g : ℕ) → Bool
is_uncut b v g = leb (rise b) (200000 * min v g)

-- a triangle of this area is s base²/2 great and s base high: 100,000 times its height's square, 2 s area
abbrev pub height_square : (area : ℕ) → ℕ
height_square area = 2 * slope25 * area

-- else void or grain, whichever is less, lies as a triangle where that is at most as high as the section
abbrev pub lies_in_triangle : (b v g : ℕ) → Bool
lies_in_triangle b v g = leb (height_square (b * min v g)) (100000 * ((v + g) * (v + g)))

-- ---- the moment of each shape
-- uncut: s b³/12, rounded up, as document 01 has it
abbrev pub uncut_moment : (b : ℕ) → ℕ
uncut_moment b = ceil_div (slope25 * (b * (b * b))) 1200000

-- a triangle of this area: its base is the root of 2 area/s, rounded down to whole mm
abbrev pub base : (area : ℕ) → ℕ
base area = root (200000 * area / slope25)

-- area × (b/2 − base/3), rounded up
abbrev pub triangle_moment : (b area : ℕ) → ℕ
triangle_moment b area = ceil_div (area * (3 * b - 2 * base area)) 6

-- s² is slope_square/unit_square
abbrev pub slope_square : ℕ
slope_square = slope25 * slope25

abbrev pub unit_square : ℕ
unit_square = 100000 * 100000

-- neither a triangle: b² v g/(2 h) − h³/(24 s²), rounded up, over the one divisor 2 h × 24 slope_square
abbrev pub neither_moment : (b v g h : ℕ) → ℕ
neither_moment b v g h =
    ceil_div
    (24 * slope_square * (b * b * (v * g)) - 2 * h * (unit_square * (h * h * h)))
    (2 * h * (24 * slope_square))

-- ---- the section moment
unfoldable pub deck_moment : (b v g : ℕ) → ℕ
deck_moment b v g =
    cond (is_uncut b v g) (uncut_moment b)
    (cond (lies_in_triangle b v g) (triangle_moment b (b * min v g)) (neither_moment b v g (v + g)))
