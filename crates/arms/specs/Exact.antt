-- Document 01, the exact values, with no rounding: from the fields of a basis, which is the two columns around D, the load and the
-- whole W. The paper's numbers stand here once more, and no formula is shared with the definitions that compute the figures shown (Arms
-- here, Area in `area`, Verdict in `stability`). Each value is a whole number over one denominator above zero, and the exact curves are the straight lines from each of
-- the ten angles to the next. Angles and stretches are counted from 0.
use Rattle.std.specs.Prelude.{◌≡◌, List, [], ◌∷◌, ℕ, suc, ◌+◌, ◌*◌, ◌-◌, ◌≤◌, ◌<◌, ℤ, get_or}
use Rattle.std.proofs.Common.{arith, mul-pos}
use Rattle.sign.specs.Sign.{plus, minus}
use Rattle.arms.specs.declared.Basis.{Basis}

-- ---- the ten angles, in hundredths of a degree, and their sines, in millionths, as printed
abbrev pub printed_angles : List ℕ
printed_angles = 0 ∷ 500 ∷ 1000 ∷ 1200 ∷ 1500 ∷ 2000 ∷ 2500 ∷ 3000 ∷ 3500 ∷ 4000 ∷ []

abbrev pub printed_sines : List ℕ
printed_sines = 0 ∷ 87156 ∷ 173648 ∷ 207912 ∷ 258819 ∷ 342020 ∷ 422618 ∷ 500000 ∷ 573576 ∷ 642788 ∷ []

unfoldable pub angle_of : ℕ → ℕ
angle_of k = get_or printed_angles k 0

unfoldable pub sine_of : ℕ → ℕ
sine_of k = get_or printed_sines k 0

-- ---- the arms
-- D₂ − D₁
abbrev pub apart : Basis → ℕ
apart b = b.high.d - b.low.d

-- the value at D on the straight line from x at D₁ to y at D₂, from mm to µm: this over D₂ − D₁
abbrev pub at_d : Basis → (x y : ℕ) → ℕ
at_d b x y = 1000 * (x * (b.high.d - b.load.d) + y * (b.load.d - b.low.d))

-- KM, and KN at the k-th angle, over D₂ − D₁
abbrev pub km_over : Basis → ℕ
km_over b = at_d b b.low.km b.high.km

abbrev pub kn_over : Basis → ℕ → ℕ
kn_over b k = at_d b (get_or b.low.kn k 0) (get_or b.high.kn k 0)

-- fluid KG × sine, over 1,000
abbrev pub kg_over : Basis → ℕ → ℕ
kg_over b k = (b.load.kg + b.load.fs) * sine_of k

-- the heeling arm, over 20,000 × D
abbrev pub heel_over : Basis → ℕ → ℕ
heel_over b k = 1000 * b.weight * (20000 - angle_of k)

-- at 40 degrees it is 0.8 of the first, as the Code has it
pub eight_tenths : (b : Basis) → 10 * heel_over b 9 ≡ 8 * heel_over b 0
unfolding angle_of
eight_tenths b = omega arith

-- the one denominator of all arms
abbrev pub den : Basis → ℕ
den b = apart b * (1000 * (20000 * b.load.d))

-- over it: KN; and what is taken from it, fluid KG × sine and the heeling arm. Righting less heeling arm is (exact_kn − exact_taken)/den.
abbrev pub exact_kn : Basis → ℕ → ℕ
exact_kn b k = kn_over b k * (1000 * (20000 * b.load.d))

abbrev pub exact_taken : Basis → ℕ → ℕ
exact_taken b k = kg_over b k * (apart b * (20000 * b.load.d)) + heel_over b k * (apart b * 1000)

-- ---- angles between the ten
-- An angle on the i-th stretch is n/k, with angle i ≤ n/k ≤ angle (i + 1).
pub record OnStretch (i n k : ℕ) : Type 0 where
  pub scale : 0 < k
  pub from : angle_of i * k ≤ n
  pub to : n ≤ angle_of (suc i) * k

-- some stretch of the nine holds the angle n/k
pub record Lies (n k : ℕ) : Type 0 where
  pub stretch : ℕ
  pub within : stretch < 9
  pub on : OnStretch stretch n k

-- every angle up to 40 degrees lies on one of the nine stretches
abbrev pub EveryAngle : Type 0
EveryAngle = (n k : ℕ) → 0 < k → n ≤ 4000 * k → Lies n k

-- the width of the i-th stretch
abbrev pub wide : ℕ → ℕ
wide i = angle_of (suc i) - angle_of i

-- the value at n/k on the straight line of the i-th stretch, whose ends are f i and f (i + 1): this over wide i × k
abbrev pub along : (ℕ → ℕ) → (i n k : ℕ) → ℕ
along f i n k = f i * (angle_of (suc i) * k - n) + f (suc i) * (n - angle_of i * k)

-- ---- an exact value as two whole numbers over one denominator: (rights − takes)/over
pub record Exact : Type 0 where
  pub rights : ℕ
  pub takes : ℕ
  pub over : ℕ

-- the exact GM, KM − (KG + FS); the exact righting arm at the k-th of the ten angles
abbrev pub exact_gm : Basis → Exact
exact_gm b = record { rights = km_over b; takes = 1000 * (b.load.kg + b.load.fs) * apart b; over = apart b }

abbrev pub exact_righting : Basis → ℕ → Exact
exact_righting b k = record { rights = 1000 * kn_over b k; takes = apart b * kg_over b k; over = apart b * 1000 }

-- the exact righting arm less the exact heeling arm, at the k-th of the ten angles
abbrev pub exact_ten : Basis → ℕ → Exact
exact_ten b k = record { rights = exact_kn b k; takes = exact_taken b k; over = den b }

-- at n/k on the i-th stretch
abbrev pub exact_at : Basis → (i n k : ℕ) → Exact
exact_at b i n k =
    record { rights = along (exact_kn b) i n k; takes = along (exact_taken b) i n k; over = wide i * k * den b }

-- it is not below zero: the exact righting arm is not below the exact heeling arm
abbrev pub NotBelow : Exact → Type 0
NotBelow e = e.takes ≤ e.rights

-- it is less than w
abbrev pub LessThan : ℕ → Exact → Type 0
LessThan w e = e.rights < e.takes + w * e.over

-- it is not below z; it is less than z + w
abbrev pub NotUnder : ℤ → Exact → Type 0
NotUnder z e = plus z * e.over + e.takes ≤ e.rights + minus z * e.over

abbrev pub LessOver : ℤ → ℕ → Exact → Type 0
LessOver z w e = e.rights + minus z * e.over < (plus z + w) * e.over + e.takes

-- the exact GM is below c
abbrev pub ExactGMBelow : Basis → ℕ → Type 0
ExactGMBelow b c = LessThan c (exact_gm b)

-- the denominators are above zero where the columns are apart and D is above zero
pub overs_some : (b : Basis) → 0 < apart b → 0 < b.load.d → (0 < (exact_gm b).over) × ((k : ℕ) → 0 < (exact_righting b k).over) × ((k : ℕ) → 0 < (exact_ten b k).over)
overs_some b a d =
    (a, λ k. mul-pos a (omega arith), λ k. mul-pos a (mul-pos {m = 1000} (omega arith) (mul-pos {m = 20000} (omega arith) d)))

-- what is taken in the difference is what the exact righting arm takes, and the heeling arm, over the one denominator
pub ten_takes : (b : Basis) (k : ℕ) → (exact_ten b k).takes ≡ (exact_righting b k).takes * (20000 * b.load.d) + heel_over b k * (exact_righting b k).over
ten_takes b k = omega arith
