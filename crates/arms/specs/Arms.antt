-- Document 01, Arms and verdict: GM, righting and heeling arms and DIFF, in µm.
use Rattle.std.specs.Prelude.{List, ℕ, ◌+◌, ◌*◌, ◌-◌, ◌/◌, get_or, ℤ, pos, ◌-ℤ◌}
use Rattle.std.proofs.Math.IntN.{sub_ℕ}
use Rattle.sign.specs.Sign.{plus, minus}
use Rattle.whole.specs.Divide.{ceil_div}
use Rattle.whole.specs.Line.{on_line, round_down}
use Rattle.whole.specs.Lists.{tabulate}
use Rattle.arms.specs.declared.Basis.{Basis}
use Rattle.arms.specs.Angles.{angle, sine}

-- D₂ − D₁ and D − D₁
abbrev pub span : Basis → ℕ
span b = b.high.d - b.low.d

abbrev pub past : Basis → ℕ
past b = b.load.d - b.low.d

-- span times the value at D on the straight line from x at D₁ to y at D₂
abbrev pub interpolated : Basis → ℕ → ℕ → ℕ
interpolated b x y = on_line (span b) (past b) x y

-- fluid KG, in mm
abbrev pub fluid_kg : Basis → ℕ
fluid_kg b = b.load.kg + b.load.fs

-- KM and KN at the k-th angle, in µm and times span
abbrev pub span_km : Basis → ℕ
span_km b = 1000 * interpolated b b.low.km b.high.km

abbrev pub span_kn : Basis → ℕ → ℕ
span_kn b k = 1000 * interpolated b (get_or b.low.kn k 0) (get_or b.high.kn k 0)

-- GM: KM less fluid KG, rounded down
unfoldable pub gm : Basis → ℤ
gm b = round_down (span_km b) (1000 * fluid_kg b * span b) (span b)

-- KN, rounded down
unfoldable pub kn_arm : Basis → ℕ → ℕ
kn_arm b k = span_kn b k / span b

-- fluid KG × sine, rounded up: mm × millionths are thousandths of a µm
unfoldable pub kg_arm : Basis → ℕ → ℕ
kg_arm b k = ceil_div (fluid_kg b * sine k) 1000

-- the righting arm at the k-th angle
unfoldable pub righting_arm : Basis → ℕ → ℤ
righting_arm b k = sub_ℕ (kn_arm b k) (kg_arm b k)

-- the heeling arm: 1,000 × W/D × (20,000 − angle)/20,000, rounded up
unfoldable pub heeling_arm : Basis → ℕ → ℕ
heeling_arm b k = ceil_div (1000 * b.weight * (20000 - angle k)) (20000 * b.load.d)

-- DIFF at the k-th angle
unfoldable pub diff : Basis → ℕ → ℤ
diff b k = righting_arm b k -ℤ pos (heeling_arm b k)

-- the three at each of the ten angles
abbrev pub righting_arms : Basis → List ℤ
righting_arms b = tabulate 10 (righting_arm b)

abbrev pub heeling_arms : Basis → List ℕ
heeling_arms b = tabulate 10 (heeling_arm b)

abbrev pub diffs : Basis → List ℤ
diffs b = tabulate 10 (diff b)

-- the parts of the k-th DIFF above and below zero
abbrev pub plus_at : List ℤ → ℕ → ℕ
plus_at ds k = plus (get_or ds k (pos 0))

abbrev pub minus_at : List ℤ → ℕ → ℕ
minus_at ds k = minus (get_or ds k (pos 0))
