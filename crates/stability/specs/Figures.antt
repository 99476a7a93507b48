-- Document 01, what the figures of a verdict are: each fixed by products of the records' own fields, and no definition that computes them is
-- named. What GM, DIFF and AREA are is said in `arms` and `area`.
use Rattle.std.specs.Prelude.{◌≡◌, ℕ, ◌+◌, ◌*◌, ◌≤◌, ◌<◌, min, ℤ}
use Rattle.sign.specs.Sign.{plus, minus, AtMost, Under}
use Rattle.record.specs.declared.Rule.TheVariants.{New}
use Rattle.record.specs.declared.Ship.{Ship}
use Rattle.arms.specs.declared.Basis.{Basis}
use Rattle.arms.specs.Exact.{angle_of, apart, km_over, den, OnStretch, wide, along}
use Rattle.arms.specs.Figures.{TowardsLower, DiffIs}
use Rattle.area.specs.Figures.{AreaIs}
use Rattle.stability.specs.declared.Verdict.{Verdict}

-- h is the heel limit: 1,200, or under `new` EDGE, and not above either
pub data EdgeOr1200 (s : Ship) (h : ℕ) : Type 0 where
  is1200 : h ≡ 1200 → EdgeOr1200 s h
  is_edge : (edge : ℕ) → s.rule ≡ New edge → h ≡ edge → EdgeOr1200 s h

pub record HeelIs (s : Ship) (h : ℕ) : Type 0 where
  pub most : h ≤ 1200
  pub edge : (edge : ℕ) → s.rule ≡ New edge → h ≤ edge
  pub is : EdgeOr1200 s h

-- u is UPPER: the least of the ten angles at which DIFF is greatest, or FLOOD if smaller
pub record UpperIs (s : Ship) (ten : ℕ → ℤ) (u : ℕ) : Type 0 where
  pub peak : ℕ
  pub within : peak < 10
  pub greatest : (k : ℕ) → k < 10 → AtMost (ten k) (ten peak)
  pub least : (k : ℕ) → k < peak → Under (ten k) (ten peak)
  pub is : u ≡ min s.flood (angle_of peak)

-- The figures of a verdict v: GM; the heel limit; DIFF at the ten angles, and at a whole angle x, on each stretch that holds it; the
-- DIFF shown, that at the heel limit; UPPER; AREA. The denominators of the exact values are above zero.
pub record Figures (s : Ship) (b : Basis) (v : Verdict) (heel : ℕ) (ten diff : ℕ → ℤ) : Type 0 where
  pub over : 0 < den b
  pub gm : TowardsLower (km_over b) (1000 * (b.load.kg + b.load.fs) * apart b) (apart b) v.gm
  pub heel_limit : HeelIs s heel
  pub tens : (k : ℕ) → k < 10 → DiffIs b k (ten k)
  pub between :
      (i x : ℕ) → i < 9 → OnStretch i x 1 →
      TowardsLower (along (λ k. plus (ten k)) i x 1) (along (λ k. minus (ten k)) i x 1) (wide i) (diff x)
  pub shown : v.diff ≡ diff heel
  pub upper : UpperIs s ten v.upper
  pub area : AreaIs ten v.upper v.area
