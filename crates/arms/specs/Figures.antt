-- Document 01, what GM and DIFF are: each fixed by products of the records' own fields, and no definition that computes them is named.
use Rattle.std.specs.Prelude.{◌≡◌, ℕ, ◌+◌, ◌*◌, ◌≤◌, ◌<◌, ℤ}
use Rattle.sign.specs.Sign.{plus, minus}
use Rattle.arms.specs.declared.Basis.{Basis}
use Rattle.arms.specs.Exact.{apart, kn_over, kg_over, heel_over}

-- z is (p − m)/h rounded down, below zero too: h × z ≤ p − m < h × z + h
pub record TowardsLower (p m h : ℕ) (z : ℤ) : Type 0 where
  pub low : plus z * h + m ≤ p + minus z * h
  pub high : p + minus z * h < (plus z + 1) * h + m

-- d is DIFF at the k-th of the ten angles, kn − kg − heeling: KN rounded down, less fluid KG × sine rounded up, less the heeling arm
-- rounded up
pub record DiffIs (b : Basis) (k : ℕ) (d : ℤ) : Type 0 where
  pub kn : ℕ
  pub kg : ℕ
  pub heeling : ℕ
  pub kn_down : (apart b * kn ≤ kn_over b k) × (kn_over b k < apart b * kn + apart b)
  pub kg_up : (kg_over b k ≤ 1000 * kg) × (1000 * kg < kg_over b k + 1000)
  pub heeling_up :
      (heel_over b k ≤ 20000 * b.load.d * heeling) × (20000 * b.load.d * heeling < heel_over b k + 20000 * b.load.d)
  pub less : plus d + (kg + heeling) ≡ kn + minus d
