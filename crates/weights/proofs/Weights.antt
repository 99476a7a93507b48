-- KG of the load that items make, by the sums: 1, rounded up, or more than 16 bits hold.
use mathlib.Core.Path.{◌≡◌}
use Prim.Native.Nat.{◌*◌, ◌≤◌, ◌<◌}
use native.Mathlib.Omega.{arith}
use native.Mathlib.Nat.{div-zero, lt_of_mul-lt-mul_left}
use Rattle.whole.specs.Divide.{ceil_div}
use Rattle.whole.proofs.Dividing.{ceil_zero, ceil_low, ceil_le}
use Rattle.record.specs.declared.ItemSums.{ItemSums}
use Rattle.weights.specs.Weights.{weighed_kg}

module _ (s : ItemSums) where
  module _ (pd : 0 < s.tonnes) where
    -- rounded up it is at least 1, and at most what the products allow
    pub up_least : 0 < s.products → 1 ≤ ceil_div s.products s.tonnes
    up_least h =
        let some : 0 < ceil_div s.products s.tonnes = lt_of_mul-lt-mul_left s.tonnes (omega (arith, ceil_low s.products s.tonnes pd)) in
        omega arith

    pub kg_up_lem : 0 < s.products → s.products ≤ 65535 * s.tonnes → weighed_kg s ≡ ceil_div s.products s.tonnes
    unfolding weighed_kg
    kg_up_lem h m = omega (arith, up_least h, ceil_le s.products s.tonnes 65535 pd m)

    pub kg_far : 65535 * s.tonnes < s.products → weighed_kg s ≡ 65535
    unfolding weighed_kg
    kg_far h =
        let q = ceil_div s.products s.tonnes in
        let far : 65535 < q = lt_of_mul-lt-mul_left s.tonnes (omega (arith, ceil_low s.products s.tonnes pd)) in
        omega arith

  pub kg_none : s.products ≡ 0 → weighed_kg s ≡ 1
  unfolding weighed_kg
  kg_none e = rw (e, ceil_zero s.tonnes)

  pub kg_undivided : s.tonnes ≡ 0 → weighed_kg s ≡ 1
  unfolding weighed_kg
  kg_undivided e = rw (e, div-zero)
