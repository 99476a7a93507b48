-- The rule of Table B 1-1, shown over the whole table: each test is computed once, and a law turns it into the rule at each entry.
use mathlib.Core.Path.{◌≡◌, sym}
use Prim.Native.Nat.{ℕ, ◌+◌, ◌*◌, ◌-◌, ◌/◌, ◌%◌, ◌≤◌, ◌<◌}
use native.Mathlib.Omega.{arith}
use native.Mathlib.Nat.{mul-le-mul_right}
use native.Mathlib.Decide.{dec_le}
use lib.Dec.{eqb, leb, eqb→eq, leb→le}
use lib.ListN.{get_or}
use borrow.Author.Tests.{lt-ltb, le-ltb, le-leb, lt-leb}
use Rattle.whole.specs.Line.{on_line}
use Rattle.whole.proofs.Tables.{at}
use Rattle.whole.proofs.Lines.{line_end_lem}
use Rattle.cells.specs.Depth.{distances, depths, standard_depth}

-- every entry stands 500 mm behind the one before
pub distance_is : (k : ℕ) → k < 16 → get_or distances k 0 ≡ 500 * (k + 1)
distance_is k h = eqb→eq _ _ (at (λ k x. eqb x (500 * (k + 1))) distances tt k h)

-- no entry is above 590
pub depth_le : (k : ℕ) → k < 16 → get_or depths k 0 ≤ 590
depth_le k h = leb→le _ _ (at (λ k x. leb x 590) depths tt k h)

-- ---- the three rules
pub below_first : (x : ℕ) → x < 500 → 500 * 570 ≡ standard_depth x
unfolding standard_depth
below_first x h = simp (lt-ltb x 500 h)

pub above_last : (x : ℕ) → 8000 ≤ x → 500 * 590 + 40 * (x - 8000) ≡ standard_depth x
unfolding standard_depth
above_last x h =
    let k : 500 ≤ x = omega arith in simp (le-ltb x 500 k, le-leb 8000 x h)

module _ (x : ℕ) (low : 500 ≤ x) (high : x < 8000) where
  pub between : on_line 500 (x % 500) (get_or depths (x / 500 - 1) 0) (get_or depths (x / 500) 0) ≡ standard_depth x
  unfolding standard_depth
  between =
      let e : x - get_or distances (x / 500 - 1) 0 ≡ x % 500 = omega (arith, distance_is (x / 500 - 1) (omega arith)) in
      let f : x / 500 - 1 + 1 ≡ x / 500 = omega arith in
      simp (le-ltb x 500 low, lt-leb 8000 x high, e, f)

  pub between_le : on_line 500 (x % 500) (get_or depths (x / 500 - 1) 0) (get_or depths (x / 500) 0) ≤ 590 * 500
  between_le =
      omega (arith, mul-le-mul_right (500 - x % 500) (depth_le (x / 500 - 1) (omega arith)), mul-le-mul_right (x % 500) (depth_le (x / 500) (omega arith)))

-- ---- the table's rule: the printed depth at each entry, and the straight line from each entry to the next
pub at_entries : (k : ℕ) → k < 16 → standard_depth (get_or distances k 0) ≡ 500 * get_or depths k 0
unfolding standard_depth
at_entries k h = eqb→eq _ _ (at (λ k x. eqb (standard_depth x) (500 * get_or depths k 0)) distances tt k h)

pub interpolates : (k t : ℕ) → k < 15 → t ≤ 500 → standard_depth (get_or distances k 0 + t) ≡ on_line 500 t (get_or depths k 0) (get_or depths (k + 1) 0)
interpolates k t h l = go (dec_le 500 t)
  where
    d : get_or distances k 0 ≡ 500 * (k + 1)
    d = distance_is k (omega arith)

    end : 500 ≤ t → get_or distances k 0 + t ≡ get_or distances (k + 1) 0
    end f = omega (arith, d, distance_is (k + 1) (omega arith))

    go : Dec (500 ≤ t) → standard_depth (get_or distances k 0 + t) ≡ on_line 500 t (get_or depths k 0) (get_or depths (k + 1) 0)
    go (yes f) =
        let e : t ≡ 500 = omega arith in
        rw (end f, at_entries (k + 1) (omega arith), e) (sym (line_end_lem 500 (get_or depths k 0) (get_or depths (k + 1) 0)))
    go (no f) =
        let x : ℕ = get_or distances k 0 + t in
        let q : x / 500 - 1 ≡ k = omega (arith, d) in
        let r : x % 500 ≡ t = omega (arith, d) in
        let q' : x / 500 ≡ k + 1 = omega (arith, d) in
        sym (rw (q, r, q') at (between x (omega (arith, d)) (omega (arith, d))))
