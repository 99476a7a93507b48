-- Demand 3: when each code is given, by the figures shown; and what it says of the exact values. Proved of every ship and of every basis
-- that is `Judgeable`.
use Rattle.std.specs.Prelude.{◌≡◌, ◌↔◌, ℕ, ◌+◌, ◌*◌, ◌≤◌, ◌<◌, ℤ, pos}
use Rattle.whole.specs.Frac.{◌≼◌, ◌≺◌}
use Rattle.sign.specs.Sign.{AtMost, Under}
use Rattle.record.specs.declared.Ship.{Ship}
use Rattle.arms.specs.declared.Basis.{Basis}
use Rattle.stability.specs.declared.Verdict.{Verdict}
use Rattle.stability.specs.Verdict.{judgement_code, verdict_of}
use Rattle.arms.specs.Exact.{angle_of, OnStretch, exact_at, NotBelow, LessThan, ExactGMBelow}
use Rattle.area.specs.Exact.{exact_area}
use Rattle.stability.specs.Figures.{Figures}

-- A verdict v, the heel limit, DIFF at the k-th of the ten angles (`ten k`) and DIFF at a whole angle x (`diff x`): what they are is
-- said in Figures.antt.
module _ (s : Ship) (b : Basis) (v : Verdict) (heel : ℕ) (ten diff : ℕ → ℤ) where
  -- the verdict's code
  abbrev pub code : ℕ
  code = judgement_code v.judgement

  -- some angle that 42 names fails: one of the ten, above the heel limit and not above UPPER, or UPPER itself above the heel limit
  pub data SomeAngleFails : Type 0 where
    one_of_ten : (j : ℕ) → j < 10 → heel < angle_of j → angle_of j ≤ v.upper → Under (ten j) (pos 0) → SomeAngleFails
    at_upper : heel < v.upper → Under (diff v.upper) (pos 0) → SomeAngleFails

  -- none of the tests of 40, 41 and 42 applies
  pub record NoneApplies : Type 0 where
    pub gm : AtMost (pos 300000) v.gm
    pub at_heel : AtMost (pos 0) v.diff
    pub beyond : SomeAngleFails → ⊥

  -- each code is given exactly where its test is the first that applies, by the figures shown
  pub record Codes : Type 0 where
    pub is40 : (code ≡ 40) ↔ Under v.gm (pos 300000)
    pub is41 : (code ≡ 41) ↔ (AtMost (pos 300000) v.gm × Under v.diff (pos 0))
    pub is42 : (code ≡ 42) ↔ (AtMost (pos 300000) v.gm × AtMost (pos 0) v.diff × SomeAngleFails)
    pub is43 : (code ≡ 43) ↔ (NoneApplies × (v.area < 429718347))
    pub is00 : (code ≡ 0) ↔ (NoneApplies × (429718347 ≤ v.area))

  -- the code is one of five
  pub data OneOfFive : Type 0 where
    is00 : code ≡ 0 → OneOfFive
    is40 : code ≡ 40 → OneOfFive
    is41 : code ≡ 41 → OneOfFive
    is42 : code ≡ 42 → OneOfFive
    is43 : code ≡ 43 → OneOfFive

  -- 00: the exact GM is not below 300,000; at the heel limit always, and at every angle n/k from there to UPPER, both ends
  -- included, the exact righting arm is not below the exact heeling arm; the exact area up to UPPER is not below its limit
  pub record PassedMeans : Type 0 where
    pub gm : ExactGMBelow b 300000 → ⊥
    pub at_heel : (i : ℕ) → i < 9 → OnStretch i heel 1 → NotBelow (exact_at b i heel 1)
    pub beyond : (i n k : ℕ) → i < 9 → OnStretch i n k → heel * k ≤ n → n ≤ v.upper * k → NotBelow (exact_at b i n k)
    pub area : 429718347 ≼ exact_area b v.upper

  -- 41: the heel limit fails, and there the exact righting arm exceeds the exact heeling arm, if at all, by less than 3
  pub record ShortAtHeelMeans : Type 0 where
    pub fails : Under v.diff (pos 0)
    pub near : (i : ℕ) → i < 9 → OnStretch i heel 1 → LessThan 3 (exact_at b i heel 1)

  -- 42: some angle that 42 names fails, and at every one that fails the same bound holds
  pub record ShortBeyondMeans : Type 0 where
    pub fails : SomeAngleFails
    pub near_ten :
        (j i : ℕ) → j < 10 → i < 9 → heel < angle_of j → angle_of j ≤ v.upper → Under (ten j) (pos 0) →
        OnStretch i (angle_of j) 1 → LessThan 3 (exact_at b i (angle_of j) 1)
    pub near_upper :
        (i : ℕ) → i < 9 → heel < v.upper → Under (diff v.upper) (pos 0) →
        OnStretch i v.upper 1 → LessThan 3 (exact_at b i v.upper 1)

  -- Demand 3 of these figures. The heel limit and UPPER are angles that lie on the nine stretches (`EveryAngle`), so that what is
  -- said of each stretch is said of each angle.
  pub record Holds : Type 0 where
    pub figures : Figures s b v heel ten diff
    pub codes : Codes
    pub heel_within : heel ≤ 1200
    pub upper_within : v.upper ≤ 4000
    pub one_of : OneOfFive
    pub forty_exactly : (code ≡ 40) ↔ ExactGMBelow b 300000
    pub at00 : code ≡ 0 → PassedMeans
    pub at41 : code ≡ 41 → ShortAtHeelMeans
    pub at42 : code ≡ 42 → ShortBeyondMeans
    pub at43 : code ≡ 43 → exact_area b v.upper ≺ 429718347 + 12009

-- Demand 3 of the verdict on a ship and a basis: there are a heel limit and DIFFs as document 01 has them, and of these it holds
pub record Demand3 (s : Ship) (b : Basis) : Type 0 where
  pub heel : ℕ
  pub ten : ℕ → ℤ
  pub diff : ℕ → ℤ
  pub holds : Holds s b (verdict_of s b) heel ten diff
