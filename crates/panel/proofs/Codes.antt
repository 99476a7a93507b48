-- The codes of each request (document 01) and of every line, and that every one but 00 leaves the condition as it was.
use mathlib.Core.Path.{◌≡◌, refl}
use mathlib.Core.Bool.{Bool, true, false, cond}
use mathlib.Core.List.{List, [], ◌∷◌}
use Prim.Native.Nat.{ℕ}
use lib.Dec.{ltb}
use Rattle.whole.specs.Lists.{all, is_one_of}
use Rattle.whole.proofs.Lists.{among}
use Rattle.record.specs.declared.Weighing.TheVariants.{Weight, Weighed, Unweigh}
use Rattle.stability.specs.declared.Shortfall.TheVariants.{ShortOfGm, ShortAtHeel, ShortBeyond, ShortOfArea}
use Rattle.stability.specs.Verdict.{Judgement, judgement_code, verdict_of}
use Rattle.std.specs.Prelude.{Option, Some, None, Ok, Err}
use Rattle.line_codes.specs.declared.Fault.TheVariants.{TooLong, BadByte, NotOneForm, BadNumber, NoShape}
use Rattle.text.specs.Token.{Token, tokens}
use Rattle.line_codes.specs.Line.{Reading, reading_of}
use Rattle.forms.specs.declared.Request.{Request}
use Rattle.forms.specs.declared.Request.TheVariants.{ShipLine, ColumnLine, LoadLine, HoldLine, DropLine, JudgeLine, ClearLine, ShowLine, TotalLine, WeighingLine}
use Rattle.request.specs.Shape.{request_of}
use Rattle.condition.specs.declared.Condition.{Condition}
use Rattle.judging.specs.Judge.{Judged, basis_at, refusal_code}
use Rattle.judging.proofs.Shown.{refusals, refusal_listed, judged_by_lem}
use Rattle.operations.specs.Operations.{Change}
use Rattle.operations.proofs.Right.{Right, right_taken, right_same, right_if, ship_right, load_right, column_right, hold_right, drop_right, weighing_codes, weighing_right}
use Rattle.panel.specs.Step.{Outcome, verdict_given, show_code, outcome_of, outcome_asked, outcome_after, step_of}

-- the codes of each request
abbrev pub codes_of : Request → List ℕ
codes_of (ShipLine s) = 0 ∷ 20 ∷ []
codes_of (ColumnLine k) = 0 ∷ 20 ∷ 22 ∷ 23 ∷ []
codes_of (LoadLine l) = 0 ∷ 20 ∷ []
codes_of (HoldLine n h) = 0 ∷ 20 ∷ 21 ∷ []
codes_of (DropLine n) = 0 ∷ 20 ∷ 24 ∷ []
codes_of JudgeLine = 0 ∷ 30 ∷ 31 ∷ 32 ∷ 33 ∷ 34 ∷ 40 ∷ 41 ∷ 42 ∷ 43 ∷ []
codes_of ClearLine = 0 ∷ []
codes_of ShowLine = 0 ∷ 16 ∷ []
codes_of TotalLine = 0 ∷ []
codes_of (WeighingLine w) = weighing_codes w

-- of all requests, and of a line of no shape
abbrev pub request_codes : List ℕ
request_codes = 0 ∷ 14 ∷ 16 ∷ 20 ∷ 21 ∷ 22 ∷ 23 ∷ 24 ∷ 26 ∷ 27 ∷ 30 ∷ 31 ∷ 32 ∷ 33 ∷ 34 ∷ 40 ∷ 41 ∷ 42 ∷ 43 ∷ []

codes_listed : (r : Request) → all (is_one_of request_codes) (codes_of r) ≡ true
unfolding all is_one_of
codes_listed (ShipLine s) = refl
codes_listed (ColumnLine k) = refl
codes_listed (LoadLine l) = refl
codes_listed (HoldLine n h) = refl
codes_listed (DropLine n) = refl
codes_listed JudgeLine = refl
codes_listed ClearLine = refl
codes_listed ShowLine = refl
codes_listed TotalLine = refl
codes_listed (WeighingLine (Weight i)) = refl
codes_listed (WeighingLine (Weighed fs)) = refl
codes_listed (WeighingLine Unweigh) = refl

-- of every line
abbrev pub every : List ℕ
every = 10 ∷ 11 ∷ 12 ∷ 13 ∷ 15 ∷ request_codes

-- what an outcome does to the condition
abbrev pub changed : Outcome → Change
changed o = record { code = o.code; after = o.after }

module _ (c : Condition) where
  judgement_listed : (j : Judgement) → is_one_of (codes_of JudgeLine) (judgement_code j) ≡ true
  unfolding is_one_of
  judgement_listed (Ok u) = refl
  judgement_listed (Err ShortOfGm) = refl
  judgement_listed (Err ShortAtHeel) = refl
  judgement_listed (Err ShortBeyond) = refl
  judgement_listed (Err ShortOfArea) = refl

  right_refusal : (n : ℕ) → is_one_of refusals n ≡ true → is_one_of (codes_of JudgeLine) n ≡ true
  unfolding is_one_of all
  right_refusal n e = among refusals (codes_of JudgeLine) n refl e

  show_listed : (x : Bool) → is_one_of (codes_of ShowLine) (cond x 16 0) ≡ true
  unfolding is_one_of
  show_listed true = refl
  show_listed false = refl

  module _ (ts : List Token) (lent : ℕ) where
    pub right_by : (r : Request) → Right (codes_of r) c (changed (outcome_of c ts lent r))
    unfolding is_one_of outcome_of
    right_by (ShipLine s) = ship_right c s
    right_by (ColumnLine k) = column_right c k
    right_by (LoadLine l) = load_right c l
    right_by (HoldLine n h) = hold_right c n h
    right_by (DropLine n) = drop_right c n
    right_by JudgeLine =
        judged_by_lem c (λ (j : Judged). Right (codes_of JudgeLine) c (changed (verdict_given c j)))
        (λ r. right_same c _ (right_refusal (refusal_code r) (refusal_listed r)))
        (λ s l i. right_same c _ (judgement_listed (verdict_of s (basis_at c l i)).judgement))
    right_by ClearLine = right_taken c _ refl
    right_by ShowLine = right_same c (show_code lent) (show_listed (ltb lent 2100))
    right_by TotalLine = right_same c 0 refl
    right_by (WeighingLine w) = weighing_right c w

    pub request_code : (o : Option Request) → is_one_of request_codes (outcome_asked c ts lent o).code ≡ true
    unfolding is_one_of
    request_code (Some r) = among (codes_of r) request_codes _ (codes_listed r) (right_by r).listed
    request_code None = refl

    right_asked : (o : Option Request) → Right every c (changed (outcome_asked c ts lent o))
    unfolding all is_one_of
    right_asked (Some r) =
        record {
          listed = among request_codes every (outcome_of c ts lent r).code refl (request_code (Some r));
          unchanged = (right_by r).unchanged;
        }
    right_asked None = right_same c 14 refl

  module _ (line : List ℕ) (lent : ℕ) where
    right_after : (t : Reading) → Right every c (changed (outcome_after c line lent t))
    unfolding is_one_of
    right_after (Ok u) = right_asked (tokens line) lent (request_of (tokens line))
    right_after (Err TooLong) = right_same c 10 refl
    right_after (Err BadByte) = right_same c 11 refl
    right_after (Err NotOneForm) = right_same c 12 refl
    right_after (Err BadNumber) = right_same c 13 refl
    right_after (Err NoShape) = right_same c 14 refl

    pub right : Right every c (changed (step_of c line lent))
    unfolding step_of is_one_of
    right = right_if c changed (ltb lent 96) (right_same c 15 refl) (right_after (reading_of line))
