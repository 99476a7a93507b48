-- Document 02, P5, in its own words: the sums are those of the items taken since the start or the last removal, as the history of lines tells it; the load
-- that they make; which lines are those of weights.
use Rattle.std.specs.Prelude.{◌≡◌, cond, List, [], ◌∷◌, ◌↔◌, ℕ, ◌≤◌, eqb, Option, Some, None}
use Rattle.record.specs.declared.Load.{Load}
use Rattle.record.specs.declared.WeightItem.{WeightItem}
use Rattle.record.specs.declared.Weighing.{Weighing}
use Rattle.record.specs.declared.Weighing.TheVariants.{Weight, Weighed, Unweigh}
use Rattle.limits.specs.Ranges.{LoadRange}
use Rattle.weights.specs.Items.{sums_of, CanBeTaken, KgOf}
use Rattle.text.specs.Token.{Token, opened, run, tokens}
use Rattle.forms.specs.declared.Request.{Request}
use Rattle.forms.specs.declared.Request.TheVariants.{ShipLine, ColumnLine, LoadLine, HoldLine, DropLine, JudgeLine, ClearLine, ShowLine, TotalLine, WeighingLine}
use Rattle.showing.specs.Laws.{WeighingOf, WeighingWord}
use Rattle.condition.specs.declared.Condition.{Condition}
use Rattle.condition.specs.Condition.{empty}
use Rattle.panel.specs.Step.{step_of, Sent, condition_after}
use Rattle.sending.specs.Within.{Within}
use Rattle.demands.specs.Codes.{request, SoundLine, Asks}

-- ---- the history of lines: each line that was sent, with the code that it got
pub record Coded : Type 0 where
  pub line : List ℕ
  pub code : ℕ

unfoldable pub history : Condition → List Sent → List Coded
history c [] = []
history c (l ∷ ls) =
    record { line = l.line; code = (step_of c l.line l.lent).code } ∷ history (step_of c l.line l.lent).after ls

-- the items there are behind a line that was taken: weight brings one more, unweigh and clear remove all
abbrev pub items_by : Option Request → List WeightItem → List WeightItem
items_by (Some (WeighingLine (Weight i))) items = i ∷ items
items_by (Some (WeighingLine Unweigh)) items = []
items_by (Some ClearLine) items = []
items_by (Some (WeighingLine (Weighed fs))) items = items
items_by (Some (ShipLine s)) items = items
items_by (Some (ColumnLine k)) items = items
items_by (Some (LoadLine l)) items = items
items_by (Some (HoldLine n h)) items = items
items_by (Some (DropLine n)) items = items
items_by (Some JudgeLine) items = items
items_by (Some ShowLine) items = items
items_by (Some TotalLine) items = items
items_by None items = items

-- and behind the lines of a history, from these items on: one that was turned down brings and removes none
unfoldable pub items_from : List WeightItem → List Coded → List WeightItem
items_from items [] = items
items_from items (t ∷ ts) = items_from (cond (eqb t.code 0) (items_by (request t.line) items) items) ts

-- the items taken since the start or the last removal, once these lines were sent to a panel newly started
abbrev pub items_taken : List Sent → List WeightItem
items_taken ls = items_from [] (history empty ls)

-- the sums that the condition keeps are those of just these items, in every condition that lines can reach
abbrev pub SumsAreOfTheItems : Type 0
SumsAreOfTheItems = (ls : List Sent) → (condition_after empty ls).sums ≡ sums_of (items_taken ls)

-- each of them within its limits, together at most 400,000 tonnes
abbrev pub ItemsCanBeTaken : Type 0
ItemsCanBeTaken = (ls : List Sent) → CanBeTaken (items_taken ls)

-- ---- the load that items make: D their sum, KG the summed products divided by D, rounded up, with 1 for a KG of 0, FS; within the limits of a load
pub record LoadOf (items : List WeightItem) (fs : ℕ) (l : Load) : Type 0 where
  pub d : l.d ≡ (sums_of items).tonnes
  pub kg : KgOf (sums_of items) l.kg
  pub rise : l.fs ≡ fs
  pub range : LoadRange l

-- a weighed line that is taken makes it from the items taken, however many lines went before
abbrev pub WeighedMakesTheLoad : Type 0
WeighedMakesTheLoad =
    (ls : List Sent) (line : List ℕ) (lent fs : ℕ) → request line ≡ Some (WeighingLine (Weighed fs)) → (step_of (condition_after empty ls) line lent).code ≡ 0 →
    (l : Load) × ((step_of (condition_after empty ls) line lent).after.load ≡ Some l) × LoadOf (items_taken ls) fs l

-- in every condition within its limits it makes one within the limits of a load
abbrev pub WeighedIsWithin : Type 0
WeighedIsWithin =
    (c : Condition) (line : List ℕ) (lent fs : ℕ) → Within c → request line ≡ Some (WeighingLine (Weighed fs)) → (step_of c line lent).code ≡ 0 →
    (l : Load) × ((step_of c line lent).after.load ≡ Some l) × LoadRange l

-- ---- a line to which none of 10 to 13 and 15 applies is one of weights exactly where it is `(weight T H)`, `(weighed FS)` or `(unweigh)`, whatever the
-- spaces
abbrev pub WeighingStandsAlone : Type 0
WeighingStandsAlone =
    (line : List ℕ) (lent : ℕ) (w : Weighing) → Asks line lent (Some (WeighingLine w)) ↔ ((96 ≤ lent) × SoundLine line × WeighingOf w (tokens line))

-- with anything else behind one of their words it is 14
abbrev pub WeighingWithOther : Type 0
WeighingWithOther =
    (c : Condition) (line : List ℕ) (lent : ℕ) (word : List ℕ) (behind : List Token) → 96 ≤ lent → SoundLine line → WeighingWord word →
    tokens line ≡ opened ∷ run word ∷ behind → ((w : Weighing) → WeighingOf w (tokens line) → ⊥) → (step_of c line lent).code ≡ 14
