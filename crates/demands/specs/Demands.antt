-- The three demands (document 00), and show, total, the weight items and boards (document 02, P2, P4, P5 and P7), of the step of one line and of its repetition over any list of lines. Proved in
-- proofs/Demands.antt. What each layer says by itself stands there: line_codes/specs/Codes.antt, limits/specs/Ranges.antt,
-- cells/specs/Figures.antt, slack/specs/Exact.antt, boards/specs/Exact.antt, grain/specs/Figures.antt, stability/specs/Demand.antt, reply/specs/Shown.antt,
-- judging/specs/Codes.antt, operations/specs/Codes.antt, storing/specs/Stores.antt, spelling/specs/SoSpelled.antt, weights/specs/Items.antt, sending/specs/Laws.antt;
-- the codes of a line in Codes.antt, show in Show.antt, total in Total.antt, weight items in Items.antt, boards in Boards.antt, the worked runs in Runs.antt.
use Rattle.std.specs.Prelude.{◌≡◌, true, List, [], ◌∷◌, ◌++◌, ◌↔◌, ℕ, ◌+◌, ◌-◌, ◌≤◌, ◌<◌, length, get_or, Some}
use Rattle.whole.specs.Lists.{is_one_of}
use Rattle.record.specs.declared.Ship.{Ship}
use Rattle.record.specs.declared.Load.{Load}
use Rattle.record.specs.declared.Column.{Column}
use Rattle.record.specs.declared.Hold.{Hold}
use Rattle.record.specs.declared.WeightItem.{WeightItem}
use Rattle.record.specs.declared.Weighing.TheVariants.{Weight, Weighed, Unweigh}
use Rattle.record.specs.Held.{held}
use Rattle.record.specs.Filler.{no_column, no_hold}
use Rattle.boards.specs.Laws.{Laws}
use Rattle.grain.specs.Figures.{total, WeightMoment}
use Rattle.grain.specs.Boards.{BoardsAddNoWeight}
use Rattle.arms.specs.declared.Basis.{Basis}
use Rattle.stability.specs.Verdict.{judgement_code, verdict_of}
use Rattle.arms.specs.Exact.{EveryAngle}
use Rattle.stability.specs.Demand.{Demand3}
use Rattle.stability.specs.Margins.{Margins}
use Rattle.text.specs.Token.{number_of}
use Rattle.line_codes.specs.Codes.{LetterOrDigit, NumberIs}
use Rattle.forms.specs.declared.Request.TheVariants.{ShipLine, ColumnLine, LoadLine, HoldLine, DropLine, JudgeLine, ClearLine, ShowLine, TotalLine, WeighingLine}
use Rattle.reply.specs.Written.{over}
use Rattle.reply.specs.Shown.{AtFront, AnswerShown, RefusalShown, VerdictShown}
use Rattle.condition.specs.declared.Condition.{Condition}
use Rattle.condition.specs.Condition.{empty}
use Rattle.condition.specs.Empty.{Nothing}
use Rattle.total.specs.Total.{weight}
use Rattle.panel.specs.Step.{Outcome, step_of, Sent, condition_after, outcomes}
use Rattle.weights.specs.Items.{SumsOfItems}
use Rattle.judging.specs.Complete.{Places, InRanges, Complete}
use Rattle.storing.specs.Stores.{ShipStored, LoadStored, ColumnStored, HoldStored, HoldDropped, ItemStored, WeighedStored, ItemsRemoved}
use Rattle.showing.specs.Laws.{TakenAsSplit}
use Rattle.sending.specs.Within.{Within}
use Rattle.sending.specs.Laws.{RecordsCanBeSent}
use Rattle.demands.specs.Codes.{request, Asks, ByOperation}
use Rattle.demands.specs.Show.{ShowsAForm, ShowsTheForm, ShapesAreFourDeep}
use Rattle.demands.specs.Total.{StoredIsTheSum, TotalStandsAlone, TotalWithItems, TotalsAreShown, StoredIsShown, SentWeighTheSame}
use Rattle.demands.specs.Items.{SumsAreOfTheItems, ItemsCanBeTaken, WeighedMakesTheLoad, WeighedIsWithin, WeighingStandsAlone, WeighingWithOther}
use Rattle.demands.specs.Boards.{SplitIsNotOfCells}
use Rattle.demands.specs.Runs.{FirstRun, SecondRun, DeckRun, ShowRun, TotalRun, WeighingRun, BoardRun}

-- ---- Demand 1

-- the printed list of codes
abbrev pub printed : List ℕ
printed =
    0 ∷ 10 ∷ 11 ∷ 12 ∷ 13 ∷ 14 ∷ 15 ∷ 16 ∷ 20 ∷ 21 ∷ 22 ∷ 23 ∷ 24 ∷ 26 ∷ 27 ∷ 30 ∷ 31 ∷ 32 ∷ 33 ∷ 34 ∷ 40 ∷ 41 ∷ 42 ∷ 43 ∷ []

-- every line is answered with one code of the printed list
abbrev pub CodesArePrinted : Type 0
CodesArePrinted = (c : Condition) (line : List ℕ) (lent : ℕ) → is_one_of printed (step_of c line lent).code ≡ true

-- and with the one that the paper's words give it
abbrev pub CodesByOperation : Type 0
CodesByOperation = (c : Condition) (line : List ℕ) (lent : ℕ) → ByOperation c line lent (step_of c line lent).code

-- a line that is turned down leaves the condition as it was
abbrev pub RefusalsChangeNothing : Type 0
RefusalsChangeNothing =
    (c : Condition) (line : List ℕ) (lent : ℕ) → ((step_of c line lent).code ≡ 0 → ⊥) → (step_of c line lent).after ≡ c

-- what a line that is taken leaves behind: its own record in its place, everything else as it was (storing/specs/Stores.antt)
pub record Stores (c : Condition) (line : List ℕ) (after : Condition) : Type 0 where
  pub ship : (s : Ship) → request line ≡ Some (ShipLine s) → ShipStored c s after
  pub load : (l : Load) → request line ≡ Some (LoadLine l) → LoadStored c l after
  pub column : (k : Column) → request line ≡ Some (ColumnLine k) → ColumnStored c k after
  pub hold : (n : ℕ) (h : Hold) → request line ≡ Some (HoldLine n h) → HoldStored c n h after
  pub drop : (n : ℕ) → request line ≡ Some (DropLine n) → HoldDropped c n after
  pub judge : request line ≡ Some JudgeLine → after ≡ c
  pub clear : request line ≡ Some ClearLine → Nothing after
  pub show : request line ≡ Some ShowLine → after ≡ c
  pub total : request line ≡ Some TotalLine → after ≡ c
  pub weight : (i : WeightItem) → request line ≡ Some (WeighingLine (Weight i)) → ItemStored c i after
  pub weighed : (fs : ℕ) → request line ≡ Some (WeighingLine (Weighed fs)) → WeighedStored c fs after
  pub unweigh : request line ≡ Some (WeighingLine Unweigh) → ItemsRemoved c after

abbrev pub RecordsAreStored : Type 0
RecordsAreStored =
    (c : Condition) (line : List ℕ) (lent : ℕ) → (step_of c line lent).code ≡ 0 → Stores c line (step_of c line lent).after

-- the reply shows the code: none under 96 bytes; `(answer CC)` for every line but judge, a show with room for its reply, and total;
-- `(verdict CC)` for judge with 30 to 34. What judge shows with 00 and 40 to 43 is demand 3; what show and total show with 00 stands in
-- Show.antt and Total.antt
pub record Shows (line : List ℕ) (lent : ℕ) (o : Outcome) : Type 0 where
  pub short : lent < 96 → o.reply ≡ []
  pub judge : Asks line lent (Some JudgeLine) → is_one_of (30 ∷ 31 ∷ 32 ∷ 33 ∷ 34 ∷ []) o.code ≡ true → RefusalShown o.code o.reply
  pub other :
      96 ≤ lent → (Asks line lent (Some JudgeLine) → ⊥) → (Asks line lent (Some ShowLine) → 2100 ≤ lent → ⊥) → (Asks line lent (Some TotalLine) → ⊥) →
      AnswerShown o.code o.reply

abbrev pub RepliesShowTheCode : Type 0
RepliesShowTheCode = (c : Condition) (line : List ℕ) (lent : ℕ) → Shows line lent (step_of c line lent)

-- the contract of the step writes `over reply buffer`: the reply at the front of the lent buffer, and behind it the bytes that were there
abbrev pub WrittenAtFront : Type 0
WrittenAtFront = (reply buffer : List ℕ) → length reply ≤ length buffer → AtFront reply buffer (over reply buffer)

-- a panel newly started holds nothing
abbrev pub StartsEmpty : Type 0
StartsEmpty = Nothing empty

-- after a clear that was taken, however many lines went before, the condition is that at the start, and every later line has
-- the outcome that it has in a panel newly started
abbrev pub ClearStartsAnew : Type 0
ClearStartsAnew =
    (c : Condition) (earlier : List Sent) (line : List ℕ) (lent : ℕ) (later : List Sent) →
    request line ≡ Some ClearLine → (step_of (condition_after c earlier) line lent).code ≡ 0 →
    ((step_of (condition_after c earlier) line lent).after ≡ empty)
    × (outcomes c (earlier ++ record { line = line; lent = lent } ∷ later)
    ≡ outcomes c earlier ++ step_of (condition_after c earlier) line lent ∷ outcomes empty later)

-- ---- Demand 2

-- the number that is read of a run is the one whose digits it has
abbrev pub NumbersAreRead : Type 0
NumbersAreRead = (r : List ℕ) (n : ℕ) → (number_of r ≡ Some n) ↔ NumberIs n r

-- spaces are free: a column, or any record, means the same whoever typed it. A space more, anywhere but between two letters or digits,
-- changes no outcome of a line that stays within 2,000 bytes
abbrev pub NotInside : List ℕ → List ℕ → Type 0
NotInside a b = 0 < length a → 0 < length b → LetterOrDigit (get_or a (length a - 1) 0) → LetterOrDigit (get_or b 0 0) → ⊥

abbrev pub SpacesAreFree : Type 0
SpacesAreFree =
    (c : Condition) (a b : List ℕ) (lent : ℕ) → length (a ++ b) < 2000 → NotInside a b →
    step_of c (a ++ 32 ∷ b) lent ≡ step_of c (a ++ b) lent

-- W is the weight moments of the holds held, added up: hold n stands at the place n − 1. What each is made from, grain/specs/Figures.antt says:
-- of a trimmed or voided hold each part by `SectionMoment`, of a partial one each part by `DeckMoment` (slack/specs/Exact.antt) or beside a board by
-- `SplitVolume` (boards/specs/Exact.antt), with the accuracy of each
pub record TotalWeight (c : Condition) (w : ℕ) : Type 0 where
  pub weights : ℕ → ℕ
  pub held : (i : ℕ) → i < 16 → 0 < (get_or c.holds i no_hold).head.count → WeightMoment (get_or c.holds i no_hold) (weights i)
  pub none : (i : ℕ) → i < 16 → (get_or c.holds i no_hold).head.count ≡ 0 → weights i ≡ 0
  pub sum : w ≡ total 16 weights

abbrev pub WeightIsTotal : Type 0
WeightIsTotal = (c : Condition) → Within c → TotalWeight c (weight c)

-- ---- Demand 3

-- a judge line is answered with the verdict between two neighbouring columns around D, and all that demand 3 says holds of it
pub record Judges (c : Condition) (o : Outcome) : Type 0 where
  pub ship : Ship
  pub shipped : c.ship ≡ Some ship
  pub place : ℕ
  pub next : place + 1 < length (held c.columns)
  pub basis : Basis
  pub low : basis.low ≡ get_or (held c.columns) place no_column
  pub high : basis.high ≡ get_or (held c.columns) (place + 1) no_column
  pub from : basis.low.d ≤ basis.load.d
  pub to : basis.load.d ≤ basis.high.d
  pub load : c.load ≡ Some basis.load
  pub weight : basis.weight ≡ weight c
  pub code : o.code ≡ judgement_code (verdict_of ship basis).judgement
  pub shown :
      VerdictShown o.code (verdict_of ship basis).gm (verdict_of ship basis).diff (verdict_of ship basis).upper
      (verdict_of ship basis).area o.reply
  pub demand : Demand3 ship basis
  pub margins : Margins ship basis

-- for every condition that is within its limits and complete, however it came about
abbrev pub VerdictsHold : Type 0
VerdictsHold =
    (c : Condition) (line : List ℕ) (lent : ℕ) → Within c → Complete c → Asks line lent (Some JudgeLine) → Judges c (step_of c line lent)

-- every line leaves a condition that is within its limits so, and every condition that lines can reach is
abbrev pub StepsStayWithin : Type 0
StepsStayWithin = (c : Condition) (line : List ℕ) (lent : ℕ) → Within c → Within (step_of c line lent).after

abbrev pub ReachedAreWithin : Type 0
ReachedAreWithin = (ls : List Sent) → Within (condition_after empty ls)

-- and so is every one whose records and sums are in the paper's ranges and whose figure is true: "within its limits" leaves none of them out
abbrev pub RangesAreWithin : Type 0
RangesAreWithin = (c : Condition) → Places c → InRanges c → Within c

-- ---- all of them
pub record Demands : Type 0 where
  pub codes_are_printed : CodesArePrinted
  pub codes_by_operation : CodesByOperation
  pub refusals_change_nothing : RefusalsChangeNothing
  pub records_are_stored : RecordsAreStored
  pub replies_show_the_code : RepliesShowTheCode
  pub written_at_front : WrittenAtFront
  pub starts_empty : StartsEmpty
  pub clear_starts_anew : ClearStartsAnew
  pub first_run : FirstRun
  pub second_run : SecondRun
  pub deck_run : DeckRun
  pub shows_a_form : ShowsAForm
  pub shows_the_form : ShowsTheForm
  pub shapes_are_four_deep : ShapesAreFourDeep
  pub show_run : ShowRun
  -- the records of a condition within its limits can be sent to an empty panel as lines in the one spelling (sending/specs/Laws.antt)
  pub records_can_be_sent : RecordsCanBeSent
  pub stored_is_the_sum : StoredIsTheSum
  pub total_stands_alone : TotalStandsAlone
  pub total_with_items : TotalWithItems
  pub totals_are_shown : TotalsAreShown
  pub stored_is_shown : StoredIsShown
  pub total_run : TotalRun
  pub sent_weigh_the_same : SentWeighTheSame
  pub sums_are_of_the_items : SumsAreOfTheItems
  pub items_can_be_taken : ItemsCanBeTaken
  pub weighed_makes_the_load : WeighedMakesTheLoad
  pub weighed_is_within : WeighedIsWithin
  -- which sums items give: by the two figures (weights/specs/Items.antt)
  pub sums_of_items : SumsOfItems
  pub weighing_stands_alone : WeighingStandsAlone
  pub weighing_with_other : WeighingWithOther
  pub weighing_run : WeighingRun
  -- of a partial hold a part beside a board is read exactly from `(split LENGTH RUN LEFT RIGHT)` (showing/specs/Laws.antt)
  pub taken_as_split : TakenAsSplit
  pub split_is_not_of_cells : SplitIsNotOfCells
  -- what a part beside a board weighs (boards/specs/Laws.antt), and that it makes no hold heavier (grain/specs/Boards.antt)
  pub board_laws : Laws
  pub boards_add_no_weight : BoardsAddNoWeight
  pub board_run : BoardRun
  pub spaces_are_free : SpacesAreFree
  pub numbers_are_read : NumbersAreRead
  pub weight_is_total : WeightIsTotal
  pub verdicts_hold : VerdictsHold
  -- what is said of each stretch is said of each angle (arms/specs/Exact.antt)
  pub every_angle : EveryAngle
  pub steps_stay_within : StepsStayWithin
  pub reached_are_within : ReachedAreWithin
  pub ranges_are_within : RangesAreWithin
