-- Document 01, Every line, and document 02: what a line and a lent buffer's length give: code, reply and the condition after.
use Rattle.std.specs.Prelude.{◌≡◌, cond, Option, Some, None, Ok, Err, List, [], ◌∷◌, ℕ, ltb, length}
use Rattle.stability.specs.Verdict.{judgement_code}
use Rattle.line_codes.specs.declared.Fault.TheVariants.{NoShape}
use Rattle.text.specs.Token.{Token, tokens}
use Rattle.line_codes.specs.Line.{Reading, reading_of, fault_code}
use Rattle.forms.specs.declared.Request.{Request}
use Rattle.forms.specs.declared.Request.TheVariants.{ShipLine, ColumnLine, LoadLine, HoldLine, DropLine, JudgeLine, ClearLine, ShowLine, TotalLine, WeighingLine}
use Rattle.request.specs.Shape.{request_of}
use Rattle.reply.specs.Written.{over}
use Rattle.reply.specs.Replies.{answer_reply, refusal_reply, verdict_reply, total_reply}
use Rattle.showing.specs.Show.{show_reply}
use Rattle.condition.specs.declared.Condition.{Condition}
use Rattle.condition.specs.Condition.{empty}
use Rattle.panel.specs.declared.Stepped.{Stepped}
use Rattle.judging.specs.Judge.{Judged, judged_of, refusal_code}
use Rattle.operations.specs.Operations.{Change, taken, refused_with, ship_operation, load_operation, column_operation, hold_operation, drop_operation, weighing_operation}

pub record Outcome : Type 0 where
  pub code : ℕ
  pub reply : List ℕ
  pub after : Condition

-- every operation but judge, show and total replies `(answer CC)`
abbrev pub answered : Change → Outcome
answered ch = record { code = ch.code; reply = answer_reply ch.code; after = ch.after }

-- judge changes nothing
abbrev pub verdict_given : Condition → Judged → Outcome
verdict_given c (Err r) = record { code = refusal_code r; reply = refusal_reply (refusal_code r); after = c }
verdict_given c (Ok v) =
    record {
      code = judgement_code v.judgement;
      reply = verdict_reply (judgement_code v.judgement) v.gm v.diff v.upper v.area;
      after = c;
    }

-- the least buffer that may be lent for a reply, and for the reply of show
abbrev pub least_room : ℕ
least_room = 96

abbrev pub show_room : ℕ
show_room = 2100

-- show, with n bytes lent: 16 where they are too few, else 00; and its reply, from a line with these tokens: `(answer 16)`, or the form
-- inside it
abbrev pub show_code : (n : ℕ) → ℕ
show_code n = cond (ltb n show_room) 16 0

abbrev pub show_answer : List Token → (n : ℕ) → List ℕ
show_answer ts n = cond (ltb n show_room) (answer_reply 16) (show_reply ts)

-- it changes nothing
abbrev pub form_shown : Condition → List Token → (n : ℕ) → Outcome
form_shown c ts n = record { code = show_code n; reply = show_answer ts n; after = c }

-- total: 00 and the stored figure; it changes nothing
abbrev pub total_shown : Condition → Outcome
total_shown c = record { code = 0; reply = total_reply c.total; after = c }

-- by the request of a line with these tokens
unfoldable pub outcome_of : Condition → List Token → (n : ℕ) → Request → Outcome
outcome_of c ts n (ShipLine s) = answered (ship_operation c s)
outcome_of c ts n (ColumnLine k) = answered (column_operation c k)
outcome_of c ts n (LoadLine l) = answered (load_operation c l)
outcome_of c ts n (HoldLine m h) = answered (hold_operation c m h)
outcome_of c ts n (DropLine m) = answered (drop_operation c m)
outcome_of c ts n JudgeLine = verdict_given c (judged_of c)
outcome_of c ts n ClearLine = answered (taken empty)
outcome_of c ts n ShowLine = form_shown c ts n
outcome_of c ts n TotalLine = total_shown c
outcome_of c ts n (WeighingLine w) = answered (weighing_operation c w)

-- 14 where it has no shape
abbrev pub outcome_asked : Condition → List Token → (n : ℕ) → Option Request → Outcome
outcome_asked c ts n (Some r) = outcome_of c ts n r
outcome_asked c ts n None = answered (refused_with (fault_code NoShape) c)

-- by the tests of the whole line: 10 to 13
abbrev pub outcome_after : Condition → List ℕ → (n : ℕ) → Reading → Outcome
outcome_after c line n (Ok u) = outcome_asked c (tokens line) n (request_of (tokens line))
outcome_after c line n (Err f) = answered (refused_with (fault_code f) c)

-- a line with a lent buffer of n bytes; under 96 bytes: 15, reply length 0
unfoldable pub step_of : Condition → List ℕ → (n : ℕ) → Outcome
step_of c line n =
    cond (ltb n least_room) (record { code = 15; reply = []; after = c }) (outcome_after c line n (reading_of line))

-- what the program hands back is this outcome: condition, code and length, and in the lent buffer the reply over its front, the
-- bytes behind it as they were
pub record Steps (o : Outcome) (r : Stepped) (before after : List ℕ) : Type 0 where
  pub condition : r.after ≡ o.after
  pub coded : r.code ≡ o.code
  pub long : r.len ≡ length o.reply
  pub written : after ≡ over o.reply before

-- the condition after a list of lines, each with its buffer's length, and the replies to them
pub record Sent : Type 0 where
  pub line : List ℕ
  pub lent : ℕ

unfoldable pub condition_after : Condition → List Sent → Condition
condition_after c [] = c
condition_after c (l ∷ ls) = condition_after (step_of c l.line l.lent).after ls

unfoldable pub outcomes : Condition → List Sent → List Outcome
outcomes c [] = []
outcomes c (l ∷ ls) = step_of c l.line l.lent ∷ outcomes (step_of c l.line l.lent).after ls
