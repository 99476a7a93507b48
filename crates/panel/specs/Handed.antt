-- What the program hands on from the answer of a line to its effect: its code, its reply's length, and the moment of a hold that was weighed.
-- The laws of proofs/Answers.antt lead from this to `step_of`; no reader has to believe it.
use Rattle.std.specs.Prelude.{◌≡◌, cond, Result, Ok, Err, List, ℕ, ltb, length}
use Rattle.grain.specs.Sum.{weighed_moment}
use Rattle.reply.specs.Written.{over}
use Rattle.forms.specs.declared.Request.{Request}
use Rattle.forms.specs.declared.Request.TheVariants.{ShipLine, ColumnLine, LoadLine, HoldLine, DropLine, JudgeLine, ClearLine, ShowLine, TotalLine, WeighingLine}
use Rattle.operations.specs.Operations.{hold_answer}
use Rattle.line_codes.specs.declared.Fault.{Fault}
use Rattle.panel.specs.declared.Replied.{Replied}
use Rattle.panel.specs.Step.{least_room}

-- the moment that a request's answer finds: that of a hold line's weighing, else 0
abbrev pub moment_found : Request → ℕ
moment_found (ShipLine s) = 0
moment_found (ColumnLine k) = 0
moment_found (LoadLine l) = 0
moment_found (HoldLine n h) = weighed_moment (hold_answer n h)
moment_found (DropLine n) = 0
moment_found JudgeLine = 0
moment_found ClearLine = 0
moment_found ShowLine = 0
moment_found TotalLine = 0
moment_found (WeighingLine w) = 0

-- what goes to the effect of a line that was heard, with n bytes lent: none without room for a reply
abbrev pub handed_on : Result Request Fault → (n : ℕ) → ℕ
handed_on (Ok r) n = cond (ltb n least_room) 0 (moment_found r)
handed_on (Err f) n = 0

-- a code, its reply's length, the moment w, and in the lent buffer the reply over its front, the bytes behind it as they were
pub record Replies (code : ℕ) (reply : List ℕ) (w : ℕ) (r : Replied) (before after : List ℕ) : Type 0 where
  pub coded : r.code ≡ code
  pub long : r.len ≡ length reply
  pub moment : r.moment ≡ w
  pub written : after ≡ over reply before
