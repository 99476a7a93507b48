-- What is taken from a block of input: its lines in their order, their replies behind those that wait, and where the service stands then.
use Rattle.std.specs.Prelude.{◌≡◌, List, [], ◌++◌, ℕ, ◌+◌, ◌-◌, ◌≤◌, ◌<◌, length, take, drop}
use Rattle.condition.specs.Condition.{empty}
use Rattle.condition.specs.declared.Condition.{Condition}
use Rattle.panel.specs.Step.{Outcome, step_of, condition_after}
use Rattle.input.specs.Lines.{cut, NoNewline, between}
use Rattle.lines.specs.declared.Feed.{Feed}
use Rattle.lines.specs.Replies.{sent, replies_to}

-- where the service stands, and the place in the block up to which lines were taken
pub record Taken : Type 0 where
  pub feed : Feed
  pub at : ℕ

-- ---- lines from a block

-- the bytes that were passed over are whole lines: the condition is that after them, and what waits is what waited before and then
-- the reply to each, in their order
pub record LinesTaken (f : Feed) (waited passed : List ℕ) (r : Feed) (waits : List ℕ) : Type 0 where
  pub whole : (cut passed).rest ≡ []
  pub condition : r.cond ≡ condition_after f.cond (sent (cut passed).lines)
  pub replied : waits ≡ waited ++ replies_to f.cond (cut passed).lines
  pub count : length (cut passed).lines + r.left ≡ f.left

-- lines of a block from `at` on. No further line is taken where none is left, where the 65,536 bytes of replies might not hold one
-- reply more, for which at least 2,100 bytes must be left, or where no further byte 10 stands in the block
pub record FromBlock (f : Feed) (block : List ℕ) (at : ℕ) (out : List ℕ) (r : Taken) (after : List ℕ) : Type 0 where
  pub onward : at ≤ r.at
  pub inside : r.at ≤ length block
  pub taken : LinesTaken f (take f.filled out) (between block at r.at) r.feed (take r.feed.filled after)
  pub kept : r.feed.used ≡ f.used
  pub room : r.feed.filled ≤ 65536
  pub stopped : 0 < r.feed.left → r.feed.filled + 2100 ≤ 65536 → NoNewline (drop r.at block)

-- the condition is that after an outcome, whose reply of `long` bytes goes behind those that wait in the buffer
pub record RepliedBehind (o : Outcome) (c : Condition) (long filled : ℕ) (before after : List ℕ) : Type 0 where
  pub condition : c ≡ o.after
  pub room : filled + long ≤ 65536
  pub waits : take (filled + long) after ≡ take filled before ++ o.reply

-- ---- the line that has begun in an earlier block

-- it was taken
pub record LineTaken (f : Feed) (line waited : List ℕ) (r : Feed) (waits : List ℕ) : Type 0 where
  pub condition : r.cond ≡ (step_of f.cond line 2100).after
  pub replied : waits ≡ waited ++ (step_of f.cond line 2100).reply
  pub count : r.left + 1 ≡ f.left

-- where lines are left, and no byte 10 is kept; where none is left, nothing is taken; nothing is kept any more
pub record BegunTaken (f : Feed) (kept waited : List ℕ) (r : Feed) (waits : List ℕ) : Type 0 where
  pub taken : NoNewline kept → 0 < f.left → LineTaken f kept waited r waits
  pub full : f.left ≡ 0 → (r.cond ≡ f.cond) × (r.left ≡ 0) × (waits ≡ waited)
  pub none : r.used ≡ 0
  pub room : r.filled ≤ 65536

-- room for a reply in the output, and in the line for its byte 10 behind at most 2,001 bytes
pub record Room (f : Feed) (line out : List ℕ) : Type 0 where
  pub waits : f.filled + 2100 ≤ 65536
  pub output : length out ≡ 65536
  pub begun : f.used ≤ 2001
  pub long : length line ≡ 2002

-- ---- piece after piece of an input

-- where the service stands behind an input of which at most `most` lines are taken: every line that ended was taken and replied to, and
-- of the line that has begun the first 2,001 bytes are kept, which are enough to refuse a line of more than 2,000
pub record Stands (most : ℕ) (input : List ℕ) (f : Feed) (kept replies : List ℕ) : Type 0 where
  pub condition : f.cond ≡ condition_after empty (sent (take most (cut input).lines))
  pub replied : replies ≡ replies_to empty (take most (cut input).lines)
  pub count : f.left ≡ most - length (cut input).lines
  pub begun : 0 < f.left → kept ≡ take 2001 (cut input).rest

-- a piece of input takes the service from where it stands behind any input to where it stands behind that input and the piece, whatever
-- replies were handed out before those that wait
abbrev pub Moves : (f : Feed) (kept waited piece : List ℕ) (r : Feed) (after waits : List ℕ) → Type 0
Moves f kept waited piece r after waits =
    (most : ℕ) (input handed : List ℕ) →
    Stands most input f kept (handed ++ waited) → Stands most (input ++ piece) r after (handed ++ waits)

-- the line that had begun is ended by the first byte 10 of the block, or goes on to the block's end
pub record FirstMoved (f : Feed) (line out block : List ℕ) (at : ℕ) (r : Taken) (line' out' : List ℕ) : Type 0 where
  pub onward : at ≤ r.at
  pub further : 0 < f.used → at < r.at
  pub inside : r.at ≤ length block
  pub begun : r.feed.used ≤ 2001
  pub room : r.feed.filled ≤ 65536
  pub waits : f.used ≡ 0 → r.feed.filled ≡ f.filled
  pub ended : r.at < length block → 0 < r.feed.left → r.feed.used ≡ 0
  pub moved : Moves f (take f.used line) (take f.filled out) (between block at r.at)
      r.feed (take r.feed.used line') (take r.feed.filled out')

-- lines of a block from `at` on: the line that had begun, those behind it, and what is kept of the block's last line
pub record BlockMoved (f : Feed) (line out block : List ℕ) (at : ℕ) (r : Taken) (line' out' : List ℕ) : Type 0 where
  pub onward : at < r.at
  pub inside : r.at ≤ length block
  pub begun : r.feed.used ≤ 2001
  pub room : r.feed.filled ≤ 65536
  pub moved : Moves f (take f.used line) (take f.filled out) (between block at r.at)
      r.feed (take r.feed.used line') (take r.feed.filled out')
