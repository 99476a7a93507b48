-- What the loop of the service carries: the input that was read and the replies that were handed out.
use Rattle.std.specs.Prelude.{◌≡◌, Bool, true, false, List, [], ◌++◌, ℕ, ◌+◌, ◌≤◌, length, take, drop}
use Rattle.condition.specs.Condition.{empty}
use Rattle.panel.specs.Step.{condition_after}
use Rattle.input.specs.Lines.{lines_of}
use Rattle.lines.specs.declared.Feed.{Feed}
use Rattle.lines.specs.Replies.{sent, replies_to}
use Rattle.lines.specs.Taking.{Stands}

-- between two turns: of what was read, `more` bytes short of the limit, the lines of `input` were taken, and `rest` waits in the block;
-- the replies that were handed out and those that wait are together the replies to the lines taken
pub record Serving (lines bytes : ℕ) (f : Feed) (line out rest : List ℕ) (more : ℕ) : Type 0 where
  pub read : List ℕ
  pub input : List ℕ
  pub handed : List ℕ
  pub counted : length read + more ≡ bytes
  pub same : input ++ rest ≡ read
  pub stands : Stands lines input f (take f.used line) (handed ++ take f.filled out)

-- the service has stopped: whatever follows what was read (nothing, where the last read brought nothing), the lines that were taken
-- are those of the whole input within the limits, and the replies to them are those handed out and those that wait
pub record Over (lines bytes : ℕ) (f : Feed) (out : List ℕ) (got : ℕ) : Type 0 where
  pub read : List ℕ
  pub handed : List ℕ
  pub taken : List (List ℕ)
  pub all : (later : List ℕ) → (got ≡ 0 → later ≡ []) → lines_of lines bytes (read ++ later) ≡ taken
  pub condition : f.cond ≡ condition_after empty (sent taken)
  pub replied : handed ++ take f.filled out ≡ replies_to empty taken

-- the loop: the buffers' lengths, the block's n bytes and the place in them; the service goes on, and nothing waits, or it has stopped
pub record Turn (lines bytes : ℕ) (block line out : List ℕ) (f : Feed) (more n at : ℕ) (going : Bool) : Type 0 where
  pub block_long : length block ≡ 65536
  pub line_long : length line ≡ 2002
  pub out_long : length out ≡ 65536
  pub used : f.used ≤ 2001
  pub waits : f.filled ≤ 65536
  pub came : n ≤ 65536
  pub written : going ≡ true → f.filled ≡ 0
  pub goes : going ≡ true → Serving lines bytes f line out (drop at (take n block)) more
  pub stops : going ≡ false → Over lines bytes f out n
