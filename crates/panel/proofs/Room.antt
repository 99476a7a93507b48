-- With room for every reply, the length of the lent buffer makes no difference.
use mathlib.Core.Path.{◌≡◌, refl}
use mathlib.Core.List.{List}
use Prim.Native.Nat.{ℕ, ◌≤◌}
use native.Mathlib.Omega.{arith}
use borrow.Author.Tests.{le-ltb}
use Rattle.text.specs.Token.{Token, tokens}
use Rattle.std.specs.Prelude.{Option, Some, None, Ok, Err}
use Rattle.line_codes.specs.Line.{Reading, reading_of}
use Rattle.forms.specs.declared.Request.{Request}
use Rattle.forms.specs.declared.Request.TheVariants.{ShipLine, ColumnLine, LoadLine, HoldLine, DropLine, JudgeLine, ClearLine, ShowLine, TotalLine, WeighingLine}
use Rattle.request.specs.Shape.{request_of}
use Rattle.condition.specs.declared.Condition.{Condition}
use Rattle.panel.specs.Step.{outcome_of, outcome_asked, outcome_after, step_of}

module _ (c : Condition) (n : ℕ) (p : 2100 ≤ n) where
  any_by : (ts : List Token) (r : Request) → outcome_of c ts n r ≡ outcome_of c ts 2100 r
  unfolding outcome_of
  any_by ts (ShipLine s) = refl
  any_by ts (ColumnLine k) = refl
  any_by ts (LoadLine l) = refl
  any_by ts (HoldLine m h) = refl
  any_by ts (DropLine m) = refl
  any_by ts JudgeLine = refl
  any_by ts ClearLine = refl
  any_by ts ShowLine = rw (le-ltb n 2100 p)
  any_by ts TotalLine = refl
  any_by ts (WeighingLine w) = refl

  any_asked : (ts : List Token) (o : Option Request) → outcome_asked c ts n o ≡ outcome_asked c ts 2100 o
  any_asked ts (Some r) = any_by ts r
  any_asked ts None = refl

  any_after : (line : List ℕ) (t : Reading) → outcome_after c line n t ≡ outcome_after c line 2100 t
  any_after line (Ok u) = any_asked (tokens line) (request_of (tokens line))
  any_after line (Err f) = refl

  pub any_room : (line : List ℕ) → step_of c line n ≡ step_of c line 2100
  unfolding step_of
  any_room line = rw (le-ltb n 96 (omega arith), any_after line (reading_of line))
