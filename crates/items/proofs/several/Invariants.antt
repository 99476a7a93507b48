-- `several`: the last items of a form, and its closing bracket.
use Rattle.std.proofs.Common.{length, ◌≤◌, ◌-◌, ◌≡◌, List, take, drop}
use Rattle.text.specs.Token.{Token, tokens}
use Rattle.text.specs.Front.{TailOf}
use Rattle.items.specs.Grammar.{Parsed, items?}
use Rattle.items.specs.Reads.{ReadsBy, LeavesTail}
use Rattle.items.proofs.Walks.{ahead}
use Rattle.items.proofs.several.Given as goal

abbrev pub invariant-loop-n : goal.invariant-loop-n
invariant-loop-n g l =
    record {
      upto : l.n ≤ length l.places;
      long : length l.places ≡ length l.initial.places;
      left : drop l.n l.places ≡ drop l.n l.initial.places;
      read : (item? : List Token → Parsed g.row.T.Denot) → ReadsBy (goal.F-post g l.item) item? →
          items? (length l.initial.places) item? (tokens l.fn.s) ≡ ahead (take l.n l.places) (items? (length l.initial.places - l.n) item? (tokens l.rest));
      tail : LeavesTail (goal.F-post g l.item) → TailOf l.rest l.fn.s;
    }

abbrev pub decreases-loop-n : goal.decreases-loop-n
decreases-loop-n g l = length l.initial.places - l.n
