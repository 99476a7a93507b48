-- Document 01, Column: what a list of columns answers to one more.
use Rattle.std.specs.Prelude.{◌≡◌, ◌↔◌, Bool, true, ◌<◌, get_or, not, cond, ◌&&◌, Result, Ok, Err, List, [], ◌∷◌, ℕ, ◌+◌, leb, ltb, length, set}
use Rattle.record.specs.declared.Column.{Column}
use Rattle.record.specs.declared.Columns.{Columns}
use Rattle.record.specs.Filler.{no_column}
use Rattle.columns.specs.declared.NotAdded.{NotAdded}
use Rattle.columns.specs.declared.NotAdded.TheVariants.{Limits, Full, NotAbove}
use Rattle.limits.specs.Limits.{column_limits}

-- D is above the last column's, if there is one
unfoldable pub is_above : ℕ → List Column → Bool
is_above d [] = true
is_above d (k ∷ []) = ltb k.d d
is_above d (k ∷ m ∷ ks) = is_above d (m ∷ ks)

-- Outside its limits; twenty are held; D not above the last one's: in this order.
unfoldable pub column_answer : List Column → Column → Result (Unit {0}) NotAdded
column_answer ks k =
    cond (not (column_limits k)) (Err Limits)
    (cond (leb 20 (length ks)) (Err Full) (cond (is_above k.d ks) (Ok tt) (Err NotAbove)))

-- each column within its limits and above the one before
unfoldable pub in_order : List Column → Bool
in_order [] = true
in_order (k ∷ []) = column_limits k
in_order (k ∷ m ∷ ks) = column_limits k && ltb k.d m.d && in_order (m ∷ ks)

-- the column at place i is below the one behind it
abbrev pub rises : List Column → ℕ → Bool
rises ks i = ltb (get_or ks i no_column).d (get_or ks (i + 1) no_column).d

-- the answer whether each column is below the one behind it
abbrev pub Rising : List Column → Bool → Type 0
Rising ks r = (r ≡ true) ↔ ((i : ℕ) → i + 1 < length ks → rises ks i ≡ true)

-- the paper's code for each answer
abbrev pub not_added_code : NotAdded → ℕ
not_added_code Limits = 20
not_added_code Full = 23
not_added_code NotAbove = 22

abbrev pub added_code : Result (Unit {0}) NotAdded → ℕ
added_code (Ok done) = 0
added_code (Err why) = not_added_code why

-- the columns with one more
abbrev pub with_column : Columns → Column → Columns
with_column cs k = record { count = cs.count + 1; places = set cs.places cs.count k }
