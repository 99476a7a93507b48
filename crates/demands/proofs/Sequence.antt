-- Columns sent one after the other, each taken: then all of them are in order; and one more that is taken is taken behind them.
use mathlib.Core.Path.{◌≡◌, ap}
use mathlib.Core.Bool.{true, ◌&&◌}
use mathlib.Core.List.{List, [], ◌∷◌, ◌++◌, append-nil}
use lib.Dec.{ltb}
use lib.Seq.{append_snoc}
use Rattle.whole.proofs.Lists.{and_true}
use Rattle.record.specs.declared.Column.{Column}
use Rattle.std.specs.Prelude.{Ok}
use Rattle.limits.specs.Limits.{column_limits}
use Rattle.record.specs.Held.{held}
use Rattle.columns.specs.Columns.{is_above, column_answer, in_order, with_column}
use Rattle.condition.specs.declared.Condition.{Condition}
use Rattle.storing.specs.Storing.{with_columns}
use Rattle.operations.specs.Operations.{column_operation}
use Rattle.sending.specs.Within.{ColumnsTaken}
use Rattle.storing.proofs.Taking.{taken_is}
use Rattle.operations.proofs.Effects.{column_passed, column_taken}
use Rattle.storing.proofs.Columns.{Fitting, fitting_more, held_more}

-- a column above those in order is in order behind them
order_more : (ks : List Column) (k : Column) → in_order ks ≡ true → column_limits k ≡ true → is_above k.d ks ≡ true → in_order (ks ++ k ∷ []) ≡ true
unfolding in_order is_above
order_more [] k o l a = l
order_more (m ∷ []) k o l a = rw (o, a, l)
order_more (m ∷ p ∷ ks) k o l a =
    let t = and_true (column_limits m && ltb m.d p.d) (in_order (p ∷ ks)) o in
    rw (t.0, order_more (p ∷ ks) k t.1 l a)

-- the condition after a column that was taken, the column held last
module _ (c : Condition) (k : Column) (e : (column_operation c k).code ≡ 0) where
  abbrev next : Condition
  next = with_columns c (with_column c.columns k)

  next_is : (column_operation c k).after ≡ next
  next_is = ap (λ ch. ch.after) (column_taken c k (column_passed c k e))

pub taken_order : (c : Condition) (ks : List Column) → Fitting c.columns → in_order (held c.columns) ≡ true → ColumnsTaken c ks → in_order (held c.columns ++ ks) ≡ true
taken_order c [] f o t = rw append-nil o
taken_order c (k ∷ ks) f o t =
    let e = column_passed c k t.0 in
    let p = taken_is (held c.columns) k e in
    let h = held_more c.columns k f e in
    let r = taken_order (next c k t.0) ks (fitting_more c.columns k f e) (rw h (order_more (held c.columns) k o p.limits p.above)) (rw (next_is c k t.0) at t.1) in
    rw (h, append_snoc) at r

pub taken_more : (c : Condition) (ks : List Column) (k : Column) → Fitting c.columns → ColumnsTaken c ks → column_answer (held c.columns ++ ks) k ≡ Ok tt → ColumnsTaken c (ks ++ k ∷ [])
taken_more c [] k f t a = (ap (λ ch. ch.code) (column_taken c k (rw append-nil at a)), tt)
taken_more c (m ∷ ks) k f t a =
    let e = column_passed c m t.0 in
    let h = held_more c.columns m f e in
    let r = taken_more (next c m t.0) ks k (fitting_more c.columns m f e) (rw (next_is c m t.0) at t.1) (rw (h, append_snoc) a) in
    (t.0, rw (next_is c m t.0) r)
