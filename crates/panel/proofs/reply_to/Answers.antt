-- `reply_to`: the reply to the request of a line.
use mathlib.Core.Path.{refl}
use Rattle.operations.proofs.Taking.{hold_answered}
use Rattle.panel.specs.Step.{outcome_of}
use Rattle.panel.proofs.reply_to.Goals as goal

pub returns-in-ShipLine : goal.returns-in-ShipLine
unfolding outcome_of
returns-in-ShipLine c =
    rw (c.in-ShipLine.is, ← c.ship_answer.ensures c.args.c.now) c.answer_operation.ensures

pub returns-in-ColumnLine : goal.returns-in-ColumnLine
unfolding outcome_of
returns-in-ColumnLine c = rw (c.in-ColumnLine.is, ← c.column_answer.ensures) c.answer_operation-in-ColumnLine.ensures

pub returns-in-LoadLine : goal.returns-in-LoadLine
unfolding outcome_of
returns-in-LoadLine c =
    rw (c.in-LoadLine.is, ← c.load_answer.ensures c.args.c.now) c.answer_operation-in-LoadLine.ensures

pub returns-in-HoldLine : goal.returns-in-HoldLine
unfolding outcome_of
returns-in-HoldLine c =
    let args = c.args in
    let a = rw c.hold_answer.ensures at c.answer_weighed.ensures in
    rw (c.in-HoldLine.is, ← hold_answered c.in-HoldLine.n c.in-HoldLine.h args.c.now) a

pub returns-in-DropLine : goal.returns-in-DropLine
unfolding outcome_of
returns-in-DropLine c =
    rw (c.in-DropLine.is, ← c.drop_answer.ensures) c.answer_operation-in-DropLine.ensures

pub returns-in-ClearLine : goal.returns-in-ClearLine
unfolding outcome_of
returns-in-ClearLine c = rw c.in-ClearLine.is c.answer_with.ensures

pub returns-in-WeighingLine : goal.returns-in-WeighingLine
unfolding outcome_of
returns-in-WeighingLine c =
    let code = c.weighing_answer.ensures c.args.c.now refl in
    rw (c.in-WeighingLine.is, ← code) c.answer_operation-in-WeighingLine.ensures
