use Rattle.std.proofs.Common.{true}
use Rattle.std.proofs.lemmas.Result.{err_from_is_err_and}
use Rattle.intake.proofs.Judging.{unread_by, not_loaded, passed}
use Rattle.intake.proofs.load.Goals as goal

pub returns-in_err-table-clause-answered : goal.returns-in_err-table-clause-answered
returns-in_err-table-clause-answered c =
    let p = err_from_is_err_and c.from_residual.result c.from_residual.ensures.1 in
    rw p.1 (unread_by true p.0 c.in_err-table.field-0.0 p.2 c.in_err-table.ensures)

pub returns-in_err-order-clause-answered : goal.returns-in_err-order-clause-answered
returns-in_err-order-clause-answered c =
    let p = err_from_is_err_and c.from_residual-in_err-order.result c.from_residual-in_err-order.ensures.1 in
    rw p.1 (not_loaded c.in_ok-table.table c.in_ok-table.ensures c.in_err-order.field-0.0 p.0 p.2 c.in_err-order.ensures.judged)

pub returns-clause-answered : goal.returns-clause-answered
returns-clause-answered c = passed c.in_ok-table.table c.in_ok-table.ensures true _ c.in_ok-order.ensures.judged
