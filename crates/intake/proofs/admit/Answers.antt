use Rattle.std.proofs.Common.{false}
use Rattle.std.proofs.lemmas.Result.{err_from_is_err_and}
use Rattle.intake.proofs.Judging.{unread_by, passed, large_passed, not_admitted}
use Rattle.intake.proofs.admit.Goals as goal

pub returns-in_err-table-clause-answered : goal.returns-in_err-table-clause-answered
returns-in_err-table-clause-answered c =
    let p = err_from_is_err_and c.from_residual.result c.from_residual.ensures.1 in
    rw p.1 (unread_by false p.0 c.in_err-table.field-0.0 p.2 c.in_err-table.ensures)

pub returns-in-Ok-clause-answered : goal.returns-in-Ok-clause-answered
returns-in-Ok-clause-answered c = passed c.in_ok-table.table c.in_ok-table.ensures false _ c.in-Ok.ensures.judged

pub returns-in-Large-clause-answered : goal.returns-in-Large-clause-answered
returns-in-Large-clause-answered c = large_passed c.in_ok-table.table c.in_ok-table.ensures _ _ c.in-Large.is c.in-Err.ensures.judged

pub returns-in_default : goal.returns-in_default
returns-in_default c =
    record { answered = not_admitted c.in_ok-table.table c.in_ok-table.ensures _ _ c.in_default.not-Large c.into.ensures c.in-Err.ensures.judged; order = tt }
