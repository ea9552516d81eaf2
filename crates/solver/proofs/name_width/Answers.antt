use Rattle.std.proofs.Common.{◌+◌, ◌≤◌, ◌<◌, ◌^◌, arith, shl_exact}
use Rattle.codes.proofs.LaidOut.{few_looks}
use Rattle.solver.proofs.Loading.{is_accepted, no_width, table_width}
use Rattle.solver.proofs.name_width.Goals as goal

pub returns-in-Ok : goal.returns-in-Ok
returns-in-Ok c =
    let a = c.in-Ok.ensures.answered in
    let m = c.looks_of.result in
    let e = rw c.rows.ensures at c.looks_of.ensures.0 in
    let w = few_looks _ (is_accepted a).room in
    let g : 5 + m ≤ 64 = omega (arith, e) in
    let h : 16 < 2 ^ 5 = omega arith in
    table_width a _ (rw (← e) (shl_exact 5 m 64 h g))

pub returns-in-Err : goal.returns-in-Err
returns-in-Err c = no_width c.in-Err.ensures.answered
