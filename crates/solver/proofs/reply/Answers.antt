-- A refused text, too little room, or what the search answered.
use Rattle.std.proofs.Common.{refl, rules, arith}
use Rattle.std.proofs.lemmas.Result.{err_from_is_err_and}
use Rattle.solver.specs.Solved.{short, answered}
use Rattle.solver.proofs.Answering.{in_order, counted, room_in, no_room_in, finished}
use Rattle.solver.proofs.Loading.{is_accepted, refused_reply, solved_reply}
use Rattle.solver.proofs.Replying.{solved_by}
use Rattle.solver.proofs.reply.Goals as goal

pub returns-in_err-loaded : goal.returns-in_err-loaded
returns-in_err-loaded c =
    let p = err_from_is_err_and c.from_residual.result c.from_residual.ensures.1 in
    let q = refused_reply c.in_err-loaded.ensures.answered _ in
    rw (p.1, p.2) (record { replies = q; solved = solved_by q })

pub overflow_mul-codes : goal.overflow_mul-codes
overflow_mul-codes c =
    let a = is_accepted c.in_ok-loaded.ensures.answered in
    omega (arith, a.room, rw c.rows-rows.ensures at c.size_of-codes.ensures)

pub returns-then-shortest-codes : goal.returns-then-shortest-codes
returns-then-shortest-codes c =
    let n = rw c.rows-rows.ensures at c.size_of-codes.ensures in
    let q = solved_reply c.in_ok-loaded.ensures.answered _ _ _ (short (no_room_in _ _ n (omega arith)) refl refl) in
    record { replies = q; solved = solved_by q }

pub search_rows-requires : goal.search_rows-requires
search_rows-requires c =
    let l = c.in_ok-loaded.ensures in
    let a = is_accepted l.answered in
    rw c.rows-rows.ensures (a, in_order a (search rules) l.order, counted _ _ (rw c.rows-rows.ensures at c.size_of-codes.ensures))

pub returns : goal.returns
returns c =
    let n = rw c.rows-rows.ensures at c.size_of-codes.ensures in
    let e = rw c.rows-rows.ensures at c.search_rows.ensures in
    let q = solved_reply c.in_ok-loaded.ensures.answered _ _ _
    (answered (room_in _ _ n (omega arith)) (finished c.search_rows.new.memory (search rules) (search rules) (search rules) (search rules) e.0)) in
    record { replies = q; solved = solved_by q }
