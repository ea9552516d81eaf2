-- There is room for a cell that was not found.
use Rattle.std.proofs.Common.{arith}
use Rattle.table.proofs.Decides.{refuted}
use Rattle.truths.proofs.Putting.{grid_more, put, entered}
use Rattle.truths.proofs.found.Found.enter.Goals as goal

pub invariant_of-self : goal.invariant_of-self
invariant_of-self c =
    let s = c.args.self.now in
    let unfound = refuted c.has.ensures c.if-not-has.true in
    rw (c.from-line.ensures, c.from-row.ensures) (record {
      grid = grid_more s.truth c.args.cell s.grid (omega arith) (omega arith);
      queued = put s.truth c.args.cell s.grid (omega arith) (omega arith) s.queue.items s.queue.len s.queued unfound (omega arith) c.push.ensures;
    })

pub returns-then-not-has : goal.returns-then-not-has
returns-then-not-has c =
    let s = c.args.self.now in
    let unfound = refuted c.has.ensures c.if-not-has.true in
    rw (c.from-line.ensures, c.from-row.ensures) (entered s.truth c.args.cell s.grid (omega arith) (omega arith) s.queue.items s.queue.len s.queued unfound (omega arith) c.push.ensures)
