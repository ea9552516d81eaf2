use Rattle.std.proofs.Common.{◌<◌, length, arith}
use Rattle.counts.proofs.Laws.{table_long, row_at-table_in}
use Rattle.table.specs.declared.Row.TheVariants.{Yes}
use Rattle.truths.proofs.Turns.{rested_more, rested_not, rested_all}
use Rattle.truths.proofs.asked.Asked.hand_on.Goals as goal
use Rattle.truths.proofs.asked.Asked.hand_on.Goals.{in-Some, in_default}

pub loop-i-preserved : goal.loop-i-preserved
loop-i-preserved c =
    let l : c.loop-i.i < length c.args.self.now.rows.now = omega arith in
    let r = rw (← (row_at-table_in c.args.self.now.rows.now Yes c.loop-i.i l)) at c.rests_at.ensures in
    elim c.match-rests_at.branch [
      | in-Some w ↦ rw w.found-is (rested_more (rw w.in-Some.is at r) c.loop-i.invariant w.visit.ensures)
      | in_default w ↦ rw w.found-is (rested_not (rw w.in_default.is at r) c.loop-i.invariant)
    ]

pub returns : goal.returns
returns c = rested_all (omega (arith, table_long c.args.self.now.rows.now)) c.loop-i.invariant
