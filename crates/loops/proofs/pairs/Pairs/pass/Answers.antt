use Rattle.std.proofs.Common.{◌∙◌, ap, length, arith}
use Rattle.counts.proofs.Laws.{table_long}
use Rattle.loops.proofs.Passes.{row_next, row_last}
use Rattle.loops.proofs.pairs.Pairs.pass.Goals as goal

pub loop-j-preserved : goal.loop-j-preserved
loop-j-preserved c =
    let l = c.loop-j in
    let e = c.settle-more.ensures in
    (e.0 ∙ l.invariant.0, row_next _ _ _ _ _ _ _ _ l.invariant.1 (rw l.invariant.0 at e.1))

pub loop-i-preserved : goal.loop-i-preserved
loop-i-preserved c =
    let l = c.loop-j in
    let n = table_long c.args.self.now.rows.now in
    (l.invariant.0, row_last _ _ _ _ _ _ (omega (arith, n, ap length c.loop-i.invariant.0, c.loop-j-test.false)) l.invariant.1)
