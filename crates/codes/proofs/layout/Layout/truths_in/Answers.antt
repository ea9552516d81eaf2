use Rattle.std.proofs.Common.{◌<◌, length, get_or, arith, ◌∙◌}
use Rattle.std.proofs.Math.ListN.{length-set}
use Rattle.std.proofs.Math.Seq.{get_or-take}
use Rattle.std.proofs.Math.Logic.{∥∥₁_map}
use Rattle.counts.proofs.Laws.{table_long}
use Rattle.codes.proofs.Passing.{passed_more, passed_all, step_inside, few_rows, steps_long}
use Rattle.codes.proofs.Sure.{all_worked}
use Rattle.codes.proofs.layout.Layout.truths_in.Goals as goal

pub loop-row-preserved : goal.loop-row-preserved
loop-row-preserved c =
    let s = c.args.self.now in
    let l = c.loop-row in
    let turn : l.row-index < length s.looks.rows.now = omega (arith, steps_long s.in_order) in
    let e = c.from-row.ensures ∙ get_or-take (length s.looks.rows.now) s.order.now l.row-index 0 turn in
    let inside : get_or s.order.now l.row-index 0 < length l.truths = omega (arith, step_inside s.in_order l.row-index turn, few_rows s.in_order) in
    (simp length-set l.invariant.0, rw e (passed_more l.row-index l.invariant.1 s.laid.range c.truth.result inside (rw e at c.truth.ensures)))

pub returns : goal.returns
returns c =
    let s = c.args.self.now in
    let l = c.loop-row in
    all_worked s.laid.range (∥∥₁_map s.in_order (λ o. o.ordered)) c.args.code
    (∥∥₁_map s.in_order (λ o. record { each = passed_all l.row-index l.invariant.1 o.ordered (omega (arith, table_long s.looks.rows.now, steps_long s.in_order)) }))
