use Rattle.std.proofs.Common.{refl, arith, ◌<◌, length}
use Rattle.meaning.specs.Table.{looks}
use Rattle.std.proofs.Math.ListN.{length-set}
use Rattle.counts.proofs.Grown.{found_none, found_next, found_not}
use Rattle.counts.proofs.Laws.{looks_more, looks_kept}
use Rattle.counts.proofs.look_rows_of.Goals as goal
use Rattle.counts.proofs.look_rows_of.Goals.{then-is_look, else-is_look}

pub loop-i-init : goal.loop-i-init
unfolding looks
loop-i-init c = (refl, omega arith, refl, found_none 48)

pub loop-i-preserved : goal.loop-i-preserved
loop-i-preserved c =
    let l = c.loop-i in
    let rows = c.args.rows.now in
    let s : l.i < length rows = omega arith in
    elim c.if-is_look.branch [
      | then-is_look w ↦
          let h : l.m < length l.look_rows = omega arith in
          let e = w.if-is_look.ensures in
          rw (w.look_rows-is, w.m-is) (omega (arith, looks_more rows _ l.i s e), omega arith, simp length-set l.invariant.2, found_next rows _ l.look_rows l.i l.m s l.invariant.0 l.invariant.3 e h)
      | else-is_look w ↦
          let e = w.if-is_look.ensures in
          rw (w.look_rows-is, w.m-is) (omega (arith, looks_kept rows _ l.i s e), omega arith, l.invariant.2, found_not rows _ l.look_rows l.i l.m s l.invariant.0 l.invariant.3 e)
    ]
