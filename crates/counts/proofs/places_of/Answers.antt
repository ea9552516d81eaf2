use Rattle.std.proofs.Common.{refl, arith, ◌<◌, length}
use Rattle.meaning.specs.Table.{looks}
use Rattle.std.proofs.Math.ListN.{length-set}
use Rattle.counts.proofs.Grown.{places_none, places_next}
use Rattle.counts.proofs.Laws.{looks_more, looks_kept}
use Rattle.table.specs.declared.Row.TheVariants.{No}
use Rattle.counts.proofs.places_of.Goals as goal
use Rattle.counts.proofs.places_of.Goals.{then-is_look, else-is_look}

pub loop-i-init : goal.loop-i-init
unfolding looks
loop-i-init c = (refl, omega arith, refl, places_none 48)

pub loop-i-preserved : goal.loop-i-preserved
loop-i-preserved c =
    let l = c.loop-i in
    let s : l.i < length c.args.rows.now = omega arith in
    let h : l.i < length l.places = omega arith in
    let p = places_next c.args.rows.now No l.places l.i l.passed s l.invariant.0 l.invariant.3 h in
    elim c.if-is_look.branch [
      | then-is_look w ↦ (omega (arith, looks_more c.args.rows.now _ l.i s w.if-is_look.ensures), omega arith, simp length-set l.invariant.2, p)
      | else-is_look w ↦ (omega (arith, looks_kept c.args.rows.now _ l.i s w.if-is_look.ensures), omega arith, simp length-set l.invariant.2, p)
    ]
