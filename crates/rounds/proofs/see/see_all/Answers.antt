use Rattle.std.proofs.Common.{◌<◌, length, arith}
use Rattle.std.proofs.lemmas.List.{set-get_or}
use Rattle.rounds.proofs.Seen.{one_kept}
use Rattle.rounds.proofs.see.see_all.Goals as goal
use Rattle.rounds.proofs.see.see_all.Goals.{then-proper, else-proper}

pub loop-u-preserved : goal.loop-u-preserved
loop-u-preserved c =
    let l = c.loop-u in
    elim c.if-proper.branch [
      | then-proper w ↦
          let inside : l.u < length l.sights = omega arith in
          rw w.sights-is (one_kept l.invariant l.u w.sight_of.result inside w.sight_of.ensures)
      | else-proper w ↦ rw (w.sights-is, set-get_or l.sights l.u 0) l.invariant
    ]
