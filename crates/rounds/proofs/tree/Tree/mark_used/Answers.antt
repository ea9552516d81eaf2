use Rattle.std.proofs.Common.{arith, ◌≡◌, ◌<◌, length}
use Rattle.rounds.proofs.Marks.{mark_top, used_there}
use Rattle.rounds.proofs.Places.{kept_store}
use Rattle.rounds.proofs.tree.Tree.mark_used.Goals as goal

pub loop-r-init : goal.loop-r-init
loop-r-init c =
    let q = c.requires.from_top in
    let used = c.args.used.now in
    let inside : c.args.top < length used = omega (arith, c.requires.room) in
    rw c.from.ensures (mark_top c.args.self.now.linked used q.3 inside q.1, kept_store used c.args.top 1 q.0)

pub returns : goal.returns
returns c =
    let q = c.requires.from_top in
    let e : c.loop-r.r ≡ 0 = omega arith in
    let i = c.loop-r.invariant in
    record { kept = i.1; is_used = used_there c.args.self.now.linked q.0 (omega arith) (rw e at i.0) }
