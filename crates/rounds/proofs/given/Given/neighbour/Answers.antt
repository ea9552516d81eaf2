use Rattle.std.proofs.Common.{arith, below_more}
use Rattle.table.proofs.Decides.{refuted}
use Rattle.rounds.proofs.Neighbours.{least_at, no_candidate, taken}
use Rattle.rounds.proofs.given.Given.neighbour.Goals as goal

pub codes-preserved-then-not-candidate : goal.codes-preserved-then-not-candidate
codes-preserved-then-not-candidate c =
    let l = c.codes in
    let looking = c.args.self.now.seen.layout.looks.looking in
    (l.invariant.0, below_more _ l.u l.invariant.1 (no_candidate looking l.u (refuted c.candidate.ensures c.if-not-candidate.true)))

pub returns-after-loop-j : goal.returns-after-loop-j
returns-after-loop-j c =
    let l = c.codes in
    let looking = c.args.self.now.seen.layout.looks.looking in
    least_at l.invariant.1
    (taken looking l.u (rw c.requires.0 at c.codes-test.true) (c.candidate.ensures.sound c.if-not-candidate.false) c.requires.1 (λ i s. c.loop-j.invariant i (omega arith)))
