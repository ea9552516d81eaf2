-- What is kept is right all the time.
use Rattle.codes.specs.Sighted.{SightsIn}
use Rattle.rounds.proofs.see.see_all.Given as goal

abbrev pub invariant-loop-u : goal.invariant-loop-u
invariant-loop-u l = SightsIn l.layout.looks l.sights
