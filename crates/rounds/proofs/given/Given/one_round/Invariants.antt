-- Round k has visited the codes below t.
use Rattle.rounds.proofs.Whole.{Going}
use Rattle.rounds.specs.Kept.{SameLent}
use Rattle.rounds.specs.Round.{run}
use Rattle.rounds.specs.Tables.{table_given}
use Rattle.rounds.proofs.given.Given.one_round.Given as goal

abbrev pub invariant-loop-t : goal.invariant-loop-t
invariant-loop-t l = Going (table_given l.self) l.k l.t l.any (run l.fn.lent) (run l.lent) × SameLent l.fn.lent l.lent
