-- The rounds before k each entered a code and none of them a good one. There are fewer than 50,000.
use Rattle.std.proofs.Common.{◌-◌}
use Rattle.meaning.specs.Code.{codes}
use Rattle.rounds.specs.Ended.{Before}
use Rattle.rounds.specs.Kept.{KeptAll, SameLent}
use Rattle.rounds.specs.Round.{run}
use Rattle.rounds.specs.Tables.{table_given}
use Rattle.rounds.proofs.given.Given.all_rounds.Given as goal

abbrev pub invariant-loop-lent : goal.invariant-loop-lent
invariant-loop-lent l = Before (table_given l.self) l.k (run l.lent)
    × KeptAll (codes (table_given l.self)) (run l.fn.lent) (run l.lent) × SameLent l.fn.lent l.lent

abbrev pub decreases-loop-lent : goal.decreases-loop-lent
decreases-loop-lent l = 50000 - l.k
