-- What the search answers, and what it promises of its answer and of the four slices.
use Rattle.meaning.specs.Code.{codes}
use Rattle.meaning.specs.Outcome.{Slices, Verdict, sat, unsat, Outcome}
use Rattle.meaning.specs.Table.{Table}
use Rattle.rounds.specs.Kept.{KeptAll}
use Rattle.rounds.specs.declared.Found.{Found}
use Rattle.rounds.specs.declared.Found.TheVariants.{Sat, Unsat}

-- The verdict with its numbers.
abbrev pub verdict_of : Found → Verdict
verdict_of (Sat height top) = sat height top
verdict_of (Unsat rounds) = unsat rounds

-- The outcome of the table, and nothing touched beyond its codes.
pub record Answered (rows : Table) (found : Found) (old x : Slices) : Type 0 where
  pub outcome : Outcome rows (verdict_of found) x
  pub kept : KeptAll (codes rows) old x
