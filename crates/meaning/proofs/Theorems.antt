-- The theorems of specs/Theorems.antt, in its order, and the small proved table.
use Prim.Native.Nat.{◌<◌}
use lib.ListN.{length}
use Rattle.meaning.specs.Cases.{cases, AllRight}
use Rattle.meaning.specs.Loop.{LoopFree}
use Rattle.meaning.specs.Outcome.{Accepted}
use Rattle.meaning.specs.Table.{Table, InRange}
use Rattle.meaning.specs.Theorems.{OneSolution, Loops, SameAnswers, RoundsAreHeights, Found, Bound, Settled}
use Rattle.meaning.proofs.Answers.Complete.{complete}
use Rattle.meaning.proofs.Answers.Sound.{sound}
use Rattle.meaning.proofs.Cases.Right.{all_right}
use Rattle.meaning.proofs.Loops.Joined.{joined_stretch}
use Rattle.meaning.proofs.Loops.Turned.{turned}
use Rattle.meaning.proofs.Outcome.Bound.{bound as height_bound}
use Rattle.meaning.proofs.Outcome.Exists.{reached}
use Rattle.meaning.proofs.Outcome.Found.{height_is_round, none_found}
use Rattle.meaning.proofs.Outcome.Unique.{outcome_unique}
use Rattle.meaning.proofs.Rounds.Entry.{ended}
use Rattle.meaning.proofs.Rounds.Grown.{grown}
use Rattle.meaning.proofs.Rounds.Smallest.{enters_smallest}
use Rattle.meaning.proofs.Solution.Solve.{truth_dec, truth_solves, truth_unique}

-- 1
pub one_solution : {rows : Table} → InRange rows → LoopFree rows → OneSolution rows
one_solution {rows} range free = record { decided = truth_dec range free; solved = truth_solves rows; only = truth_unique range free }

-- 2
pub loops : (rows : Table) → Loops rows
loops rows = record { turned = turned rows; closure = joined_stretch rows }

-- 3
pub same_answers : {rows : Table} → InRange rows → LoopFree rows → 0 < length rows → SameAnswers rows
same_answers range free some_row = record { sound = sound range free some_row; complete = complete range free }

-- 4
pub rounds_are_heights : {rows : Table} → InRange rows → LoopFree rows → RoundsAreHeights rows
rounds_are_heights range free = record { same = enters_smallest; ended = ended range free; grown = λ room x. grown room x }

-- 5
pub found : {rows : Table} → Accepted rows → Found rows
found a = record { height_is_round = height_is_round a; none = none_found a }

-- 6
pub bound : {rows : Table} → InRange rows → LoopFree rows → Bound rows
bound range free = λ c k x. height_bound range free x

-- 7
pub settled : {rows : Table} → Accepted rows → Settled rows
settled a = let x = reached a in record { verdict = x.0; slices = x.2.slices; outcome = x.2.outcome; unique = λ o p. outcome_unique o p }

pub cases_right : AllRight cases
cases_right = all_right
