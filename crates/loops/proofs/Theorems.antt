-- Refusals 5 to 7 are fixed by the table.
use Rattle.meaning.specs.Table.{Table}
use Rattle.loops.specs.Judged.{OneJudgement}
use Rattle.loops.proofs.Exists.{judged_exists}
use Rattle.loops.proofs.Unique.{judged_unique}

pub one_judgement : (rows : Table) → OneJudgement rows
one_judgement rows = let x = judged_exists rows in record { answer = x.0; judged = x.1; only = λ a b. judged_unique a b }
