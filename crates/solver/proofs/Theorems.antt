-- What follows from `Solved` alone, whoever computes it: the three demands, and that there is one outcome.
use Prim.Native.Nat.{ℕ}
use mathlib.Core.List.{List}
use mathlib.Core.Path.{subst}
use Rattle.meaning.specs.Code.{codes}
use Rattle.meaning.specs.Outcome.{Slices, Verdict, Outcome}
use Rattle.table.specs.declared.Row.{Row}
use Rattle.reader.specs.Reading.{rows_read}
use Rattle.intake.specs.Loading.{Loads, table}
use Rattle.solver.specs.Demands.{Demands, OneOutcome}
use Rattle.solver.specs.Solved.{Says, numbered, Room, Solved}
use Rattle.solver.specs.declared.Answer.{Answer}
use Rattle.solver.proofs.One.{replies_unique, same_numbers}
use Rattle.solver.proofs.Refusals.{first}
use Rattle.solver.proofs.Replying.{of_table, with_room}
use Rattle.solver.proofs.Some.{some_answer}
use Rattle.solver.proofs.Verdicts.{second, third}

pub demands : (text : List ℕ) (old new : Slices) (a : Answer) → Solved text old new a → Demands text old new a
demands text old new a s = record {
  first = first s;
  second = λ rows l m. let z = told rows l m in second z.1 z.2;
  third = λ rows l m. let z = told rows l m in third z.1 z.2;
}
  where
    told : (rows : List Row) → Loads text (rows_read rows) → Room (codes (table rows)) old → (v : Verdict) × Outcome (table rows) v new × Says a (numbered v)
    told rows l m = let z = with_room m (of_table l s.replies) in (z.verdict, z.outcome, subst (Says a) z.numbers s.says)

pub one_outcome : (text : List ℕ) (old : Slices) → OneOutcome text old
one_outcome text old = record {
  some_answer = some_answer text old;
  same_answer = λ x y a b s t. same_numbers t.reply (subst (Says a) (replies_unique s.replies t.replies).0 s.says) t.says;
  same_memory = λ x y a b s t. (replies_unique s.replies t.replies).1;
}
