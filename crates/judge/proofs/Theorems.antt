-- The theorem of specs/Judging: the outcome is one, and there is one.
use Prim.Native.Nat.{ℕ}
use mathlib.Core.List.{List}
use Rattle.judge.specs.Judging.{OneOutcome}
use Rattle.judge.proofs.One.{judges_same}
use Rattle.judge.proofs.Some.{some_outcome}

pub one_outcome : (text sheet old : List ℕ) → OneOutcome text sheet old
one_outcome text sheet old =
    record {
      some_answer = some_outcome old sheet text;
      same_answer = λ x y a b j k. (judges_same sheet text j k).numbers;
      same_memory = λ x y a b j k. (judges_same sheet text j k).memory;
    }
