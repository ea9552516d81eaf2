-- The truths of a code's rows, as one pass through them works them out.
use Rattle.std.specs.Prelude.{ℕ, ◌<◌, Bool, false, List, get_or, length}
use Rattle.meaning.specs.Code.{TrueIn}
use Rattle.meaning.specs.Table.{Table, Refers}
use Rattle.table.specs.Decides.{Decides}

abbrev pub true_by : List Bool → ℕ → Bool
true_by truths i = get_or truths i false

-- Row i is worked out.
abbrev pub Worked : Table → ℕ → List Bool → ℕ → Type 0
Worked rows code truths i = Decides (true_by truths i) (TrueIn rows code i)

-- What is said of row i follows from the rows that it refers to.
pub record Follows (rows : Table) (code : ℕ) (truths : List Bool) (i : ℕ) (b : Bool) : Type 0 where
  pub decides : ((j : ℕ) → Refers rows i j → Worked rows code truths j) → Decides b (TrueIn rows code i)

-- All rows are worked out.
pub record AllWorked (rows : Table) (code : ℕ) (truths : List Bool) : Type 0 where
  pub each : (i : ℕ) → i < length rows → Worked rows code truths i
