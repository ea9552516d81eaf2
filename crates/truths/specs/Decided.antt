-- What is found for a table and a sheet: whether each row is true at each line, in the truth of 01's section 3.
use Rattle.std.specs.Prelude.{ℕ, Bool, ◌<◌, List, length}
use Rattle.meaning.specs.Table.{Table}
use Rattle.meaning.specs.Tree.{Tree, Place}
use Rattle.meaning.specs.Truth.{TrueAt}
use Rattle.table.specs.Decides.{Decides}
use Rattle.sheets.specs.Tree.{At, SheetTree}
use Rattle.sheets.specs.declared.Line.{Line}
use Rattle.truths.specs.Cells.{found}

pub record Decided (rows : Table) (lines : List Line) (truth : List (List Bool)) : Type 0 where
  pub decides : (t : Tree) → SheetTree lines t → (p : Place) (i k : ℕ) → At lines i p → k < length rows → Decides (found truth i k) (TrueAt rows t k p)
