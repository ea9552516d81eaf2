-- 02, C-11: what is to be written of a sheet for a table.
use Rattle.std.specs.Prelude.{ℕ, List, ◌≡◌, get_or, length}
use Rattle.meaning.specs.Table.{Table}
use Rattle.meaning.specs.Tree.{Tree, Place}
use Rattle.meaning.specs.Truth.{TrueAt}
use Rattle.sheets.specs.Tree.{SheetTree, At}
use Rattle.sheets.specs.declared.Line.{Line}
use Rattle.judge.specs.Output.{verdict_lines}

-- The digit of a line that is the node p of the tree t: 1 exactly if row 0 is true there.
pub data DigitIs (rows : Table) (t : Tree) (p : Place) : ℕ → Type 0 where
  is_true : TrueAt rows t 0 p → DigitIs rows t p 1
  is_false : (TrueAt rows t 0 p → ⊥) → DigitIs rows t p 0

-- The bytes: one line a node, each with the digit of its place in the sheet's tree, of which each line is exactly one node.
pub record Verdicts (rows : Table) (lines : List Line) (bytes : List ℕ) : Type 0 where
  pub tree : Tree
  pub of_sheet : SheetTree lines tree
  pub digits : List ℕ
  pub many : length digits ≡ length lines
  pub digit : (i : ℕ) (p : Place) → At lines i p → DigitIs rows tree p (get_or digits i 0)
  pub bytes_are : bytes ≡ verdict_lines 0 digits
