-- What the second half of a call is handed: the rows of a table that was admitted, and lines that were accepted.
use Rattle.std.specs.Prelude.{◌<◌, ◌≤◌, List, length}
use Rattle.table.specs.Rows.{table_in}
use Rattle.table.specs.declared.Row.{Row}
use Rattle.intake.specs.Loading.{Admissible}
use Rattle.sheets.specs.Lines.{line_limit}
use Rattle.sheets.specs.Links.{FaultFree}
use Rattle.sheets.specs.declared.Line.{Line}

pub record Ready (rows : List Row) (lines : List Line) : Type 0 where
  pub admissible : Admissible (table_in rows)
  pub some_line : 0 < length lines
  pub few_lines : length lines ≤ line_limit
  pub fault_free : FaultFree lines
