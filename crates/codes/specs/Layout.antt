-- What is lent with a table's rows to whoever works on its codes: m, the bit place of each row, the rows in the order of one pass, and the look
-- rows by their bits. The caller proves it once, and hands it on.
use Rattle.std.specs.Prelude.{ℕ, ◌<◌, ◌≤◌, List, ◌≡◌, length}
use Rattle.meaning.specs.Table.{row_limit, looks, InRange}
use Rattle.table.specs.Rows.{table_in}
use Rattle.table.specs.declared.Row.{Row}
use Rattle.counts.specs.Counts.{Places, LookRows}
use Rattle.counts.specs.Order.{Ordered}

-- m is the number of look rows; 2^m is at most 4,096.
pub record Width (rows : List Row) (m : ℕ) : Type 0 where
  pub is_m : m ≡ looks (table_in rows)
  pub small : m ≤ 12

-- What the truth of a row in a code needs: references that are there, and the rows' bit places.
pub record Laid (rows : List Row) (places : List ℕ) (m : ℕ) : Type 0 where
  pub width : Width rows m
  pub range : InRange (table_in rows)
  pub enough : length rows ≤ length places
  pub placed : Places (table_in rows) places

-- What one pass through the rows needs: there is a step for each, and none comes before what it names.
pub record InOrder (rows : List Row) (order : List ℕ) : Type 0 where
  pub some : 0 < length rows
  pub few : length rows ≤ row_limit
  pub enough : length rows ≤ length order
  pub ordered : Ordered (table_in rows) order

-- What a test of every look row needs: they are in `look`.
pub record Looking (rows : List Row) (look : List ℕ) (m : ℕ) : Type 0 where
  pub width : Width rows m
  pub enough : m ≤ length look
  pub found : LookRows (table_in rows) look
