-- A table's rows: as they are written, and as `meaning` has them.
use Rattle.std.specs.Prelude.{ℕ, ◌+◌, ◌<◌, ◌≤◌, cond, List, [], ◌∷◌, ◌++◌, map, ◌≡◌, eqb, get_or, take}
use Rattle.meaning.specs.Table as M
use Rattle.table.specs.declared.Table.{Table}
use Rattle.table.specs.declared.Kind.{Kind}
use Rattle.table.specs.declared.Kind.TheVariants as K
use Rattle.table.specs.declared.Row.{Row}
use Rattle.table.specs.declared.Row.TheVariants.{Yes, No, Is, Isnot, Any, All, Go, Stop}

-- The row of a kind with two fields.
abbrev pub row_by : Kind → ℕ → ℕ → Row
row_by K.Yes a b = Yes
row_by K.No a b = No
row_by K.Is a b = Is a
row_by K.Isnot a b = Isnot a
row_by K.Any a b = Any a b
row_by K.All a b = All a b
row_by K.Go a b = Go a b
row_by K.Stop a b = Stop a

-- The rows of a table: what it holds beyond their count is none.
abbrev pub rows_of : Table → List Row
rows_of t = take t.rows.len t.rows.items

-- Row i; beyond the last row it is `no`.
abbrev pub row_in : Table → ℕ → Row
row_in t i = get_or (rows_of t) i No

-- The table with one row more, or as it is where it is full.
pub record Extended (t : Table) (row : Row) (r : Table) : Type 0 where
  pub more : t.rows.len < 48 → (rows_of r ≡ rows_of t ++ (row ∷ [])) × (r.rows.len ≡ t.rows.len + 1)
  pub full : 48 ≤ t.rows.len → r ≡ t

-- 01, section 2: directions 1 to 4.
abbrev pub dir_of : ℕ → M.Dir
dir_of d = cond (eqb d 1) (M.down M.first) (cond (eqb d 2) (M.down M.next) (cond (eqb d 3) (M.up M.first) (M.up M.next)))

-- A row as 01 means it, where its name and direction exist.
abbrev pub meant : Row → M.Row
meant Yes = M.yes_row
meant No = M.no_row
meant (Is n) = M.is_row n
meant (Isnot n) = M.isnot_row n
meant (Any i j) = M.any_row i j
meant (All i j) = M.all_row i j
meant (Go d i) = M.go_row (dir_of d) i
meant (Stop d) = M.stop_row (dir_of d)

-- The table of 01 that rows, or a table, stand for.
abbrev pub table_in : List Row → M.Table
table_in rows = map meant rows

abbrev pub table_of : Table → M.Table
table_of t = table_in (rows_of t)
