-- The rank of a row: how deep its references go through `any` and `all`. In a table without a loop it falls along each of them.
use Rattle.std.specs.Prelude.{ℕ, zero, suc, max, length}
use Rattle.meaning.specs.Table.{Table, Row, row_at, yes_row, no_row, is_row, isnot_row, any_row, all_row, go_row, stop_row}

-- One more than the deeper of the two rows that an `any` or `all` row names.
abbrev pub deeper : (ℕ → ℕ) → Row → ℕ
deeper depth yes_row = 0
deeper depth no_row = 0
deeper depth (is_row n) = 0
deeper depth (isnot_row n) = 0
deeper depth (any_row i j) = suc (max (depth i) (depth j))
deeper depth (all_row i j) = suc (max (depth i) (depth j))
deeper depth (go_row d i) = 0
deeper depth (stop_row d) = 0

-- References are followed for `most` steps at most, so that this is a number for a table with a loop too.
unfoldable pub depth : Table → ℕ → ℕ → ℕ
depth rows zero i = 0
depth rows (suc most) i = deeper (depth rows most) (row_at rows i)

unfoldable pub rank_of : Table → ℕ → ℕ
rank_of rows i = depth rows (length rows) i
