-- Refusal 5 as a test of each row.
use Rattle.std.specs.Prelude.{ℕ, Bool, false, ◌||◌, Option, leb, length, position}
use Rattle.meaning.specs.Table.{Table, Row, yes_row, no_row, is_row, isnot_row, any_row, all_row, go_row, stop_row}

-- A row names a row that isn't one of n.
abbrev pub misses : ℕ → Row → Bool
misses n yes_row = false
misses n no_row = false
misses n (is_row k) = false
misses n (isnot_row k) = false
misses n (any_row i j) = leb n i || leb n j
misses n (all_row i j) = leb n i || leb n j
misses n (go_row d i) = leb n i
misses n (stop_row d) = false

-- The first row that does.
abbrev pub first_missing : Table → Option ℕ
first_missing rows = position (misses (length rows)) rows
