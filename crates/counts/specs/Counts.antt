-- 01, section 4: which bit is which row's. Two lists, one from rows to bits and one from bits to rows.
use Rattle.std.specs.Prelude.{ℕ, ◌<◌, ◌≤◌, Bool, List, ◌≡◌, eqb, get_or, length, take}
use Rattle.meaning.specs.Table.{Table, row_at, look, looks}
use Rattle.table.specs.Rows.{meant}
use Rattle.table.specs.declared.Row.{Row}

-- Whether a row is a `go` row.
abbrev pub is_look : Row → Bool
is_look row = eqb (look (meant row)) 1

-- The place of each row's bit, if it is a `go` row: the first has place 0, the second 1, and so on.
pub record Places (rows : Table) (places : List ℕ) : Type 0 where
  pub place : (i : ℕ) → i < length rows → get_or places i 0 ≡ looks (take i rows)
  pub rest : (i : ℕ) → length rows ≤ i → get_or places i 0 ≡ 0

-- Row i is the `go` row whose bit has place j.
pub record LookRow (rows : Table) (j i : ℕ) : Type 0 where
  pub there : i < length rows
  pub looking : look (row_at rows i) ≡ 1
  pub place : looks (take i rows) ≡ j

-- The `go` row of each bit.
pub record LookRows (rows : Table) (found : List ℕ) : Type 0 where
  pub row : (j : ℕ) → j < looks rows → LookRow rows j (get_or found j 0)
  pub rest : (j : ℕ) → looks rows ≤ j → get_or found j 0 ≡ 0
