-- 01, section 6: refusals 5, 6 and 7 of a table, in this order.
use Rattle.std.specs.Prelude.{ℕ, ◌<◌, ◌≤◌, ◌≡◌, length}
use Rattle.meaning.specs.Table.{Dir, Table, row_at, go_row, Refers, InRange, size, size_limit}
use Rattle.meaning.specs.Loop.{LoopFree, SmallestOnLoop}

-- What is said of a table: nothing, or which of the refusals, and 5 and 6 with their row.
pub data Checked : Type 0 where
  Fine : Checked
  Missing : (i : ℕ) → Checked
  Looping : (i : ℕ) → Checked
  Large : Checked

-- 01's numbers: which refusal it is, and at which place; 0 and 0 for none.
abbrev pub refusal_of : Checked → ℕ
refusal_of Fine = 0
refusal_of (Missing i) = 5
refusal_of (Looping i) = 6
refusal_of Large = 7

abbrev pub place_of : Checked → ℕ
place_of Fine = 0
place_of (Missing i) = i
place_of (Looping i) = i
place_of Large = 0

-- Row i names row j: as `any` or `all`, or as `go`.
pub data Names (rows : Table) (i j : ℕ) : Type 0 where
  referring : Refers rows i j → Names rows i j
  looking : {d : Dir} → row_at rows i ≡ go_row d j → Names rows i j

-- Row i is the smallest that names a row that isn't there.
pub record SmallestMissing (rows : Table) (i : ℕ) : Type 0 where
  pub missing : (j : ℕ) × Names rows i j × (length rows ≤ j)
  pub none_before : (k : ℕ) → k < i → (j : ℕ) → Names rows k j → j < length rows

-- First 5 over all rows, then 6, then 7.
pub data Judged (rows : Table) : Checked → Type 0 where
  fine : InRange rows → LoopFree rows → size rows ≤ size_limit → Judged rows Fine
  missing : {i : ℕ} → SmallestMissing rows i → Judged rows (Missing i)
  looping : {i : ℕ} → InRange rows → SmallestOnLoop rows i → Judged rows (Looping i)
  large : InRange rows → LoopFree rows → size_limit < size rows → Judged rows Large

-- Every table is judged, and in one way only.
pub record OneJudgement (rows : Table) : Type 0 where
  pub answer : Checked
  pub judged : Judged rows answer
  pub only : {a b : Checked} → Judged rows a → Judged rows b → a ≡ b
