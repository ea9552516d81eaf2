-- 01, section 6, refusals 1 to 4: what reading a text gives. It is said by how rows are written and not by how they are read: the text is
-- some rows of right form, one after another as they are written, and then a rest.
use Rattle.std.specs.Prelude.{ℕ, ◌<◌, ◌≤◌, List, [], ◌∷◌, ◌++◌, ◌≡◌, length, Result, Ok, Err, IfOk}
use Rattle.meaning.specs.Table.{row_limit}
use Rattle.table.specs.declared.Row.{Row}
use Rattle.table.specs.declared.Table.{Table}
use Rattle.table.specs.declared.refusal.Refusal.{Refusal}
use Rattle.table.specs.Refusals.{number_of, place_of}
use Rattle.table.specs.Rows.{rows_of}
use Rattle.table.specs.Written.{written, written_rows, Writable, Exists}

-- The rows that were read, or a refusal's number and place.
pub data Reading : Type 0 where
  rows_read : (rows : List Row) → Reading
  refused : (number place : ℕ) → Reading

-- Every row of the list is of right form, and its name or direction exists.
pub data Sound : List Row → Type 0 where
  none : Sound []
  more : {r : Row} {rows : List Row} → Writable r → Exists r → Sound rows → Sound (r ∷ rows)

-- The text is these rows, none of them faulty, and then the rest.
pub record After (text : List ℕ) (rows : List Row) (rest : List ℕ) : Type 0 where
  pub sound : Sound rows
  pub split : text ≡ written_rows rows ++ rest

-- A line begins in the rest where it is not empty.
abbrev pub Begins : List ℕ → Type 0
Begins rest = rest ≡ [] → ⊥

-- No line of right form stands at the front, be it for the kind word, the field count, a number, the line feed or the length.
pub record Malformed (rest : List ℕ) : Type 0 where
  pub no_row : (r : Row) (end : List ℕ) → Writable r → rest ≡ written r ++ end → ⊥

-- The first faulty line wins, and on one line 3 before 2 before 4.
pub data Reads (text : List ℕ) : Reading → Type 0 where
  -- 1: a text of length 0
  empty : text ≡ [] → Reads text (refused 1 0)
  -- 2: a line of wrong form
  malformed : (rows : List Row) (rest : List ℕ) → After text rows rest → length rows < row_limit → Begins rest → Malformed rest → Reads text (refused 2 (length rows))
  -- 3: a 49th line begins
  too_many : (rows : List Row) (rest : List ℕ) → After text rows rest → length rows ≡ row_limit → Begins rest → Reads text (refused 3 row_limit)
  -- 4: a name above 15, or a direction outside 1 to 4
  not_there : (rows : List Row) (r : Row) (end : List ℕ) → After text rows (written r ++ end) → length rows < row_limit → Writable r → (Exists r → ⊥) → Reads text (refused 4 (length rows))
  -- no fault in the whole text
  read : (rows : List Row) → After text rows [] → 1 ≤ length rows → length rows ≤ row_limit → Reads text (rows_read rows)

-- 01's numbers for what the code returns.
abbrev pub reading_of : Result Table Refusal → Reading
reading_of (Ok t) = rows_read (rows_of t)
reading_of (Err r) = refused (number_of r) (place_of r)

-- All that reading gives back.
pub record Answers (text : List ℕ) (r : Result Table Refusal) : Type 0 where
  pub reads : Reads text (reading_of r)
  pub counted : IfOk r (λ t. t.rows.len ≡ length (rows_of t))
