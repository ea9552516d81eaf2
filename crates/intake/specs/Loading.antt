-- 01, section 6: what a text gives, an accepted table or one of refusals 1 to 7 with its place.
use Rattle.std.specs.Prelude.{ℕ, ◌<◌, ◌≤◌, Bool, true, false, cond, List, map, ◌≡◌, length, Result, Ok, Err, IfOk}
use Rattle.meaning.specs.Table as M
use Rattle.meaning.specs.Loop.{LoopFree}
use Rattle.meaning.specs.Outcome.{Accepted}
use Rattle.table.specs.Rows.{meant, rows_of}
use Rattle.table.specs.declared.Row.{Row}
use Rattle.table.specs.declared.refusal.Refusal.{Refusal}
use Rattle.table.specs.Refusals.{number_of, place_of}
use Rattle.reader.specs.Reading.{Reading, Reads, Sound, rows_read, refused}
use Rattle.loops.specs.Judged.{Checked, Fine, Missing, Looping, Large, Judged}
use Rattle.intake.specs.declared.Loaded.{Loaded}

-- The table of 01 that rows stand for.
abbrev pub table : List Row → M.Table
table rows = map meant rows

-- 01's number and place for what is judged of a table that was read. Refusal 7 is for whoever searches: where `sized` is false a table of any
-- size passes.
abbrev pub numbered : Bool → List Row → Checked → Reading
numbered sized rows Fine = rows_read rows
numbered sized rows (Missing i) = refused 5 i
numbered sized rows (Looping i) = refused 6 i
numbered sized rows Large = cond sized (refused 7 0) (rows_read rows)

-- 1 to 4 are met reading downwards; then 5 over all rows, then 6, then 7. What passes is accepted: `rows_read` of its rows.
pub data Takes (sized : Bool) (text : List ℕ) (a : Reading) : Type 0 where
  unread : {n p : ℕ} → Reads text (refused n p) → a ≡ refused n p → Takes sized text a
  judged : {rows : List Row} {c : Checked} → Reads text (rows_read rows) → Judged (table rows) c → a ≡ numbered sized rows c → Takes sized text a

-- Refusals 1 to 7, and refusals 1 to 6 alone.
abbrev pub Loads : List ℕ → Reading → Type 0
Loads text a = Takes true text a

abbrev pub Admits : List ℕ → Reading → Type 0
Admits text a = Takes false text a

-- 01's numbers for what the code returns.
abbrev pub reading_of : Result Loaded Refusal → Reading
reading_of (Ok l) = rows_read (rows_of l.table)
reading_of (Err r) = refused (number_of r) (place_of r)

-- What `load` and `admit` promise for every text.
pub record Answered (sized : Bool) (text : List ℕ) (r : Result Loaded Refusal) : Type 0 where
  pub takes : Takes sized text (reading_of r)
  pub counted : IfOk r (λ l. l.table.rows.len ≡ length (rows_of l.table))

-- A table that refusals 1, 3, 5 and 6 let pass: `Accepted` but for its size.
pub record Admissible (rows : M.Table) : Type 0 where
  pub some_row : 0 < length rows
  pub few_rows : length rows ≤ M.row_limit
  pub in_range : M.InRange rows
  pub loop_free : LoopFree rows

-- What is proved of it: each text has an answer and no other; an accepted table meets all that the theorems of `meaning` ask, and its names
-- and directions exist.
pub record OneAnswer (text : List ℕ) : Type 0 where
  pub answer : Reading
  pub loads : Loads text answer
  pub unique : {a b : Reading} → Loads text a → Loads text b → a ≡ b
  pub accepted : (rows : List Row) → Loads text (rows_read rows) → Accepted (table rows) × Sound rows
  pub small : (n p : ℕ) → Loads text (refused n p) → (0 < n) × (n < 8) × (p ≤ M.row_limit)

-- The same of `admit`.
pub record OneAdmission (text : List ℕ) : Type 0 where
  pub answer : Reading
  pub admits : Admits text answer
  pub unique : {a b : Reading} → Admits text a → Admits text b → a ≡ b
  pub admitted : (rows : List Row) → Admits text (rows_read rows) → Admissible (table rows) × Sound rows
  pub small : (n p : ℕ) → Admits text (refused n p) → (0 < n) × (n < 7) × (p ≤ M.row_limit)
