-- What is proved of the reading of texts, each theorem as a record of what it gives. proofs/Theorems.antt proves them.
use Rattle.std.specs.Prelude.{ℕ, ◌≤◌, List, ◌++◌, ◌≡◌, length, Result, Ok, Err}
use Rattle.meaning.specs.Table.{row_limit}
use Rattle.table.specs.declared.Row.{Row}
use Rattle.table.specs.declared.Row.TheVariants.{Any}
use Rattle.table.specs.declared.Table.{Table}
use Rattle.table.specs.declared.refusal.Refusal.{Refusal}
use Rattle.table.specs.Rows.{rows_of}
use Rattle.table.specs.Written.{written, written_rows, Writable}
use Rattle.reader.specs.Reading.{Reading, rows_read, Sound, Reads, Answers}

-- 1. Every text, of any length and any bytes, has a reading, and no other.
pub record OneReading (text : List ℕ) : Type 0 where
  pub reading : Reading
  pub reads : Reads text reading
  pub unique : {a b : Reading} → Reads text a → Reads text b → a ≡ b

-- 2. So what `read_text` gives back is settled, but for the places of the table beyond its rows, which mean nothing.
pub record SameTable (t u : Table) : Type 0 where
  pub count : t.rows.len ≡ u.rows.len
  pub rows : rows_of t ≡ rows_of u

abbrev pub SameAnswer : Result Table Refusal → Result Table Refusal → Type 0
SameAnswer (Ok t) (Ok u) = SameTable t u
SameAnswer (Err r) (Err q) = r ≡ q
SameAnswer (Ok t) (Err q) = ⊥
SameAnswer (Err r) (Ok u) = ⊥

abbrev pub OneAnswer : Type 0
OneAnswer = (text : List ℕ) (r q : Result Table Refusal) → Answers text r → Answers text q → SameAnswer r q

-- 3. Rows that are written and read again are the same rows.
pub record ReadBack (rows : List Row) : Type 0 where
  pub reads : Reads (written_rows rows) (rows_read rows)
  pub same : (other : List Row) → Reads (written_rows rows) (rows_read other) → other ≡ rows

abbrev pub ReadsBack : Type 0
ReadsBack = (rows : List Row) → Sound rows → 1 ≤ length rows → length rows ≤ row_limit → ReadBack rows

-- 4. Where a text begins with a row as it is written, the row is that one alone: no written row begins another.
pub record OneRow (text : List ℕ) : Type 0 where
  pub same : (r q : Row) (end other : List ℕ) → Writable r → Writable q → text ≡ written r ++ end → text ≡ written q ++ other → (r ≡ q) × (end ≡ other)

-- 5. Section 6: a line of over 10 bytes is of wrong form, since no row of right form is written in more; `any 99 99` takes them all.
abbrev pub line_limit : ℕ
line_limit = 10

pub record LineLength : Type 0 where
  pub most : (r : Row) → Writable r → length (written r) ≤ line_limit
  pub reached : Writable (Any 99 99) × (length (written (Any 99 99)) ≡ line_limit)
