-- 02, C-11: what `judge` promises, for every table, every sheet and every length of lent memory.
use Rattle.std.specs.Prelude.{ℕ, ◌<◌, ◌≤◌, List, ◌++◌, ◌≡◌, length, drop, Result, Ok, Err, MatchResult}
use Rattle.meaning.specs.Table.{Table}
use Rattle.table.specs.declared.Row.{Row}
use Rattle.table.specs.Refusals.{number_of, place_of}
use Rattle.table.specs.declared.refusal.Refusal.{Refusal}
use Rattle.reader.specs.Reading.{rows_read, refused}
use Rattle.intake.specs.Loading.{Admits, table}
use Rattle.sheets.specs.Lines.{line_limit}
use Rattle.sheets.specs.Reading.{lines_read, refused as refused-at}
use Rattle.sheets.specs.Links.{Loads}
use Rattle.sheets.specs.declared.Line.{Line}
use Rattle.judge.specs.Verdicts.{Verdicts}
use Rattle.judge.specs.Writing.{output_limit}
use Rattle.judge.specs.declared.Judged.{Judged}

-- What crosses to another language: how many bytes were written, or a refusal and its place.
abbrev pub judged_of : Result ℕ Refusal → Judged
judged_of (Ok bytes) = record { written = bytes; refusal = 0; place = 0 }
judged_of (Err r) = record { written = 0; refusal = number_of r; place = place_of r }

-- No number is large.
abbrev pub Small : Result ℕ Refusal → Type 0
Small r = MatchResult r (λ bytes. bytes ≤ output_limit) (λ r. place_of r ≤ line_limit)

pub record Numbers (a : Judged) (bytes number place : ℕ) : Type 0 where
  pub written_is : a.written ≡ bytes
  pub refusal_is : a.refusal ≡ number
  pub place_is : a.place ≡ place

-- A refusal leaves lent memory as it was.
pub record Refused (number place : ℕ) (old new : List ℕ) (a : Judged) : Type 0 where
  pub numbers : Numbers a 0 number place
  pub untouched : new ≡ old

-- Accepted lines: 8 where the lent bytes are too few; else the verdicts stand at the front of lent memory, which is as it was beyond them.
pub data JudgesLines (rows : Table) (lines : List Line) (old new : List ℕ) (a : Judged) : Type 0 where
  too_few : {bytes : List ℕ} → Verdicts rows lines bytes → length old < length bytes → Refused 8 0 old new a → JudgesLines rows lines old new a
  judged : {bytes : List ℕ} → Verdicts rows lines bytes → length bytes ≤ length old → Numbers a (length bytes) 0 0 → new ≡ bytes ++ drop (length bytes) old → JudgesLines rows lines old new a

-- A sheet: 9 and 10 before that.
pub data JudgesSheet (rows : Table) (sheet old new : List ℕ) (a : Judged) : Type 0 where
  by_sheet : {n p : ℕ} → Loads sheet (refused-at n p) → Refused n p old new a → JudgesSheet rows sheet old new a
  by_lines : {lines : List Line} → Loads sheet (lines_read lines) → JudgesLines rows lines old new a → JudgesSheet rows sheet old new a

-- A table and a sheet: 1 to 6 on the table before that, and never 7.
pub data Judges (text sheet old new : List ℕ) (a : Judged) : Type 0 where
  by_table : {n p : ℕ} → Admits text (refused n p) → Refused n p old new a → Judges text sheet old new a
  admitted : {rows : List Row} → Admits text (rows_read rows) → JudgesSheet (table rows) sheet old new a → Judges text sheet old new a

-- The outcome is one: the three numbers and every byte of the memory; and each table and sheet with each memory has one.
pub record SameNumbers (a b : Judged) : Type 0 where
  pub same_written : a.written ≡ b.written
  pub same_refusal : a.refusal ≡ b.refusal
  pub same_place : a.place ≡ b.place

pub record OneOutcome (text sheet old : List ℕ) : Type 0 where
  pub some_answer : (new : List ℕ) × (a : Judged) × Judges text sheet old new a
  pub same_answer : (x y : List ℕ) (a b : Judged) → Judges text sheet old x a → Judges text sheet old y b → SameNumbers a b
  pub same_memory : (x y : List ℕ) (a b : Judged) → Judges text sheet old x a → Judges text sheet old y b → x ≡ y
