-- 02, C-11, refusal 10: the lines that a sheet's fields name.
use Rattle.std.specs.Prelude.{ℕ, ◌<◌, ◌≤◌, List, ◌≡◌, length, Some, Result, IfOk}
use Rattle.meaning.specs.Table.{Side}
use Rattle.sheets.specs.Lines.{link, line_at}
use Rattle.sheets.specs.Reading.{Reading, lines_read, refused, Reads, reading_of, Counted}
use Rattle.sheets.specs.declared.Line.{Line}
use Rattle.sheets.specs.declared.Sheet.{Sheet}
use Rattle.table.specs.declared.refusal.Refusal.{Refusal}

-- The field of line i at the side s names line j.
pub record Names (lines : List Line) (i : ℕ) (s : Side) (j : ℕ) : Type 0 where
  pub names : link s (line_at lines i) ≡ Some j

-- Line i names a line not greater than itself or not there, or it isn't line 0 and is named never or more than once. Every line's fields count,
-- and first and next of one line count apart.
pub data Faulty (lines : List Line) (i : ℕ) : Type 0 where
  not_greater : {s : Side} {j : ℕ} → Names lines i s j → j ≤ i → Faulty lines i
  not_there : {s : Side} {j : ℕ} → Names lines i s j → length lines ≤ j → Faulty lines i
  never_named : 0 < i → i < length lines → ((k : ℕ) (s : Side) → Names lines k s i → ⊥) → Faulty lines i
  named_by_two : 0 < i → i < length lines → {k l : ℕ} {s r : Side} → Names lines k s i → Names lines l r i → (k ≡ l → ⊥) → Faulty lines i
  named_twice : 0 < i → i < length lines → {k : ℕ} → ((s : Side) → Names lines k s i) → Faulty lines i

abbrev pub FaultFree : List Line → Type 0
FaultFree lines = (i : ℕ) → Faulty lines i → ⊥

-- Refusal 10's place.
pub record SmallestFaulty (lines : List Line) (i : ℕ) : Type 0 where
  pub faulty : Faulty lines i
  pub none_before : (k : ℕ) → k < i → Faulty lines k → ⊥

-- First 9, then 10; what passes is accepted: `lines_read` of its lines.
pub data Loads (text : List ℕ) : Reading → Type 0 where
  unread : {n p : ℕ} → Reads text (refused n p) → Loads text (refused n p)
  faulty : {lines : List Line} {i : ℕ} → Reads text (lines_read lines) → SmallestFaulty lines i → Loads text (refused 10 i)
  fine : {lines : List Line} → Reads text (lines_read lines) → FaultFree lines → Loads text (lines_read lines)

-- What `load` promises for every text.
pub record Loaded (text : List ℕ) (r : Result Sheet Refusal) : Type 0 where
  pub loads : Loads text (reading_of r)
  pub counted : IfOk r Counted

-- Each text has an answer, and no other.
pub record OneAnswer (text : List ℕ) : Type 0 where
  pub answer : Reading
  pub loads : Loads text answer
  pub unique : {a b : Reading} → Loads text a → Loads text b → a ≡ b
