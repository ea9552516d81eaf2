-- 02, C-11, refusal 9: what reading a sheet gives. As with tables it is said by how lines are written: the text is some lines of right form,
-- one after another as they are written, and then a rest.
use Rattle.std.specs.Prelude.{ℕ, ◌<◌, ◌≤◌, List, [], ◌∷◌, ◌++◌, ◌≡◌, length, Result, Ok, Err, IfOk}
use Rattle.reader.specs.Reading.{Begins}
use Rattle.sheets.specs.Lines.{line_limit, Right, lines_of}
use Rattle.sheets.specs.Written.{written, written_lines}
use Rattle.sheets.specs.declared.Line.{Line}
use Rattle.sheets.specs.declared.Sheet.{Sheet}
use Rattle.table.specs.Refusals.{number_of, place_of}
use Rattle.table.specs.declared.refusal.Refusal.{Refusal}

-- The lines that were read, or a refusal's number and place.
pub data Reading : Type 0 where
  lines_read : (lines : List Line) → Reading
  refused : (number place : ℕ) → Reading

-- Every line of the list is of right form.
pub data AllRight : List Line → Type 0 where
  none : AllRight []
  more : {l : Line} {lines : List Line} → Right l → AllRight lines → AllRight (l ∷ lines)

-- The text is these lines and then the rest.
pub record After (text : List ℕ) (lines : List Line) (rest : List ℕ) : Type 0 where
  pub right : AllRight lines
  pub split : text ≡ written_lines lines ++ rest

-- No line of right form stands at the front.
pub record Malformed (rest : List ℕ) : Type 0 where
  pub no_line : (l : Line) (end : List ℕ) → Right l → rest ≡ written l ++ end → ⊥

-- 9 at the first line of wrong form, at 0 for no lines, at 255 where a 256th line begins; at the smaller line where both occur.
pub data Reads (text : List ℕ) : Reading → Type 0 where
  empty : text ≡ [] → Reads text (refused 9 0)
  malformed : (lines : List Line) (rest : List ℕ) → After text lines rest → length lines < line_limit → Begins rest → Malformed rest → Reads text (refused 9 (length lines))
  too_many : (lines : List Line) (rest : List ℕ) → After text lines rest → length lines ≡ line_limit → Begins rest → Reads text (refused 9 line_limit)
  read : (lines : List Line) → After text lines [] → 1 ≤ length lines → length lines ≤ line_limit → Reads text (lines_read lines)

-- 02's numbers for what the code returns.
abbrev pub reading_of : Result Sheet Refusal → Reading
reading_of (Ok s) = lines_read (lines_of s)
reading_of (Err r) = refused (number_of r) (place_of r)

-- As many lines as are counted, and no more than there may be.
abbrev pub Counted : Sheet → Type 0
Counted s = (s.lines.len ≡ length (lines_of s)) × (s.lines.len ≤ line_limit)

-- All that reading gives back.
pub record Answers (text : List ℕ) (r : Result Sheet Refusal) : Type 0 where
  pub reads : Reads text (reading_of r)
  pub counted : IfOk r Counted

-- Every text has a reading, and no other.
pub record OneReading (text : List ℕ) : Type 0 where
  pub reading : Reading
  pub reads : Reads text reading
  pub unique : {a b : Reading} → Reads text a → Reads text b → a ≡ b
