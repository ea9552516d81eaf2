-- 02, C-11: the lines of a sheet, numbered from 0 by their place.
use Rattle.std.specs.Prelude.{ℕ, ◌+◌, ◌<◌, ◌≤◌, List, [], ◌∷◌, ◌++◌, ◌≡◌, get_or, take, Option, Some, None}
use Rattle.meaning.specs.Table.{Side, first, next}
use Rattle.sheets.specs.declared.Line.{Line}
use Rattle.sheets.specs.declared.Sheet.{Sheet}

-- Up to 255 lines.
abbrev pub line_limit : ℕ
line_limit = 255

-- What a field names: a line, or none.
abbrev pub Link : Type 0
Link = Option ℕ

-- The first child or the next sibling, by the side.
abbrev pub link : Side → Line → Link
link first l = l.first
link next l = l.next

-- Line i; beyond the last line there is one that names nothing.
abbrev pub blank : Line
blank = record { name = 0; first = None; next = None }

abbrev pub line_at : List Line → ℕ → Line
line_at lines i = get_or lines i blank

-- The form of a line: names are 0 to 15, and a line number has at most three digits.
abbrev pub Linkable : Link → Type 0
Linkable None = Unit {0}
Linkable (Some k) = k < 1000

pub record Right (l : Line) : Type 0 where
  pub name_there : l.name ≤ 15
  pub short : (s : Side) → Linkable (link s l)

-- The lines of a sheet: what it holds beyond their count is none.
abbrev pub lines_of : Sheet → List Line
lines_of s = take s.lines.len s.lines.items

-- The sheet with one line more, or as it is where it is full.
pub record Extended (s : Sheet) (line : Line) (r : Sheet) : Type 0 where
  pub more : s.lines.len < line_limit → (lines_of r ≡ lines_of s ++ (line ∷ [])) × (r.lines.len ≡ s.lines.len + 1)
  pub full : line_limit ≤ s.lines.len → r ≡ s
