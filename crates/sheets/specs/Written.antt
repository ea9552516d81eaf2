-- 02, C-11: how a sheet is written. One node a line: name, first child, next sibling, with `-` for none; fields parted by one tab, each line
-- closed by a line feed. A line has no limit of bytes of its own.
use Rattle.std.specs.Prelude.{ℕ, ◌+◌, ◌/◌, ◌%◌, cond, List, [], ◌∷◌, ◌++◌, ltb, Some, None}
use Rattle.table.specs.Written.{tab, line_feed, decimal}
use Rattle.sheets.specs.Lines.{Link}
use Rattle.sheets.specs.declared.Line.{Line}

-- A line number is decimal, of one to three digits, with no leading zero.
unfoldable pub numeral : ℕ → List ℕ
numeral n = cond (ltb n 100) (decimal n) ((48 + n / 100) ∷ ((48 + n / 10 % 10) ∷ ((48 + n % 10) ∷ [])))

abbrev pub written_link : Link → List ℕ
written_link None = 45 ∷ []
written_link (Some k) = numeral k

-- A line, with its line feed.
unfoldable pub written : Line → List ℕ
written l = decimal l.name ++ (tab ∷ (written_link l.first ++ (tab ∷ (written_link l.next ++ (line_feed ∷ [])))))

unfoldable pub written_lines : List Line → List ℕ
written_lines [] = []
written_lines (l ∷ ls) = written l ++ written_lines ls
