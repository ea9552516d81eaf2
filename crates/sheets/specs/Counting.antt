-- Refusal 10 by counting: the tests and the count that the code makes.
use Rattle.std.specs.Prelude.{ℕ, ◌+◌, Bool, false, not, cond, ◌&&◌, ◌||◌, List, [], ◌∷◌, eqb, leb, ltb, length, Some, None}
use Rattle.sheets.specs.Lines.{Link, line_at}
use Rattle.sheets.specs.declared.Line.{Line}

-- A field of line i, of n lines, names a line not greater than i or not there.
abbrev pub wrong : ℕ → ℕ → Link → Bool
wrong i n None = false
wrong i n (Some j) = leb j i || leb n j

abbrev pub wrong_in : ℕ → ℕ → Line → Bool
wrong_in i n l = wrong i n l.first || wrong i n l.next

-- How often a field names line j, and a line with its two fields, and all lines.
abbrev pub names_by : ℕ → Link → ℕ
names_by j None = 0
names_by j (Some k) = cond (eqb k j) 1 0

abbrev pub names_in : ℕ → Line → ℕ
names_in j l = names_by j l.first + names_by j l.next

unfoldable pub times_named : ℕ → List Line → ℕ
times_named j [] = 0
times_named j (l ∷ lines) = names_in j l + times_named j lines

-- The tests of line i in the order of the code: beyond the last line none is faulty, and line 0 needn't be named.
abbrev pub misnamed_at : List Line → ℕ → Bool
misnamed_at lines i = ltb 0 i && not (eqb (times_named i lines) 1)

abbrev pub faulty_at : List Line → ℕ → Bool
faulty_at lines i = cond (ltb i (length lines)) (wrong_in i (length lines) (line_at lines i) || misnamed_at lines i) false
