-- What is printed of a code and of a refusal.
use Rattle.std.specs.Prelude.{ℕ, List, ◌∷◌, ◌++◌, ◌==◌, cond, codes}
use Rattle.std.specs.Fmt.{decimal}
use Rattle.meaning.specs.Outcome.{absent}

-- a number after a tab
abbrev pub field : ℕ → List ℕ
field n = 9 ∷ decimal n

-- the code of a neighbour, or `-` where there is none
abbrev pub neighbour_text : ℕ → List ℕ
neighbour_text code = cond (code == absent) (codes "-") (decimal code)

-- a code, its name, its first child and its next sibling
abbrev pub line_text : ℕ → ℕ → ℕ → ℕ → List ℕ
line_text code name first next = decimal code ++ field name ++ (9 ∷ neighbour_text first) ++ (9 ∷ neighbour_text next)

-- the number of a refusal and its place
abbrev pub refusal_text : ℕ → ℕ → List ℕ
refusal_text number place = decimal number ++ field place
