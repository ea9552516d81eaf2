-- 01, section 8: the small proved table, the eleven cases marked P.
use Rattle.std.specs.Prelude.{ℕ, List, [], ◌∷◌, ◌≡◌, get_or}
use Rattle.meaning.specs.Table.{Side, first, next, down, up, Table, yes_row, no_row, is_row, any_row, all_row, go_row}
use Rattle.meaning.specs.Outcome.{Accepted, Slices, recorded, Verdict, sat, unsat, Outcome}

-- A table, its verdict with the numbers, and the children that 01 gives: the side, the code and its neighbour there.
pub record Case : Type 0 where
  pub rows : Table
  pub verdict : Verdict
  pub children : List (Side × ℕ × ℕ)

abbrev pub case : Table → Verdict → List (Side × ℕ × ℕ) → Case
case t v l = record { rows = t; verdict = v; children = l }

abbrev pub cases : List Case
cases =
    case (yes_row ∷ []) (sat 1 0) []
    ∷ case (no_row ∷ []) (unsat 2) []
    ∷ case (is_row 1 ∷ []) (sat 1 16) []
    ∷ case (all_row 1 2 ∷ is_row 1 ∷ is_row 2 ∷ []) (unsat 2) []
    ∷ case (go_row (down first) 1 ∷ is_row 1 ∷ []) (sat 2 3) ((first, 3, 40) ∷ (next, 3, 65535) ∷ [])
    ∷ case (go_row (up first) 1 ∷ yes_row ∷ []) (unsat 2) []
    ∷ case (any_row 1 2 ∷ is_row 1 ∷ go_row (down first) 0 ∷ []) (sat 1 32) []
    ∷ case (go_row (down first) 0 ∷ []) (unsat 2) []
    ∷ case (go_row (down first) 1 ∷ all_row 2 3 ∷ is_row 1 ∷ go_row (up first) 4 ∷ is_row 2 ∷ []) (sat 2 133) ((first, 133, 82) ∷ [])
    ∷ case (all_row 1 2 ∷ go_row (down first) 3 ∷ go_row (down next) 3 ∷ yes_row ∷ []) (sat 2 15) ((first, 15, 16) ∷ (next, 15, 32) ∷ [])
    ∷ case (go_row (down first) 1 ∷ go_row (up next) 0 ∷ []) (unsat 2) []
    ∷ []

-- The children that a case gives stand in the slices.
abbrev pub Recorded : Slices → List (Side × ℕ × ℕ) → Type 0
Recorded x [] = Unit {0}
Recorded x (l ∷ ls) = (get_or (recorded x l.0) l.1 0 ≡ l.2) × Recorded x ls

-- A case is right: its table is accepted, and every outcome of it has this verdict with these numbers and children. (There is an outcome, by
-- theorem 7; with UNSAT each counted round entered a code, which is part of `Unsat`.)
pub record Right (c : Case) : Type 0 where
  pub accepted : Accepted c.rows
  pub settled : {v : Verdict} {x : Slices} → Outcome c.rows v x → (v ≡ c.verdict) × Recorded x c.children

abbrev pub AllRight : List Case → Type 0
AllRight [] = Unit {0}
AllRight (c ∷ cs) = Right c × AllRight cs
