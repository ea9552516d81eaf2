-- What is found, and in which order. Only contracts inside this crate cite it: what the search comes to is in Decided.
use Rattle.std.specs.Prelude.{ℕ, ◌*◌, ◌<◌, ◌≤◌, Bool, true, List, [], ◌⊎◌, ◌≡◌, count_by, sum_by, slice_set, get_or, length}
use Rattle.meaning.specs.Table.{row_limit}
use Rattle.sheets.specs.Lines.{line_limit}
use Rattle.truths.specs.Cells.{found}
use Rattle.truths.specs.declared.cell.Cell.{Cell}

-- Row i is found true at line p.
abbrev pub FoundAt : List (List Bool) → ℕ → ℕ → Type 0
FoundAt truth p i = found truth p i ≡ true

-- Whether a row is true at a line is written down for each of 48 rows at each of 255 lines.
pub record Grid (truth : List (List Bool)) : Type 0 where
  pub high : length truth ≡ line_limit
  pub wide : (p : ℕ) → p < line_limit → length (get_or truth p []) ≡ row_limit

-- What is found, and row i at line p.
abbrev pub with_found : List (List Bool) → ℕ → ℕ → List (List Bool)
with_found truth p i = slice_set truth p (slice_set (get_or truth p []) i true)

-- How many cells are found.
unfoldable pub many_found : List (List Bool) → ℕ
many_found truth = sum_by (λ rows. count_by (λ found. found) rows) truth

abbrev pub no_cell : Cell
no_cell = record { line = 0; row = 0 }

-- Row i at line p is one of the first cells of the queue.
abbrev pub Taken : List Cell → ℕ → ℕ → ℕ → Type 0
Taken queue head p i = ∥ ((k : ℕ) × (k < head) × (get_or queue k no_cell ≡ record { line = p; row = i })) ∥₁

-- The queue has each cell found once.
pub record Queued (truth : List (List Bool)) (queue : List Cell) (tail : ℕ) : Type 0 where
  pub counted : many_found truth ≡ tail
  pub few : tail ≤ line_limit * row_limit
  pub entered : (k : ℕ) → k < tail → FoundAt truth (get_or queue k no_cell).line (get_or queue k no_cell).row
  pub queued : (p i : ℕ) → FoundAt truth p i → Taken queue tail p i

-- What was found stays found, and in its place of the queue.
pub record Grown (truth : List (List Bool)) (queue : List Cell) (tail : ℕ) (truth' : List (List Bool)) (queue' : List Cell) (tail' : ℕ) : Type 0 where
  pub longer : tail ≤ tail'
  pub kept : (k : ℕ) → k < tail → get_or queue' k no_cell ≡ get_or queue k no_cell
  pub still : (p i : ℕ) → FoundAt truth p i → FoundAt truth' p i

-- The cell c is found too, if it is one, and no other.
pub record Entered (c : Cell) (truth : List (List Bool)) (queue : List Cell) (tail : ℕ) (truth' : List (List Bool)) (queue' : List Cell) (tail' : ℕ) : Type 0 where
  pub here : c.line < line_limit → c.row < row_limit → FoundAt truth' c.line c.row
  pub grown : Grown truth queue tail truth' queue' tail'
  pub only : (p i : ℕ) → FoundAt truth' p i → FoundAt truth p i ⊎ ((p ≡ c.line) × (i ≡ c.row))
