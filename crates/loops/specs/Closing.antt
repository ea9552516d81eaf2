-- The closure of the pairs of rows that a cancelling walk joins. The pairs found are a list for each row, with `true` for each row that it is
-- joined to. Only the contracts inside this crate speak of it: what a caller is promised is in Judged.
use Rattle.std.specs.Prelude.{ℕ, ◌<◌, Bool, true, false, ◌&&◌, ◌||◌, List, [], Option, ◌≡◌, eqb, find, count_by, sum_by, slice_set, get_or, length}
use Rattle.std.specs.List.{list_any, range_with_len}
use Rattle.meaning.specs.Table.{first, next, Dir, down, up, converse, Table, Row, row_at, yes_row, no_row, is_row, isnot_row, any_row, all_row, go_row, stop_row}
use Rattle.meaning.specs.Loop.{Joined}

-- A row is `any` or `all` and names row j.
abbrev pub refers_to : ℕ → Row → Bool
refers_to j yes_row = false
refers_to j no_row = false
refers_to j (is_row n) = false
refers_to j (isnot_row n) = false
refers_to j (any_row i k) = eqb i j || eqb k j
refers_to j (all_row i k) = eqb i j || eqb k j
refers_to j (go_row d i) = false
refers_to j (stop_row d) = false

-- 01's number of a direction; two directions are opposite when one is the converse of the other.
abbrev pub number : Dir → ℕ
number (down first) = 1
number (down next) = 2
number (up first) = 3
number (up next) = 4

abbrev pub opposite : Dir → Dir → Bool
opposite d e = eqb (number (converse d)) (number e)

-- A row goes in the converse of d to row j.
abbrev pub back_to : Dir → ℕ → Row → Bool
back_to d j yes_row = false
back_to d j no_row = false
back_to d j (is_row n) = false
back_to d j (isnot_row n) = false
back_to d j (any_row i k) = false
back_to d j (all_row i k) = false
back_to d j (go_row e k) = opposite d e && eqb k j
back_to d j (stop_row e) = false

-- The pair of i and j is among those found.
abbrev pub marked : List (List Bool) → ℕ → ℕ → Bool
marked m i j = get_or (get_or m i []) j false

-- The pairs found, and that of i and j.
abbrev pub with_pair : List (List Bool) → ℕ → ℕ → List (List Bool)
with_pair m i j = slice_set m i (slice_set (get_or m i []) j true)

-- Row l, which is r, is k or paired with it, and goes back to j.
abbrev pub turns : List (List Bool) → Dir → ℕ → ℕ → ℕ → Row → Bool
turns m d k j l r = (eqb k l || marked m k l) && back_to d j r

abbrev pub turns_at : Table → List (List Bool) → Dir → ℕ → ℕ → ℕ → Bool
turns_at rows m d k j l = turns m d k j l (row_at rows l)

-- A row goes to some k from which one comes back to j.
abbrev pub wraps : Table → List (List Bool) → Row → ℕ → Bool
wraps rows m yes_row j = false
wraps rows m no_row j = false
wraps rows m (is_row n) j = false
wraps rows m (isnot_row n) j = false
wraps rows m (any_row i k) j = false
wraps rows m (all_row i k) j = false
wraps rows m (go_row d k) j = list_any (turns_at rows m d k j) (range_with_len 0 (length rows))
wraps rows m (stop_row e) j = false

-- Two pairs found meet.
abbrev pub meets_at : List (List Bool) → ℕ → ℕ → ℕ → Bool
meets_at m i j k = marked m i k && marked m k j

abbrev pub meets : ℕ → List (List Bool) → ℕ → ℕ → Bool
meets n m i j = list_any (meets_at m i j) (range_with_len 0 n)

-- One of the rules gives the pair of i and j.
unfoldable pub given : Table → List (List Bool) → ℕ → ℕ → Bool
given rows m i j = refers_to j (row_at rows i) || (wraps rows m (row_at rows i) j || meets (length rows) m i j)

-- How many pairs are found.
unfoldable pub pairs : List (List Bool) → ℕ
pairs m = sum_by (λ l. count_by (λ b. b) l) m

-- Whether each of w rows is joined to each of w rows is written down.
pub record Square (w : ℕ) (m : List (List Bool)) : Type 0 where
  pub high : length m ≡ w
  pub wide : (i : ℕ) → i < w → length (get_or m i []) ≡ w

-- Nothing but joined pairs is found.
pub record Sound (rows : Table) (m : List (List Bool)) : Type 0 where
  pub sound : (i j : ℕ) → marked m i j ≡ true → ∥ Joined rows i j ∥₁

-- No rule gives the pair of i and j, or it is found.
pub record Settled (rows : Table) (i j : ℕ) (m : List (List Bool)) : Type 0 where
  pub settled : given rows m i j ≡ true → marked m i j ≡ true

abbrev pub RowSettled : Table → ℕ → ℕ → List (List Bool) → Type 0
RowSettled rows i upto m = (j : ℕ) → j < upto → Settled rows i j m

abbrev pub RowsDone : Table → ℕ → List (List Bool) → Type 0
RowsDone rows upto m = (i : ℕ) → i < upto → RowSettled rows i (length rows) m

-- The rows below i are settled, and the pairs of row i with the rows below j.
pub record Before (rows : Table) (i j : ℕ) (m : List (List Bool)) : Type 0 where
  pub rows_done : RowsDone rows i m
  pub row_settled : RowSettled rows i j m

-- No rule gives another pair.
pub record AllDone (rows : Table) (m : List (List Bool)) : Type 0 where
  pub all : RowsDone rows (length rows) m

-- A part of a pass found new pairs; or it left all as it was, and what it went through is settled.
pub record Passed (Through : List (List Bool) → Type 0) (before after : List (List Bool)) (more : Bool) : Type 0 where
  pub grown : more ≡ true → pairs before < pairs after
  pub still : more ≡ false → after ≡ before
  pub through : more ≡ false → Through after

-- The first row that is paired with itself.
abbrev pub first_marked : ℕ → List (List Bool) → Option ℕ
first_marked n m = find (λ i. marked m i i) (range_with_len 0 n)
