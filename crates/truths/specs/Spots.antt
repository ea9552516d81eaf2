-- What the search for truths sees of a sheet: a spot for each line, with its counted name and its neighbour in each direction. Only contracts
-- inside this crate cite it: what a caller is promised is in Decided.
use Rattle.std.specs.Prelude.{ℕ, ◌<◌, ◌≤◌, List, ◌≡◌, Option, Some, None, get_or, length}
use Rattle.meaning.specs.Table.{first, next, Dir, down, up, converse, Table, Row, row_at, yes_row, is_row, isnot_row, any_row, all_row, go_row, stop_row, counted}
use Rattle.sheets.specs.Lines.{line_limit, line_at}
use Rattle.sheets.specs.Tree.{Near}
use Rattle.sheets.specs.declared.Line.{Line}
use Rattle.truths.specs.declared.spots.Spot.{Spot}

-- A line that has no neighbour, as there are none beyond the last.
abbrev pub alone : Spot
alone = record { name = 0; first = None; next = None; first_of = None; next_of = None }

abbrev pub spot_at : List Spot → ℕ → Spot
spot_at spots p = get_or spots p alone

abbrev pub near : Spot → Dir → Option ℕ
near s (down first) = s.first
near s (down next) = s.next
near s (up first) = s.first_of
near s (up next) = s.next_of

abbrev pub near_at : List Spot → Dir → ℕ → Option ℕ
near_at spots d p = near (spot_at spots p) d

-- The neighbour of line p in a direction, if it has one.
pub data NearIs (lines : List Line) (d : Dir) (p : ℕ) : Option ℕ → Type 0 where
  there : {q : ℕ} → Near lines d p q → NearIs lines d p (Some q)
  nowhere : ((q : ℕ) → Near lines d p q → ⊥) → NearIs lines d p None

pub record Spots (rows : Table) (lines : List Line) (spots : List Spot) : Type 0 where
  pub long : length spots ≡ length lines
  pub names : (p : ℕ) → p < length lines → (spot_at spots p).name ≡ counted rows (line_at lines p).name
  pub nears : (d : Dir) (p : ℕ) → NearIs lines d p (near_at spots d p)

-- What makes them fit for the search: neighbours are lines, and each is its neighbour's neighbour.
pub record Laid (spots : List Spot) : Type 0 where
  pub few : length spots ≤ line_limit
  pub inside : (d : Dir) (p q : ℕ) → near_at spots d p ≡ Some q → q < length spots
  pub back : (d : Dir) (p q : ℕ) → near_at spots d p ≡ Some q → near_at spots (converse d) q ≡ Some p

-- `HoldsAt rows spots r p`: the row r is true at line p. It is `Holds` of `meaning`, with lines for places.
pub data HoldsAt (rows : Table) (spots : List Spot) : Row → ℕ → Type 0 where
  at_yes : {p : ℕ} → HoldsAt rows spots yes_row p
  at_is : {p n : ℕ} → (spot_at spots p).name ≡ n → HoldsAt rows spots (is_row n) p
  at_isnot : {p n : ℕ} → ((spot_at spots p).name ≡ n → ⊥) → HoldsAt rows spots (isnot_row n) p
  at_left : {p i j : ℕ} → HoldsAt rows spots (row_at rows i) p → HoldsAt rows spots (any_row i j) p
  at_right : {p i j : ℕ} → HoldsAt rows spots (row_at rows j) p → HoldsAt rows spots (any_row i j) p
  at_both : {p i j : ℕ} → HoldsAt rows spots (row_at rows i) p → HoldsAt rows spots (row_at rows j) p → HoldsAt rows spots (all_row i j) p
  at_go : {p q i : ℕ} {d : Dir} → near_at spots d p ≡ Some q → HoldsAt rows spots (row_at rows i) q → HoldsAt rows spots (go_row d i) p
  at_stop : {p : ℕ} {d : Dir} → near_at spots d p ≡ None → HoldsAt rows spots (stop_row d) p
