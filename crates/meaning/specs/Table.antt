-- 01, sections 2 to 4: directions, rows and tables; the references, the names N and the look rows m of a table.
use Rattle.std.specs.Prelude.{ℕ, suc, ◌+◌, ◌*◌, ◌^◌, ◌<◌, max, List, [], ◌∷◌, ◌≡◌, get_or, length}
use Rattle.std.proofs.Math.Decide.{dec_lt}
use Rattle.std.proofs.Math.Logic.{ite}

-- Section 2. Direction 1 goes to the first child, direction 2 to the next sibling: the two sides of a node.
pub data Side : Type 0 where
  first : Side
  next : Side

-- Direction 3 is the converse of 1, direction 4 the converse of 2.
pub data Dir : Type 0 where
  down : Side → Dir
  up : Side → Dir

abbrev pub converse : Dir → Dir
converse (down s) = up s
converse (up s) = down s

-- Section 3. The eight kinds of line.
pub data Row : Type 0 where
  yes_row : Row
  no_row : Row
  is_row : (n : ℕ) → Row
  isnot_row : (n : ℕ) → Row
  any_row : (i j : ℕ) → Row
  all_row : (i j : ℕ) → Row
  go_row : (d : Dir) (i : ℕ) → Row
  stop_row : (d : Dir) → Row

-- Rows are numbered from 0 by their place.
abbrev pub Table : Type 0
Table = List Row

-- Row i; beyond the last row it is `no`, which says nothing of any node.
abbrev pub row_at : Table → ℕ → Row
row_at rows i = get_or rows i no_row

-- Row 0 is the question.
abbrev pub asked : Table → ℕ
asked rows = 0

-- `Refers rows i j`: row i is `any` or `all`, and row j is one of the two that it names.
pub data Refers (rows : Table) : ℕ → ℕ → Type 0 where
  any_left : {i j k : ℕ} → row_at rows i ≡ any_row j k → Refers rows i j
  any_right : {i j k : ℕ} → row_at rows i ≡ any_row j k → Refers rows i k
  all_left : {i j k : ℕ} → row_at rows i ≡ all_row j k → Refers rows i j
  all_right : {i j k : ℕ} → row_at rows i ≡ all_row j k → Refers rows i k

-- Section 6, refusal 5: every reference is to a row that is there.
pub record InRange (rows : Table) : Type 0 where
  pub referred : {i j : ℕ} → Refers rows i j → j < length rows
  pub looked : (i : ℕ) {j : ℕ} {d : Dir} → row_at rows i ≡ go_row d j → j < length rows

-- Section 4. N is one more than the largest name mentioned, and 1 if there is none.
abbrev pub mentioned : Row → ℕ
mentioned yes_row = 1
mentioned no_row = 1
mentioned (is_row n) = suc n
mentioned (isnot_row n) = suc n
mentioned (any_row i j) = 1
mentioned (all_row i j) = 1
mentioned (go_row d i) = 1
mentioned (stop_row d) = 1

unfoldable pub names : Table → ℕ
names [] = 1
names (r ∷ rows) = max (mentioned r) (names rows)

-- Section 2. A real name of N or above counts as 0 before it is compared.
unfoldable pub counted : Table → ℕ → ℕ
counted rows n = ite (dec_lt n (names rows)) n 0

-- Section 4. m is the number of `go` rows, the look rows.
abbrev pub look : Row → ℕ
look yes_row = 0
look no_row = 0
look (is_row n) = 0
look (isnot_row n) = 0
look (any_row i j) = 0
look (all_row i j) = 0
look (go_row d i) = 1
look (stop_row d) = 0

unfoldable pub looks : Table → ℕ
looks [] = 0
looks (r ∷ rows) = look r + looks rows

-- Section 6. The limits: 48 rows, and 4,096 for N × 2^m.
abbrev pub row_limit : ℕ
row_limit = 48

abbrev pub size_limit : ℕ
size_limit = 4096

-- N × 2^m, which refusal 7 bounds and demand 3 multiplies by 12.
abbrev pub size : Table → ℕ
size rows = names rows * 2 ^ looks rows
