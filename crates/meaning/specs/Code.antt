-- 01, section 4: codes.
use Rattle.std.specs.Prelude.{ℕ, ◌*◌, ◌^◌, ◌/◌, ◌%◌, ◌↔◌, ◌≡◌, take}
use Rattle.meaning.specs.Table.{Side, first, next, Dir, down, up, Table, Row, row_at, asked, yes_row, is_row, isnot_row, any_row, all_row, go_row, stop_row, names, looks}

-- There are C = N × 16 × 2^m codes.
unfoldable pub codes : Table → ℕ
codes rows = names rows * 16 * 2 ^ looks rows

-- A code is name × 16 × 2^m + flags × 2^m + bits.
unfoldable pub name_in : Table → ℕ → ℕ
name_in rows c = c / 2 ^ looks rows / 16

-- Flags are the sum of 1, 2, 4, 8 for having direction 1, 2, 3, 4.
abbrev pub worth : Dir → ℕ
worth (down first) = 1
worth (down next) = 2
worth (up first) = 4
worth (up next) = 8

unfoldable pub HasFlag : Table → ℕ → Dir → Type 0
HasFlag rows c d = c / 2 ^ looks rows / worth d % 2 ≡ 1

-- The first `go` row has bit worth 1, the second 2, and so on: the bit of row i stands above those of the `go` rows before it.
unfoldable pub HasBit : Table → ℕ → ℕ → Type 0
HasBit rows c i = c / 2 ^ looks (take i rows) % 2 ≡ 1

-- `HoldsIn rows c i r`: row i, which is r, is true in the code c. It follows references through `any` and `all`; a `go` row is its bit, and
-- `stop` d is true where flag d is absent.
pub data HoldsIn (rows : Table) (c : ℕ) : ℕ → Row → Type 0 where
  in_yes : {i : ℕ} → HoldsIn rows c i yes_row
  in_is : {i n : ℕ} → name_in rows c ≡ n → HoldsIn rows c i (is_row n)
  in_isnot : {i n : ℕ} → (name_in rows c ≡ n → ⊥) → HoldsIn rows c i (isnot_row n)
  in_left : {i j k : ℕ} → HoldsIn rows c j (row_at rows j) → HoldsIn rows c i (any_row j k)
  in_right : {i j k : ℕ} → HoldsIn rows c k (row_at rows k) → HoldsIn rows c i (any_row j k)
  in_both : {i j k : ℕ} → HoldsIn rows c j (row_at rows j) → HoldsIn rows c k (row_at rows k) → HoldsIn rows c i (all_row j k)
  in_go : {i j : ℕ} {d : Dir} → HasBit rows c i → HoldsIn rows c i (go_row d j)
  in_stop : {i : ℕ} {d : Dir} → (HasFlag rows c d → ⊥) → HoldsIn rows c i (stop_row d)

-- Row i is true in the code c.
abbrev pub TrueIn : Table → ℕ → ℕ → Type 0
TrueIn rows c i = HoldsIn rows c i (row_at rows i)

-- A code is proper if it hasn't both flags 4 and 8, and each set bit's direction is flagged.
pub record Proper (rows : Table) (c : ℕ) : Type 0 where
  pub one_parent : HasFlag rows c (up first) → HasFlag rows c (up next) → ⊥
  pub flagged : (i j : ℕ) (d : Dir) → row_at rows i ≡ go_row d j → HasBit rows c i → HasFlag rows c d

-- Code t takes u as its neighbour in direction d (1 or 2) when t has flag d, u has the converse flag, every `go` d row's bit in t equals the
-- truth in u of the row it names, and every converse `go` row's bit in u equals the truth in t of the row it names.
pub record Takes (rows : Table) (s : Side) (t u : ℕ) : Type 0 where
  pub flag_down : HasFlag rows t (down s)
  pub flag_up : HasFlag rows u (up s)
  pub forth : (i j : ℕ) → row_at rows i ≡ go_row (down s) j → HasBit rows t i ↔ TrueIn rows u j
  pub back : (i j : ℕ) → row_at rows i ≡ go_row (up s) j → HasBit rows u i ↔ TrueIn rows t j

-- Section 5. A good code has neither flag 4 nor 8 and makes the asked row true.
pub record Good (rows : Table) (c : ℕ) : Type 0 where
  pub no_parent : (s : Side) → HasFlag rows c (up s) → ⊥
  pub true_here : TrueIn rows c (asked rows)
