-- What a single look row asks of a code and of its neighbour: 01's `proper` and `takes`, row by row.
use Rattle.std.specs.Prelude.{ℕ, ◌↔◌, ◌≡◌}
use Rattle.meaning.specs.Code.{HasFlag, HasBit, TrueIn}
use Rattle.meaning.specs.Table.{Side, Dir, down, up, Table, row_at, go_row}

-- Row i lets code t take u at the side s: its bit in the code that it looks from is the truth in the other of the row it names.
pub record FitsRow (rows : Table) (s : Side) (t u i : ℕ) : Type 0 where
  pub forth : (j : ℕ) → row_at rows i ≡ go_row (down s) j → HasBit rows t i ↔ TrueIn rows u j
  pub back : (j : ℕ) → row_at rows i ≡ go_row (up s) j → HasBit rows u i ↔ TrueIn rows t j

-- Row i lets a code be proper: its bit is clear or its direction flagged.
abbrev pub Flagged : Table → ℕ → ℕ → Type 0
Flagged rows code i = (j : ℕ) (d : Dir) → row_at rows i ≡ go_row d j → HasBit rows code i → HasFlag rows code d
