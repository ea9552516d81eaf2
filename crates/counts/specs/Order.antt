-- An order of the rows for one pass through them: every row that an `any` or `all` names comes before it. Each row has a place in the order,
-- and so no two rows have the same.
use Rattle.std.specs.Prelude.{ℕ, ◌<◌, ◌≤◌, List, ◌≡◌, get_or, length}
use Rattle.meaning.specs.Table.{Table, Refers}

pub record Ordered (rows : Table) (order : List ℕ) : Type 0 where
  pub place : ℕ → ℕ
  pub there : (i : ℕ) → i < length rows → place i < length rows
  pub stands : (i : ℕ) → i < length rows → get_or order (place i) 0 ≡ i
  pub before : (i j : ℕ) → Refers rows i j → place j < place i
  pub rows_only : (k : ℕ) → k < length rows → get_or order k 0 < length rows
  pub rest : (k : ℕ) → length rows ≤ k → get_or order k 0 ≡ 0
