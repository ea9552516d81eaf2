-- How far a row reaches, by which the rows are ordered. Only the contracts inside this crate speak of it: what a caller is promised is
-- `Ordered`.
use Rattle.std.specs.Prelude.{ℕ, Bool, List, count_by}
use Rattle.std.specs.List.{range_with_len}
use Rattle.loops.specs.Closing.{marked}

-- How many of n rows row i is joined to.
abbrev pub reach : ℕ → List (List Bool) → ℕ → ℕ
reach n m i = count_by (marked m i) (range_with_len 0 n)
