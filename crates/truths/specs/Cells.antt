-- The truths found: for each line a list with the truth of each row.
use Rattle.std.specs.Prelude.{ℕ, Bool, false, List, [], get_or}

abbrev pub found : List (List Bool) → ℕ → ℕ → Bool
found truth p i = get_or (get_or truth p []) i false
