-- 02, C-11: what is written of a judged sheet. One line a node: its number and 1 or 0.
use Rattle.std.specs.Prelude.{ℕ, suc, ◌+◌, List, [], ◌∷◌, ◌++◌}
use Rattle.table.specs.Written.{tab, line_feed}
use Rattle.sheets.specs.Written.{numeral}

abbrev pub verdict_line : ℕ → ℕ → List ℕ
verdict_line i digit = numeral i ++ (tab ∷ ((48 + digit) ∷ (line_feed ∷ [])))

-- The lines of these digits, the first of them line i's.
unfoldable pub verdict_lines : ℕ → List ℕ → List ℕ
verdict_lines i [] = []
verdict_lines i (b ∷ bs) = verdict_line i b ++ verdict_lines (suc i) bs
