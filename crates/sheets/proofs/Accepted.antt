-- What a caller has of a reading: how many lines were read, and the sizes of a refusal's numbers.
use Prim.Native.Nat.{ℕ, ◌≤◌}
use native.Mathlib.Omega.{arith}
use mathlib.Core.List.{List}
use mathlib.Core.Path.{◌≡◌, refl}
use lib.ListN.{length}
use Rattle.sheets.specs.Lines.{line_limit}
use Rattle.sheets.specs.Reading.{lines_read, refused, Reads, empty, malformed, too_many, read}
use Rattle.sheets.specs.declared.Line.{Line}

pub some_line : {text : List ℕ} {lines : List Line} → Reads text (lines_read lines) → 1 ≤ length lines
some_line (read lines a l h) = l

pub few_lines : {text : List ℕ} {lines : List Line} → Reads text (lines_read lines) → length lines ≤ line_limit
few_lines (read lines a l h) = h

pub small : {text : List ℕ} {n p : ℕ} → Reads text (refused n p) → (n ≡ 9) × (p ≤ line_limit)
small (empty e) = (refl, omega arith)
small (malformed lines rest a l b m) = (refl, omega arith)
small (too_many lines rest a l b) = (refl, omega arith)
