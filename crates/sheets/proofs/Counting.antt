-- The count of the fields that name a line, one line more at a time.
use Prim.Native.Nat.{ℕ, ◌+◌, ◌<◌, ◌≤◌}
use native.Mathlib.Numerals.{add-one}
use mathlib.Core.List.{List}
use mathlib.Core.Path.{◌≡◌}
use lib.ListN.{length, drop, drop_of_length-le}
use lib.Seq.{drop-cons}
use Rattle.sheets.specs.Lines.{blank, line_at}
use Rattle.sheets.specs.Counting.{names_in, times_named}
use Rattle.sheets.specs.declared.Line.{Line}

-- a count that has passed k lines
module _ (lines : List Line) (j k : ℕ) where
  pub times_next : k < length lines → times_named j (drop k lines) ≡ names_in j (line_at lines k) + times_named j (drop (k + 1) lines)
  unfolding times_named
  times_next h = rw (add-one, drop-cons lines k blank h)

  pub times_end : length lines ≤ k → times_named j (drop k lines) ≡ 0
  unfolding times_named
  times_end h = rw (drop_of_length-le lines h)
