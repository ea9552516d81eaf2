-- A row that names another is one of the table's, so the place of refusal 5 and 6 is below the number of rows.
use Prim.Native.Nat.{ℕ, ◌<◌}
use native.Mathlib.Omega.{arith}
use mathlib.Core.List.{List}
use mathlib.Core.Path.{◌≡◌}
use lib.ListN.{length}
use Rattle.meaning.specs.Table.{Dir, Table, row_at, go_row}
use Rattle.meaning.specs.Loop.{Step, referring, looking, Walk, one, more, OnLoop, starts, comes_by}
use Rattle.counts.proofs.Laws.{row_there}
use Rattle.counts.proofs.Rank.{refers_there}
use Rattle.loops.specs.Judged as J

looks_inside : (rows : Table) (i : ℕ) {j : ℕ} {d : Dir} → row_at rows i ≡ go_row d j → i < length rows
looks_inside rows i e = row_there rows i (λ f. let w : ◌≡◌ {A = ℕ} 0 1 = cc in omega arith)

module _ {rows : Table} where
  pub names_inside : {i j : ℕ} → J.Names rows i j → i < length rows
  names_inside {i} (J.referring r) = refers_there i r
  names_inside {i} (J.looking e) = looks_inside rows i e

  step_inside : {i j : ℕ} {w : List Dir} → Step rows i w j → i < length rows
  step_inside {i} (referring r) = refers_there i r
  step_inside {i} (looking e) = looks_inside rows i e

  walk_inside : {i j : ℕ} {w : List Dir} → Walk rows i w j → i < length rows
  walk_inside (one s) = step_inside s
  walk_inside (more s h) = step_inside s

  pub loop_inside : {i : ℕ} → OnLoop rows i → i < length rows
  loop_inside (starts l) = walk_inside l.walk
  loop_inside (comes_by a b c) = walk_inside b
