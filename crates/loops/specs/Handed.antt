-- What `check` hands over: what is judged of a table, and an order of its rows where each row is there and none is on a loop.
use Rattle.std.specs.Prelude.{ℕ, List, Result, Ok, Err}
use Rattle.meaning.specs.Table.{Table}
use Rattle.counts.specs.Order.{Ordered}
use Rattle.loops.specs.Judged.{Checked, Fine, Missing, Looping, Large, Judged}
use Rattle.loops.specs.declared.Fault.{Fault}
use Rattle.loops.specs.declared.Fault.TheVariants as F

-- What the answer says of the table.
abbrev pub checked : Result (List ℕ) Fault → Checked
checked (Ok order) = Fine
checked (Err (F.Missing i)) = Missing i
checked (Err (F.Looping i)) = Looping i
checked (Err (F.Large order)) = Large

-- The order that comes with it.
abbrev pub OrderFor : Table → Result (List ℕ) Fault → Type 0
OrderFor rows (Ok order) = Ordered rows order
OrderFor rows (Err (F.Missing i)) = Unit {0}
OrderFor rows (Err (F.Looping i)) = Unit {0}
OrderFor rows (Err (F.Large order)) = Ordered rows order

pub record Handed (rows : Table) (r : Result (List ℕ) Fault) : Type 0 where
  pub judged : Judged rows (checked r)
  pub ordered : OrderFor rows r
