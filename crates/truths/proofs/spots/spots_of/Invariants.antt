-- The lines passed are placed.
use Rattle.std.proofs.Common.{◌*◌}
use Rattle.table.specs.Rows.{table_in}
use Rattle.truths.proofs.Placing.{Placing}
use Rattle.truths.proofs.spots.spots_of.Given as goal

abbrev pub invariant-loop-p : goal.invariant-loop-p
invariant-loop-p l = Placing (table_in l.rows) l.lines l.p (l.p * 2) l.spots
