-- Where a `go` row names the cell's row, the neighbour in the other direction has the cell's line for its neighbour.
use Rattle.std.proofs.Common.{arith}
use Rattle.table.specs.Rows.{dir_of}
use Rattle.truths.specs.Spots.{alone}
use Rattle.truths.proofs.Turns.{rests_back}
use Rattle.truths.proofs.asked.Asked.rests_at.Goals as goal

pub returns-in_ok-get-in-Go : goal.returns-in_ok-get-in-Go
returns-in_ok-get-in-Go c =
    let s = c.args.self.now in
    let line = c.from-in-Go.ensures in
    let spot = rw line at (c.in_ok-get-in-Go.ensures.lookup.4 (omega arith) alone) in
    rw (c.in-Go.is, c.if-i-cell.true, c.near.ensures, c.converse.ensures, c.of.ensures, spot) (rests_back s.spots.now s.laid (dir_of c.in-Go.d) c.args.cell)
