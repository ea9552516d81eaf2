-- Each pass but the last finds a pair, and there are only so many.
use Rattle.std.proofs.Common.{◌≡◌, ◌-◌, ◌*◌}
use Rattle.meaning.specs.Table.{row_limit}
use Rattle.loops.specs.Closing.{pairs}
use Rattle.loops.proofs.pairs.Pairs.closed.Given as goal

abbrev pub invariant-loop : goal.invariant-loop
invariant-loop l = l.pairs.rows.now ≡ l.fn.rows

abbrev pub decreases-loop : goal.decreases-loop
decreases-loop l = row_limit * row_limit - pairs l.pairs.found
