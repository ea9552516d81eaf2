use Rattle.truths.proofs.Putting.{blank_grid, nothing_found}
use Rattle.truths.proofs.found.Found.new.Goals as goal

pub invariant_of-result : goal.invariant_of-result
invariant_of-result c = rw c.new.ensures.0 (record { grid = blank_grid; queued = nothing_found _ })
