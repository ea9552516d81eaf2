use Rattle.std.proofs.Common.{rules}
use Rattle.solver.proofs.Answering.{looks_found}
use Rattle.solver.proofs.search.search_rows.Goals as goal

pub invariant_of-looks : goal.invariant_of-looks
invariant_of-looks c = record { looking = looks_found c.requires.0 c.looks_of.ensures (search rules) c.look_rows_of-look.ensures }
