-- The tests decide it.
use Rattle.std.proofs.Common.{rules}
use Rattle.sheets.proofs.Faults.{told_by}
use Rattle.sheets.proofs.links.is_faulty.Goals as goal

pub returns-clause-decides : goal.returns-clause-decides
returns-clause-decides c = told_by (search rules)
