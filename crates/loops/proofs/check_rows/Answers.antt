use Rattle.std.proofs.Common.{◌∙◌, sym}
use Rattle.table.specs.Rows.{table_in}
use Rattle.loops.specs.Judged.{missing}
use Rattle.loops.proofs.Naming.{missing_found, none_missing}
use Rattle.loops.proofs.check_rows.Goals as goal

pub check_present-requires : goal.check_present-requires
check_present-requires c = (c.requires, none_missing (table_in c.args.rows.now) (sym c.first_missing.ensures ∙ c.in-None.is))

pub returns-in-Some : goal.returns-in-Some
returns-in-Some c = record { judged = missing (missing_found (table_in c.args.rows.now) c.in-Some.i (sym c.first_missing.ensures ∙ c.in-Some.is)); ordered = tt }
