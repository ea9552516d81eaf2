use Rattle.std.proofs.Common.{◌∙◌, length, rules, tests}
use Rattle.std.proofs.lemmas.Iterator.{YieldsList-from_slice}
use Rattle.std.proofs.lemmas.Iterator.Search.{position_from_yields_List}
use Rattle.table.specs.Rows.{meant}
use Rattle.table.specs.declared.Row.{Row}
use Rattle.loops.specs.Missing.{misses}
use Rattle.loops.proofs.Rows.{missing_told}
use Rattle.loops.proofs.missing.first_missing.Goals as goal

pub returns : goal.returns
returns c =
    let rows = c.args.rows.now in
    position_from_yields_List (λ (r : Row). misses (length rows) (meant r)) _ _ c.position.result c.position.ensures.ran (YieldsList-from_slice rows cc) (λ x b q k. search (rules, tests)) ∙ missing_told rows
