-- What is said of the rows is said of the table that they stand for.
use Rattle.std.proofs.Common.{ℕ, ◌∙◌, rules, tests}
use Rattle.std.proofs.lemmas.Iterator.{YieldsList-from_slice}
use Rattle.std.proofs.lemmas.Iterator.Consumers.{YieldsList-from_enumerate}
use Rattle.std.proofs.lemmas.Iterator.Search.{any_from_yields_List}
use Rattle.table.specs.Rows.{meant, dir_of}
use Rattle.table.specs.declared.Row.{Row}
use Rattle.loops.specs.Closing.{turns}
use Rattle.loops.proofs.Rows.{row_told, wraps_told}
use Rattle.loops.proofs.pairs.Pairs.wrapped.Goals as goal

pub returns : goal.returns
returns c =
    let s = c.args.self.now in
    let d = dir_of c.in-Go.d in
    let told = wraps_told s.rows.now s.found d c.in-Go.k c.args.j in
    rw (row_told s.rows.now c.args.i c.requires, c.in-Go.is)
    (any_from_yields_List (λ (p : ℕ × Row). turns s.found d c.in-Go.k c.args.j p.0 (meant p.1)) _ _ c.any.result c.any.ensures.ran (YieldsList-from_enumerate (YieldsList-from_slice s.rows.now cc) cc) (λ x b q k. search (rules, tests)) ∙ told)
