-- The first line that the tests find is the smallest faulty one.
use Rattle.std.proofs.Common.{◌≡◌, true, false, rules}
use Rattle.std.proofs.lemmas.Iterator.{first_from_Range}
use Rattle.sheets.specs.Counting.{faulty_at}
use Rattle.sheets.proofs.Faults.{first_found}
use Rattle.sheets.proofs.links.first_faulty.Goals as goal

pub returns : goal.returns
returns c =
    let x = c.args.lines.now in
    first_found x c.find.result (first_from_Range _ _ _ _ (λ i. faulty_at x i ≡ true) (λ i. faulty_at x i ≡ false) c.find.ensures.ran (λ i q k. search rules) (λ i q k. search rules))
