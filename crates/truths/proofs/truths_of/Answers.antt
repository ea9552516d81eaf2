-- What is laid out is fit for the search, and what the search settles is decided on the tree.
use Rattle.truths.proofs.Bridge.{laid, decided}
use Rattle.truths.proofs.Putting.{none_found}
use Rattle.truths.proofs.truths_of.Goals as goal

pub invariant_of-asked : goal.invariant_of-asked
invariant_of-asked c =
    let p = c.requires in
    record { few = p.0; in_range = p.1; laid = laid _ c.args.lines.now _ p.2 p.3 c.spots_of-spots.ensures }

pub returns : goal.returns
returns c =
    let p = c.requires in
    let settled = c.settle.ensures (λ q i f. absurd (none_found q i (rw c.new-found.ensures.0 at f))) in
    decided _ c.args.lines.now _ p.2 p.3 c.spots_of-spots.ensures _ settled
