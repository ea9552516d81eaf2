-- What is found so far and what is still to come are the whole count.
use Rattle.std.proofs.Common.{◌≡◌, ◌≤◌, ◌+◌, drop}
use Rattle.sheets.specs.Counting.{times_named}
use Rattle.sheets.proofs.links.misnamed.Given as goal

abbrev pub invariant-loop-line : goal.invariant-loop-line
invariant-loop-line l = (l.found ≤ 1) × (times_named l.j l.lines ≡ l.found + times_named l.j (drop l.line-index l.lines))
