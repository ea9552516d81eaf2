use Rattle.codes.proofs.Passing.{some_row}
use Rattle.codes.proofs.Seeing.{sees}
use Rattle.codes.proofs.layout.Layout.sight_of.Goals as goal

pub returns : goal.returns
returns c = let s = c.args.self.now in rw c.pack.ensures (sees s.laid (some_row s.in_order) s.looks.looking c.truths_in.ensures)
