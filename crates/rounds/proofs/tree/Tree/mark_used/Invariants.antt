-- The rounds above r are done.
use Rattle.rounds.specs.Kept.{Kept}
use Rattle.rounds.specs.Trees.{links}
use Rattle.rounds.specs.Used.{Marking}
use Rattle.rounds.proofs.tree.Tree.mark_used.Given as goal

abbrev pub invariant-loop-r : goal.invariant-loop-r
invariant-loop-r l = Marking l.self.codes (links l.self) l.top l.r 0 l.used × Kept l.self.codes l.fn.used l.used
