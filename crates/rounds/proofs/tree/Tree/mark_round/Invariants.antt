-- The codes of round r below t have handed their marks on.
use Rattle.rounds.specs.Trees.{links}
use Rattle.rounds.specs.Used.{Handed}
use Rattle.rounds.proofs.tree.Tree.mark_round.Given as goal

abbrev pub invariant-loop-t : goal.invariant-loop-t
invariant-loop-t l = Handed l.self.codes (links l.self) l.r 0 l.t l.fn.used l.used
