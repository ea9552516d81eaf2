-- What the rounds leave, as slices.
use Rattle.meaning.specs.Outcome.{Slices}
use Rattle.rounds.specs.Round.{running}
use Rattle.rounds.specs.declared.tree.Tree.{Tree}

abbrev pub links : Tree → Slices
links t = running t.round.now t.first.now t.next.now
