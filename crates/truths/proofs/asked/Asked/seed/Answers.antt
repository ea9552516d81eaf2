use Rattle.truths.proofs.Turns.{line_more}
use Rattle.truths.proofs.asked.Asked.seed.Goals as goal

pub loop-line-preserved : goal.loop-line-preserved
loop-line-preserved c = line_more c.loop-line.invariant c.seed_line.ensures
