use Rattle.std.proofs.Common.{◌∙◌}
use Rattle.rounds.proofs.Places.{all_then, same_then}
use Rattle.rounds.proofs.Whole.{goes_on}
use Rattle.rounds.proofs.given.Given.all_rounds.Goals as goal

pub loop-lent-preserved : goal.loop-lent-preserved
loop-lent-preserved c =
    let l = c.loop-lent in
    let o = c.one_round.ensures.0 in
    let still = same_then l.invariant.2 c.one_round.ensures.1 in
    (goes_on c.args.self.now.accepted l.invariant.0 o.searched (still.same_codes ∙ c.requires.0) (o.enters c.loop-lent-test.true) c.in_default.ensures, all_then l.invariant.1 o.kept, still)
