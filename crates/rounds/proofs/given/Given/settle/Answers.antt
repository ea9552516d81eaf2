-- The flag tells whether there is a neighbour to look for.
use Rattle.meaning.specs.Table.{down}
use Rattle.table.proofs.Decides.{refuted}
use Rattle.table.specs.Directions.{side}
use Rattle.codes.proofs.Takes.{flag_is}
use Rattle.rounds.specs.Round.{child, childless}
use Rattle.rounds.proofs.given.Given.settle.Goals as goal

pub neighbour-requires : goal.neighbour-requires
neighbour-requires c =
    let flag = flag_is c.args.self.now.seen.layout.looks.looking c.args.t (down (side c.args.side)) c.has_flag.ensures in
    (c.requires, flag.sound c.if-not-has_flag.false)

pub returns-then-not-has_flag : goal.returns-then-not-has_flag
returns-then-not-has_flag c =
    let flag = flag_is c.args.self.now.seen.layout.looks.looking c.args.t (down (side c.args.side)) c.has_flag.ensures in
    childless (refuted flag c.if-not-has_flag.true)

pub returns-in_err-neighbour : goal.returns-in_err-neighbour
returns-in_err-neighbour c =
    let flag = flag_is c.args.self.now.seen.layout.looks.looking c.args.t (down (side c.args.side)) c.has_flag.ensures in
    rw c.from_residual.ensures (record { flagged = flag.sound c.if-not-has_flag.false; none_taken = c.in_err-neighbour.ensures })

pub returns : goal.returns
returns c = child c.in_ok-neighbour.ensures.0 c.in_ok-neighbour.ensures.1
