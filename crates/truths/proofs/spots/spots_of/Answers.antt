use Rattle.std.proofs.Common.{arith}
use Rattle.meaning.specs.Table.{first, next}
use Rattle.truths.proofs.Inside.{line_within}
use Rattle.truths.proofs.Placing.{placing_none, placed_all}
use Rattle.truths.proofs.spots.spots_of.Goals as goal

pub loop-p-init : goal.loop-p-init
loop-p-init c = placing_none

pub put_line-requires : goal.put_line-requires
put_line-requires c =
    let there = line_within c.requires.1 c.requires.0 c.loop-p.p in
    (omega arith, there first, there next)

pub returns : goal.returns
returns c = placed_all c.requires.1 c.requires.0 (omega arith) c.loop-p.invariant
