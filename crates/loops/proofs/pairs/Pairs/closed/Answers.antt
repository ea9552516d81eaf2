use Rattle.std.proofs.Common.{arith}
use Rattle.meaning.specs.Table.{row_limit}
use Rattle.table.specs.Rows.{table_in}
use Rattle.loops.proofs.Marking.{square_none, pairs_most}
use Rattle.loops.proofs.Sound.{sound_none}
use Rattle.loops.proofs.pairs.Pairs.closed.Goals as goal

pub invariant_of-pairs : goal.invariant_of-pairs
invariant_of-pairs c =
    record { few = c.requires.0; square = square_none row_limit; in_range = c.requires.1; sound = sound_none (table_in c.args.rows.now) row_limit row_limit }

pub loop-smaller : goal.loop-smaller
loop-smaller c =
    let p = c.pass.new.self in
    let more = c.pass.ensures.1.grown c.loop-test.true in
    omega (arith, more, pairs_most row_limit p.found p.square)
