-- The next line has room, and is put; behind the last one nothing is to come.
use Rattle.std.proofs.Common.{◌≡◌, [], arith, rules}
use Rattle.std.proofs.lemmas.List.{length-take-le, get_or-take}
use Rattle.judge.proofs.Puts.{any_digit, partly_room, partly_more}
use Rattle.judge.proofs.Writing.{lines_next, lines_last}
use Rattle.judge.proofs.output.write.Goals as goal

pub line-requires : goal.line-requires
line-requires c = (omega arith, any_digit c.loop-i.writer c.loop-i.i _ _ (partly_room _ _ (lines_next c.args.truth.now c.args.n c.loop-i.i c.loop-i.invariant (omega arith))))

pub loop-i-preserved : goal.loop-i-preserved
loop-i-preserved c =
    let here = get_or-take c.args.n c.args.truth.now c.loop-i.i [] (omega arith) in
    partly_more _ _ (lines_next c.args.truth.now c.args.n c.loop-i.i c.loop-i.invariant (omega arith)) (rw here at c.line.ensures)

pub returns : goal.returns
returns c =
    let same : c.loop-i.writer.bytes.ghost_name ≡ c.new-writer.result.bytes.ghost_name = c.loop-i.invariant.wrote.same in
    let w = lines_last c.args.truth.now c.args.n c.loop-i.i c.loop-i.invariant c.requires.0 (omega (arith, length-take-le c.args.n c.args.truth.now (omega arith))) in
    rw c.written.ensures (search rules)
