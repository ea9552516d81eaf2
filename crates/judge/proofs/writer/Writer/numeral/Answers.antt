-- One digit after another.
use Rattle.std.proofs.Common.{arith}
use Rattle.judge.proofs.Puts.{wrote_both}
use Rattle.judge.proofs.Verdicts.{numeral_digits, numeral_room}
use Rattle.judge.proofs.writer.Writer.numeral.Goals as goal

pub returns : goal.returns
returns c =
    let room = numeral_room c.args.i c.requires.0 in
    rw (numeral_digits c.args.i c.requires.0) (wrote_both (omega arith) c.digit_from.ensures (wrote_both (omega arith) c.digit_from-2.ensures c.digit.ensures))
