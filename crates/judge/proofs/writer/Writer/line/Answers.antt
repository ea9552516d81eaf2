-- The number and three bytes, one after another.
use Rattle.std.proofs.Common.{◌≡◌, cond, arith, rules}
use Rattle.judge.proofs.Puts.{wrote_both}
use Rattle.judge.proofs.Verdicts.{line_length}
use Rattle.judge.proofs.writer.Writer.line.Goals as goal

pub returns : goal.returns
returns c =
    let room = line_length c.args.i (cond c.args.holds 1 0) in
    let digit : c.from.result ≡ cond c.args.holds 1 0 = search rules in
    rw (← digit) (wrote_both (omega arith) c.numeral.ensures (wrote_both (omega arith) c.byte.ensures (wrote_both (omega arith) c.digit.ensures c.byte-2.ensures)))
