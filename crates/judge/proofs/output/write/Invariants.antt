-- The lines from i on are still to come; with each turn one of them is put.
use Rattle.std.proofs.Common.{◌-◌}
use Rattle.judge.specs.Output.{verdict_lines}
use Rattle.judge.specs.Writing.{digits_of}
use Rattle.judge.proofs.Puts.{Partly}
use Rattle.judge.proofs.output.write.Given as goal

abbrev pub invariant-loop-i : goal.invariant-loop-i
invariant-loop-i l = Partly (verdict_lines 0 (digits_of l.truth 0 l.n)) (verdict_lines l.i (digits_of l.truth l.i (l.n - l.i))) l.initial.writer l.writer
