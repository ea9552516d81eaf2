-- The invariant is a `Turn`: the sheet holds the lines that were read, and the rest of the text decides.
use Rattle.std.proofs.Common.{◌-◌}
use Rattle.reader.proofs.Turns.{Turn}
use Rattle.sheets.specs.Lines.{line_limit, lines_of}
use Rattle.sheets.proofs.Sheets.{sheets}
use Rattle.sheets.proofs.reading.read_text.Given as goal

abbrev pub invariant-loop-rest : goal.invariant-loop-rest
invariant-loop-rest l = Turn sheets l.text l.sheet.lines.len (lines_of l.sheet) l.rest

abbrev pub decreases-loop-rest : goal.decreases-loop-rest
decreases-loop-rest l = line_limit - l.sheet.lines.len
