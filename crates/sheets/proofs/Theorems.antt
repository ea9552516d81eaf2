-- Every text has one reading, and no written line begins another.
use mathlib.Core.Path.{◌≡◌, sym, ◌∙◌}
use mathlib.Core.List.{List, ◌++◌}
use Prim.Native.Nat.{ℕ}
use Rattle.reader.proofs.Scan.{reading, one_item}
use Rattle.sheets.specs.declared.Line.{Line}
use Rattle.sheets.specs.Lines.{Right}
use Rattle.sheets.specs.Written.{written}
use Rattle.sheets.specs.Reading.{OneReading}
use Rattle.sheets.proofs.Sheets.{sheets, reads, only}

pub one_reading : (text : List ℕ) → OneReading text
one_reading text = record { reading = reading sheets text; reads = reads text; unique = λ p q. only p ∙ sym (only q) }

pub one_line : (l k : Line) (end other : List ℕ) → Right l → Right k → written l ++ end ≡ written k ++ other → (l ≡ k) × (end ≡ other)
one_line l k end other v w e = one_item sheets l k end other v w e
