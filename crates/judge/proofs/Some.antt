-- Every table, sheet and lent memory has an outcome.
use Prim.Native.Nat.{ℕ, ◌<◌}
use native.Mathlib.Decide.{dec_lt}
use native.Mathlib.Omega.{arith}
use mathlib.Core.List.{List, ◌++◌}
use mathlib.Core.Path.{refl}
use lib.ListN.{length, drop}
use Rattle.meaning.specs.Table.{Table}
use Rattle.reader.specs.Reading.{Reading, rows_read, refused}
use Rattle.intake.specs.Loading.{Admits, Admissible}
use Rattle.intake.proofs.Theorems.{one_admission}
use Rattle.sheets.specs.Links.{Loads}
use Rattle.sheets.specs.Reading as Sheet
use Rattle.sheets.specs.declared.Line.{Line}
use Rattle.sheets.proofs.OneAnswer.{one_answer}
use Rattle.judge.specs.Judging.{Numbers, Refused, JudgesLines, too_few, judged, JudgesSheet, by_sheet, by_lines, Judges, by_table, admitted}
use Rattle.judge.specs.Verdicts.{Verdicts}
use Rattle.judge.specs.declared.Judged.{Judged}
use Rattle.judge.proofs.Answers.{grown}
use Rattle.judge.proofs.OneVerdict.{some_verdicts}

numbered : ℕ → ℕ → ℕ → Judged
numbered w n p = record { written = w; refusal = n; place = p }

has_numbers : (w n p : ℕ) → Numbers (numbered w n p) w n p
unfolding numbered
has_numbers w n p = record { written_is = refl; refusal_is = refl; place_is = refl }

refuses : (old : List ℕ) (n p : ℕ) → Refused n p old old (numbered 0 n p)
refuses old n p = record { numbers = has_numbers 0 n p; untouched = refl }

-- an outcome of what J judges
abbrev Some : (List ℕ → Judged → Type 0) → Type 0
Some J = (new : List ℕ) × (a : Judged) × J new a

module _ (old : List ℕ) where
  some_lines : {rows : Table} {lines : List Line} {bytes : List ℕ} → Verdicts rows lines bytes → Some (JudgesLines rows lines old)
  some_lines {rows} {lines} {bytes} v = at (dec_lt (length old) (length bytes))
    where
      at : Dec (length old < length bytes) → Some (JudgesLines rows lines old)
      at (yes h) = (old, numbered 0 8 0, too_few v h (refuses old 8 0))
      at (no h) = (bytes ++ drop (length bytes) old, numbered (length bytes) 0 0, judged v (omega (arith, h)) (has_numbers (length bytes) 0 0) refl)

  module _ (sheet : List ℕ) where
    some_sheet : {rows : Table} → Admissible rows → Some (JudgesSheet rows sheet old)
    some_sheet {rows} a = at (one_answer sheet).answer (one_answer sheet).loads
      where
        at : (x : Sheet.Reading) → Loads sheet x → Some (JudgesSheet rows sheet old)
        at (Sheet.refused n p) l = (old, numbered 0 n p, by_sheet l (refuses old n p))
        at (Sheet.lines_read lines) l =
            let t = grown sheet lines l in
            let v = some_verdicts rows lines t.0 t.1 a.some_row a.in_range a.loop_free in
            let o = some_lines v.1 in
            (o.0, o.1, by_lines l o.2)

    pub some_outcome : (text : List ℕ) → Some (Judges text sheet old)
    some_outcome text = at (one_admission text).answer (one_admission text).admits
      where
        at : (x : Reading) → Admits text x → Some (Judges text sheet old)
        at (refused n p) l = (old, numbered 0 n p, by_table l (refuses old n p))
        at (rows_read rows) l =
            let o = some_sheet ((one_admission text).admitted rows l).0 in
            (o.0, o.1, admitted l o.2)
