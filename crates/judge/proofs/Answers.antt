-- From what `admit` and `sheets::load` answer to what is promised of a call.
use Prim.Native.Nat.{ℕ, ◌<◌}
use native.Mathlib.Omega.{arith}
use mathlib.Core.Bool.{false}
use mathlib.Core.List.{List}
use lib.ListN.{length}
use Rattle.std.specs.Prelude.{Ok, Err}
use Rattle.meaning.specs.Tree.{Tree}
use Rattle.table.specs.Refusals.{number_of, place_of}
use Rattle.table.specs.Rows.{rows_of, table_of}
use Rattle.table.specs.declared.refusal.Refusal.{Refusal}
use Rattle.intake.specs.Loading.{Answered}
use Rattle.intake.specs.declared.Loaded.{Loaded}
use Rattle.intake.proofs.Theorems.{one_admission}
use Rattle.sheets.specs.Lines.{lines_of}
use Rattle.sheets.specs.Links as Links
use Rattle.sheets.specs.Links.{FaultFree, Loads, fine}
use Rattle.sheets.specs.Reading.{lines_read}
use Rattle.sheets.specs.Tree.{SheetTree}
use Rattle.sheets.specs.declared.Line.{Line}
use Rattle.sheets.specs.declared.Sheet.{Sheet}
use Rattle.sheets.proofs.Accepted.{some_line}
use Rattle.sheets.proofs.OneAnswer.{small}
use Rattle.sheets.proofs.Tree.Sheet.{sheet_tree}
use Rattle.judge.specs.Judging.{judged_of, Small, JudgesLines, by_sheet, by_lines, Judges, by_table, admitted}
use Rattle.judge.specs.Ready.{Ready}
use Rattle.judge.specs.declared.Judged.{Judged}
use Rattle.judge.proofs.Judging.{refuses}

-- what accepted lines are
pub record Fine (lines : List Line) : Type 0 where
  pub some : 0 < length lines
  pub free : FaultFree lines

pub accepted : {text : List ℕ} {lines : List Line} → Loads text (lines_read lines) → Fine lines
accepted (fine x f) = record { some = some_line x; free = f }

pub grown : (text : List ℕ) (lines : List Line) → Loads text (lines_read lines) → (t : Tree) × SheetTree lines t
grown text lines l = let f = accepted l in sheet_tree lines f.some f.free

-- what is handed on where both are accepted
module _ {text sheet : List ℕ} {l : Loaded} {s : Sheet} (x : Answered false text (Ok l)) (y : Links.Loaded sheet (Ok s)) where
  pub ready : Ready (rows_of l.table) (lines_of s)
  ready =
      let f = accepted y.loads in
      record {
        admissible = ((one_admission text).admitted (rows_of l.table) x.takes).0;
        some_line = f.some;
        few_lines = omega (arith, y.counted);
        fault_free = f.free;
      }

  pub judges_both : {old new : List ℕ} {a : Judged} → JudgesLines (table_of l.table) (lines_of s) old new a → Judges text sheet old new a
  judges_both j = admitted x.takes (by_lines y.loads j)

module _ {text : List ℕ} (sheet old : List ℕ) where
  pub refuses_table : {r : Refusal} → Answered false text (Err r) → Judges text sheet old old (judged_of (Err r)) × Small (Err r)
  refuses_table {r} x = (by_table x.takes (refuses r), omega (arith, ((one_admission text).small (number_of r) (place_of r) x.takes).2))

  pub refuses_sheet : {l : Loaded} {r : Refusal} → Answered false text (Ok l) → Links.Loaded sheet (Err r) → Judges text sheet old old (judged_of (Err r)) × Small (Err r)
  refuses_sheet {l} {r} x y = (admitted x.takes (by_sheet y.loads (refuses r)), (small y.loads).1)
