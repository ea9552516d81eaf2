-- From the parts' answers to what is promised of accepted lines.
use Prim.Native.Nat.{ℕ, ◌<◌, ◌≤◌}
use native.Mathlib.Omega.{arith}
use mathlib.Core.Bool.{Bool, true, false, cond}
use mathlib.Core.List.{List, ◌++◌}
use mathlib.Core.Path.{◌≡◌, refl, ap, ◌∙◌}
use lib.ListN.{get_or, length, drop, length-map}
use Rattle.meaning.specs.Tree.{Tree, Place}
use Rattle.meaning.specs.Truth.{TrueAt}
use Rattle.table.specs.Decides.{Decides}
use Rattle.table.specs.Rows.{meant, table_in}
use Rattle.std.specs.Prelude.{Ok, Err}
use Rattle.table.specs.Refusals.{number_of, place_of}
use Rattle.table.specs.declared.refusal.Refusal.{Refusal}
use Rattle.table.specs.declared.refusal.Refusal.TheVariants.{NoRoom}
use Rattle.table.proofs.Decides.{refuted}
use Rattle.sheets.specs.Tree.{At, SheetTree}
use Rattle.sheets.specs.declared.Line.{Line}
use Rattle.table.specs.declared.Row.{Row}
use Rattle.sheets.proofs.Tree.Sheet.{sheet_tree}
use Rattle.truths.specs.Cells.{found}
use Rattle.truths.specs.Decided.{Decided}
use Rattle.judge.specs.Judging.{judged_of, Refused, JudgesLines, too_few, judged}
use Rattle.judge.specs.Output.{verdict_lines}
use Rattle.judge.specs.Writing.{digits_of, OutputLength, Written}
use Rattle.judge.specs.Ready.{Ready}
use Rattle.judge.specs.Verdicts.{DigitIs, is_true, is_false, Verdicts}
use Rattle.judge.proofs.OneVerdict.{verdicts_of, some_verdicts}
use Rattle.judge.proofs.Verdicts.{length_digits, digit_at}

-- a test and the statement it decides, as a digit
digit_by : {rows : _} {t : Tree} {p : Place} (b : Bool) → Decides b (TrueAt rows t 0 p) → DigitIs rows t p (cond b 1 0)
digit_by true d = is_true (d.sound refl)
digit_by false d = is_false (refuted d refl)

pub table_few : (rows : List Row) → length (table_in rows) ≤ 48 → length rows ≤ 48
table_few rows h = omega (arith, length-map rows meant)

-- what is judged is what crosses
pub refuses : {old : List ℕ} (r : Refusal) → Refused (number_of r) (place_of r) old old (judged_of (Err r))
refuses r = record { numbers = record { written_is = refl; refusal_is = refl; place_is = refl }; untouched = refl }

module _ {rows : List Row} {lines : List Line} (ready : Ready rows lines) where
  grown : (t : Tree) × SheetTree lines t
  grown = sheet_tree lines ready.some_line ready.fault_free

  -- whatever the digits, so many bytes are written
  long : {n : ℕ} {bytes : List ℕ} → OutputLength (length lines) n → Verdicts (table_in rows) lines bytes → length bytes ≡ n
  long o v = ap length v.bytes_are ∙ o.lines v.digits v.many

  pub has_room : {n m : ℕ} (truth : List (List Bool)) → OutputLength (length lines) n → n ≤ m → length (verdict_lines 0 (digits_of truth 0 (length lines))) ≤ m
  has_room truth o h = omega (arith, o.lines (digits_of truth 0 (length lines)) (length_digits truth 0 (length lines)))

  pub no_room : {n : ℕ} {old : List ℕ} → OutputLength (length lines) n → length old < n → JudgesLines (table_in rows) lines old old (judged_of (Err NoRoom))
  no_room o h =
      let x = ready.admissible in
      let v = some_verdicts (table_in rows) lines grown.0 grown.1 x.some_row x.in_range x.loop_free in
      too_few v.1 (omega (arith, long o v.1)) (refuses NoRoom)

  module _ {truth : List (List Bool)} (d : Decided (table_in rows) lines truth) where
    right : (i : ℕ) (p : Place) → At lines i p → DigitIs (table_in rows) grown.0 p (get_or (digits_of truth 0 (length lines)) i 0)
    right i p at = rw (digit_at truth i (length lines) (grown.1.inside at).0) (digit_by (found truth i 0) (d.decides grown.0 grown.1 p i 0 at ready.admissible.some_row))

    pub writes : {n m : ℕ} {old new : List ℕ} → Written truth (length lines) old new n → OutputLength (length lines) m → m ≤ length old → JudgesLines (table_in rows) lines old new (judged_of (Ok n))
    writes {n} {old = old} w l h =
        let ds = digits_of truth 0 (length lines) in
        let v = verdicts_of (table_in rows) lines grown.0 grown.1 ds (length_digits truth 0 (length lines)) right in
        judged v (has_room truth l h) (record { written_is = w.long; refusal_is = refl; place_is = refl }) (w.stands ∙ ap (λ (z : ℕ). verdict_lines 0 ds ++ drop z old) w.long)
