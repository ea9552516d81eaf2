-- Two outcomes of one table and one sheet with the same memory lent are the same.
use Prim.Native.Nat.{ℕ}
use native.Mathlib.Omega.{arith}
use mathlib.Core.List.{List, ◌++◌}
use mathlib.Core.Path.{◌≡◌, refl, ap, sym, subst, ◌∙◌}
use lib.ListN.{length, drop}
use Rattle.meaning.specs.Table.{Table}
use Rattle.meaning.specs.Tree.{Tree}
use Rattle.table.specs.declared.Row.{Row}
use Rattle.intake.specs.Loading.{table}
use Rattle.intake.proofs.Theorems.{one_admission}
use Rattle.sheets.specs.Tree.{SheetTree}
use Rattle.sheets.specs.declared.Line.{Line}
use Rattle.sheets.proofs.OneAnswer.{one_answer}
use Rattle.judge.specs.Judging.{Numbers, Refused, JudgesLines, too_few, judged, JudgesSheet, by_sheet, by_lines, Judges, by_table, admitted, SameNumbers}
use Rattle.judge.specs.declared.Judged.{Judged}
use Rattle.judge.proofs.Answers.{grown}
use Rattle.judge.proofs.OneVerdict.{one_verdict}

pub record Same (x y : List ℕ) (a b : Judged) : Type 0 where
  pub numbers : SameNumbers a b
  pub memory : x ≡ y

same_numbers : {a b : Judged} {w n p : ℕ} → Numbers a w n p → Numbers b w n p → SameNumbers a b
same_numbers k l =
    record {
      same_written = k.written_is ∙ sym l.written_is;
      same_refusal = k.refusal_is ∙ sym l.refusal_is;
      same_place = k.place_is ∙ sym l.place_is;
    }

module _ {old x y : List ℕ} {a b : Judged} where
  -- refusals of the same number and place
  refusals : {n p m q : ℕ} → n ≡ m → p ≡ q → Refused n p old x a → Refused m q old y b → Same x y a b
  refusals {n} {p} {q = q} e f r s =
      let t : Refused n p old y b = subst (λ (z : ℕ). Refused n z old y b) (sym f) (subst (λ (z : ℕ). Refused z q old y b) (sym e) s) in
      record { numbers = same_numbers r.numbers t.numbers; memory = r.untouched ∙ sym t.untouched }

  module _ {rows : Table} {lines : List Line} {t : Tree} (s : SheetTree lines t) where
    lines_same : JudgesLines rows lines old x a → JudgesLines rows lines old y b → Same x y a b
    lines_same (too_few v l r) (too_few w k q) = refusals refl refl r q
    lines_same (too_few v l r) (judged w k n e) = let z = ap length (one_verdict rows lines t s v w) in absurd (omega arith)
    lines_same (judged v l m d) (too_few w k r) = let z = ap length (one_verdict rows lines t s v w) in absurd (omega arith)
    lines_same (judged {bytes = v'} v l m d) (judged {bytes = w'} w k n e) =
        let z : v' ≡ w' = one_verdict rows lines t s v w in
        record {
          numbers = same_numbers m (subst (λ (u : List ℕ). Numbers b (length u) 0 0) (sym z) n);
          memory = d ∙ ap (λ (u : List ℕ). u ++ drop (length u) old) z ∙ sym e;
        }

  module _ (sheet : List ℕ) where
    sheet_same : {rows : Table} → JudgesSheet rows sheet old x a → JudgesSheet rows sheet old y b → Same x y a b
    sheet_same (by_sheet {n = n} {p = p} k r) (by_sheet {n = m} {p = q} l s) =
        let e = (one_answer sheet).unique k l in
        let f : n ≡ m = cc in
        let g : p ≡ q = cc in
        refusals f g r s
    sheet_same (by_sheet k r) (by_lines l j) = let e = (one_answer sheet).unique k l in cc
    sheet_same (by_lines k i) (by_sheet l s) = let e = (one_answer sheet).unique k l in cc
    sheet_same {rows} (by_lines {lines = u} k i) (by_lines {lines = v} l j) =
        let e = (one_answer sheet).unique k l in
        let f : u ≡ v = cc in
        lines_same (grown sheet u k).1 i (subst (λ (z : List Line). JudgesLines rows z old y b) (sym f) j)

    pub judges_same : (text : List ℕ) → Judges text sheet old x a → Judges text sheet old y b → Same x y a b
    judges_same text (by_table {n = n} {p = p} k r) (by_table {n = m} {p = q} l s) =
        let e = (one_admission text).unique k l in
        let f : n ≡ m = cc in
        let g : p ≡ q = cc in
        refusals f g r s
    judges_same text (by_table k r) (admitted l j) = let e = (one_admission text).unique k l in cc
    judges_same text (admitted k i) (by_table l s) = let e = (one_admission text).unique k l in cc
    judges_same text (admitted {rows = u} k i) (admitted {rows = v} l j) =
        let e = (one_admission text).unique k l in
        let f : u ≡ v = cc in
        sheet_same i (subst (λ (z : List Row). JudgesSheet (table z) sheet old y b) (sym f) j)
