-- The table's answer decides whether the sheet is looked at, and the sheet's whether its lines are judged.
use Rattle.std.proofs.lemmas.Result.{err_from_is_err_and}
use Rattle.judge.proofs.Answers.{refuses_table, refuses_sheet, ready, judges_both}
use Rattle.judge.proofs.judge_texts.Goals as goal

pub returns-in_err-loaded : goal.returns-in_err-loaded
returns-in_err-loaded c =
    let p = err_from_is_err_and c.from_residual.result c.from_residual.ensures.1 in
    let x = refuses_table c.args.sheet.now c.args.out.now c.in_err-loaded.ensures.answered in
    rw (p.1, p.2) (record { judges = x.0; small = x.1 })

pub returns-in_err-sheet : goal.returns-in_err-sheet
returns-in_err-sheet c =
    let p = err_from_is_err_and c.from_residual-in_err-sheet.result c.from_residual-in_err-sheet.ensures.1 in
    let x = refuses_sheet c.args.sheet.now c.args.out.now c.in_ok-loaded.ensures.answered c.in_err-sheet.ensures in
    rw (p.1, p.2) (record { judges = x.0; small = x.1 })

pub judge_lines-requires : goal.judge_lines-requires
judge_lines-requires c = rw (c.rows.ensures, c.lines.ensures) (ready c.in_ok-loaded.ensures.answered c.in_ok-sheet.ensures)

pub returns-clause-judges : goal.returns-clause-judges
returns-clause-judges c = judges_both c.in_ok-loaded.ensures.answered c.in_ok-sheet.ensures (rw (c.rows.ensures, c.lines.ensures) at c.judge_lines.ensures.judges)
