use Rattle.sheets.proofs.Loading.{all_fine}
use Rattle.sheets.proofs.load.Goals as goal

pub returns : goal.returns
returns c = all_fine c.in_ok-sheet.ensures (rw c.lines.ensures at c.in_default.ensures)
