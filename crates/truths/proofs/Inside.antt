-- In a sheet without a fault every field that names a line names one of the sheet's, and stands in one.
use Rattle.std.proofs.Common.{ℕ, ◌<◌, ◌≤◌, List, Option, Some, None, ◌≡◌, refl, length, arith}
use Rattle.meaning.specs.Table.{Side, Dir}
use Rattle.sheets.specs.Lines.{line_limit, link, line_at}
use Rattle.sheets.specs.Links.{Names, FaultFree}
use Rattle.sheets.specs.Tree.{Near, below_it, above_it}
use Rattle.sheets.specs.declared.Line.{Line}
use Rattle.sheets.proofs.Tree.Naming.{namer_there, named_there}
use Rattle.truths.specs.Placing.{Within}

-- a step is from a line that is there, and to one
pub near_inside : {lines : List Line} → FaultFree lines → {d : Dir} {p q : ℕ} → Near lines d p q → (p < length lines) × (q < length lines)
near_inside free (below_it n) = (namer_there n, named_there free n)
near_inside free (above_it n) = (named_there free n, namer_there n)

pub line_within : {lines : List Line} → FaultFree lines → length lines ≤ line_limit → (i : ℕ) (s : Side) → Within (link s (line_at lines i))
line_within {lines} free few i s = at (link s (line_at lines i)) refl
  where
    at : (l : Option ℕ) → link s (line_at lines i) ≡ l → Within l
    at None e = tt
    at (Some q) e =
        let n : Names lines i s q = record { names = e } in
        let h : q < length lines = named_there free n in
        omega arith
