-- A row that is no `go` row goes to none from which one comes back.
use Rattle.std.proofs.Common.{◌≡◌, ℕ, Bool, List, false, refl}
use Rattle.meaning.specs.Table as M
use Rattle.table.specs.Rows.{meant}
use Rattle.table.specs.declared.Row.{Row}
use Rattle.table.specs.declared.Row.TheVariants.{Yes, No, Is, Isnot, Any, All, Go, Stop}
use Rattle.loops.specs.Closing.{wraps}

pub no_wrap : (rows : M.Table) (m : List (List Bool)) (r : Row) (j : ℕ) → ((d i : ℕ) → r ≡ Go d i → ⊥) → false ≡ wraps rows m (meant r) j
no_wrap rows m Yes j h = refl
no_wrap rows m No j h = refl
no_wrap rows m (Is n) j h = refl
no_wrap rows m (Isnot n) j h = refl
no_wrap rows m (Any i k) j h = refl
no_wrap rows m (All i k) j h = refl
no_wrap rows m (Go d i) j h = absurd (h d i refl)
no_wrap rows m (Stop d) j h = refl
