-- The row of a bit: it is there, it is a `go` row, and the bit is its own.
use Prim.Native.Nat.{ℕ, ◌<◌}
use native.Mathlib.Omega.{arith}
use mathlib.Core.Bool.{Bool}
use mathlib.Core.List.{List}
use mathlib.Core.Path.{◌≡◌, refl, sym, ap, ◌∙◌}
use lib.ListN.{get_or, length, length-map}
use Rattle.meaning.specs.Code.{HasBit}
use Rattle.meaning.specs.Table.{row_at, look}
use Rattle.table.specs.Rows.{meant, table_in}
use Rattle.table.specs.declared.Row.{Row}
use Rattle.table.specs.declared.Row.TheVariants.{Yes, No, Is, Isnot, Any, All, Go, Stop}
use Rattle.counts.specs.Counts.{LookRow}
use Rattle.counts.proofs.Laws.{row_at-table_in}
use Rattle.table.specs.Decides.{Decides}
use Rattle.codes.specs.Layout.{Looking}
use Rattle.codes.specs.Parts.{bit_by}
use Rattle.codes.proofs.Apart.{bit_decides}

-- a row that is no `go` row is no look row
pub no_go : (r : Row) → ((d i : ℕ) → r ≡ Go d i → ⊥) → look (meant r) ≡ 0
no_go Yes n = refl
no_go No n = refl
no_go (Is k) n = refl
no_go (Isnot k) n = refl
no_go (Any i j) n = refl
no_go (All i j) n = refl
no_go (Go d i) n = absurd (n d i refl)
no_go (Stop d) n = refl

module _ {rows : List Row} {found : List ℕ} {m : ℕ} (l : Looking rows found m) (j : ℕ) (h : j < m) where
  pub look_at : LookRow (table_in rows) j (get_or found j 0)
  look_at = let e = l.width.is_m in l.found.row j (omega arith)

  pub look_inside : (j < length found) × (get_or found j 0 < length rows)
  look_inside = let e = l.enough in (omega arith, simp length-map at look_at.there)

  pub look_is : (r : Row) → get_or rows (get_or found j 0) No ≡ r → row_at (table_in rows) (get_or found j 0) ≡ meant r
  look_is r e = row_at-table_in rows No (get_or found j 0) look_inside.1 ∙ ap meant e

  pub look_bit : (code : ℕ) {b : Bool} → b ≡ bit_by code j → Decides b (HasBit (table_in rows) code (get_or found j 0))
  look_bit code e = bit_decides (table_in rows) code (get_or found j 0) j (sym look_at.place) e
