-- `Takes` and `Proper` by the look rows alone, each of which has its bit.
use Prim.Native.Nat.{ℕ, ◌<◌}
use native.Mathlib.Omega.{arith}
use mathlib.Core.Bool.{Bool}
use mathlib.Core.List.{List}
use mathlib.Core.Logic.{◌↔◌}
use mathlib.Core.Path.{◌≡◌, subst}
use lib.ListN.{get_or, take}
use Rattle.meaning.specs.Code.{HasFlag, Proper, Takes}
use Rattle.meaning.specs.Table.{Side, first, next, Dir, down, up, row_at, go_row, looks}
use Rattle.table.specs.Rows.{table_in}
use Rattle.table.specs.declared.Row.{Row}
use Rattle.table.specs.Decides.{Decides}
use Rattle.codes.specs.Fits.{FitsRow, Flagged}
use Rattle.codes.specs.Layout.{Looking}
use Rattle.counts.proofs.Looks.{go_look, look-below, look_row_lem, look_same}
use Rattle.codes.specs.Parts.{flag_by}
use Rattle.codes.proofs.Looking.{look_at}
use Rattle.codes.proofs.Apart.{flag_decides}

module _ {rows : List Row} {found : List ℕ} {m : ℕ} (l : Looking rows found m) where
  -- what holds of the row of each bit holds of each `go` row
  pub each_look : (P : ℕ → Type 0) → ((j : ℕ) → j < m → P (get_or found j 0)) → (i k : ℕ) (d : Dir) → row_at (table_in rows) i ≡ go_row d k → P i
  each_look P h i k d e =
      let one = go_look (table_in rows) i e in
      let j = looks (take i (table_in rows)) in
      let w = l.width.is_m in
      let small : j < m = omega (arith, look-below (table_in rows) i one) in
      subst P (look_same (table_in rows) j (get_or found j 0) i (look_at l j small) (look_row_lem (table_in rows) i one)) (h j small)

  pub flag_is : (code : ℕ) (d : Dir) {b : Bool} → b ≡ flag_by m code d → Decides b (HasFlag (table_in rows) code d)
  flag_is code d e = flag_decides (table_in rows) code m l.width.is_m d e

  pub takes_rows : (s : Side) (t u : ℕ) → Takes (table_in rows) s t u
      ↔ (HasFlag (table_in rows) t (down s) × HasFlag (table_in rows) u (up s) × ((j : ℕ) → j < m → FitsRow (table_in rows) s t u (get_or found j 0)))
  takes_rows s t u = (
    λ h. (h.flag_down, h.flag_up, λ j z. record { forth = λ k e. h.forth (get_or found j 0) k e; back = λ k e. h.back (get_or found j 0) k e }),
    λ h.
        let fits = each_look (FitsRow (table_in rows) s t u) h.2 in
        record {
          flag_down = h.0;
          flag_up = h.1;
          forth = λ i k e. (fits i k (down s) e).forth k e;
          back = λ i k e. (fits i k (up s) e).back k e;
        },
  )

  pub proper_rows : (c : ℕ) → Proper (table_in rows) c
      ↔ ((HasFlag (table_in rows) c (up first) → HasFlag (table_in rows) c (up next) → ⊥) × ((j : ℕ) → j < m → Flagged (table_in rows) c (get_or found j 0)))
  proper_rows c = (
    λ h. (h.one_parent, λ j z. h.flagged (get_or found j 0)),
    λ h. record { one_parent = h.0; flagged = λ i k d e. each_look (Flagged (table_in rows) c) h.1 i k d e k d e },
  )
