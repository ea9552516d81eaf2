-- What the look row of a bit asks, once its direction is known.
use Prim.Native.Nat.{ℕ, ◌<◌}
use mathlib.Core.Bool.{Bool, beq}
use mathlib.Core.List.{List}
use mathlib.Core.Logic.{◌↔◌}
use mathlib.Core.Path.{◌≡◌, ap, ◌∙◌}
use lib.ListN.{get_or}
use Rattle.meaning.specs.Code.{HasBit, HasFlag, TrueIn}
use Rattle.meaning.specs.Table.{Side, Dir, down, up, row_at, go_row}
use Rattle.table.specs.Decides.{Decides}
use Rattle.table.specs.Rows.{dir_of, table_in}
use Rattle.table.specs.declared.Row.{Row}
use Rattle.table.specs.declared.Row.TheVariants.{No, Go}
use Rattle.table.proofs.Decides.{alike, same_as}
use Rattle.codes.specs.Fits.{FitsRow, Flagged}
use Rattle.codes.specs.Layout.{Looking}
use Rattle.codes.specs.Parts.{bit_by}
use Rattle.codes.specs.Sights.{Sees}
use Rattle.codes.proofs.Fits.{fits_forth, fits_back, flagged}
use Rattle.codes.proofs.Looking.{look_is, look_bit}

module _ {rows : List Row} {look : List ℕ} {m : ℕ} (l : Looking rows look m) {j : ℕ} (h : j < m) {way named : ℕ} (cell : get_or rows (get_or look j 0) No ≡ Go way named) where
  looked : row_at (table_in rows) (get_or look j 0) ≡ go_row (dir_of way) named
  looked = look_is l j h (Go way named) cell

  facing : {d : Dir} → dir_of way ≡ d → row_at (table_in rows) (get_or look j 0) ≡ go_row d named
  facing e = looked ∙ ap (λ (z : Dir). go_row z named) e

  -- what is kept of a code tells the truth of the row named
  seen : {code sight : ℕ} {b : Bool} → Sees (table_in rows) look m code sight → b ≡ bit_by sight j → Decides b (TrueIn (table_in rows) code named)
  seen s e = rw e (s.named j named (dir_of way) h looked)

  module _ {s : Side} {t u : ℕ} {a b : Bool} where
    pub fits_down : {other : ℕ} → dir_of way ≡ down s → a ≡ bit_by t j → b ≡ bit_by other j → Sees (table_in rows) look m u other → Decides (beq a b) (FitsRow (table_in rows) s t u (get_or look j 0))
    fits_down e q r w = same_as (fits_forth _ _ _ _ _ (facing e)) (alike _ _ (look_bit l j h t q) (seen w r))

    pub fits_up : {own : ℕ} → dir_of way ≡ up s → a ≡ bit_by u j → b ≡ bit_by own j → Sees (table_in rows) look m t own → Decides (beq a b) (FitsRow (table_in rows) s t u (get_or look j 0))
    fits_up e q r w = same_as (fits_back _ _ _ _ _ (facing e)) (alike _ _ (look_bit l j h u q) (seen w r))

  pub asks : (code : ℕ) → (HasBit (table_in rows) code (get_or look j 0) → HasFlag (table_in rows) code (dir_of way)) ↔ Flagged (table_in rows) code (get_or look j 0)
  asks code = flagged (table_in rows) code (get_or look j 0) looked
