-- The parts of a code, taken apart over m, are those of a table with m look rows.
use Prim.Native.Nat.{ℕ, ◌^◌, ◌/◌, ◌%◌}
use mathlib.Core.Bool.{Bool, ◌&&◌}
use mathlib.Core.Path.{◌≡◌, refl}
use lib.ListN.{take}
use Rattle.meaning.specs.Code.{worth, name_in, HasFlag, HasBit}
use Rattle.meaning.specs.Table.{first, next, Dir, up, Table, looks}
use Rattle.table.specs.Decides.{Decides}
use Rattle.codes.specs.Parts.{name_by, flag_by, bit_by}
use Rattle.table.proofs.Decides.{is_number, both}

module _ (rows : Table) (code : ℕ) where
  pub name_is : (m : ℕ) → m ≡ looks rows → name_by m code ≡ name_in rows code
  unfolding name_in
  name_is m e = rw e

  pub flag_decides : (m : ℕ) → m ≡ looks rows → {b : Bool} (d : Dir) → b ≡ flag_by m code d → Decides b (HasFlag rows code d)
  unfolding HasFlag
  flag_decides m e d q = rw (q, e) (is_number (code / 2 ^ looks rows / worth d % 2) 1)

  pub bit_decides : (i place : ℕ) → place ≡ looks (take i rows) → {b : Bool} → b ≡ bit_by code place → Decides b (HasBit rows code i)
  unfolding HasBit
  bit_decides i place e q = rw (q, e) (is_number (code / 2 ^ looks (take i rows) % 2) 1)

-- the flags of the two ways up together
pub parents_decide : (rows : Table) (code m : ℕ) → m ≡ looks rows → {b : Bool}
    → b ≡ (flag_by m code (up first) && flag_by m code (up next)) → Decides b (HasFlag rows code (up first) × HasFlag rows code (up next))
parents_decide rows code m e q = rw q (both _ _ (flag_decides rows code m e (up first) refl) (flag_decides rows code m e (up next) refl))
