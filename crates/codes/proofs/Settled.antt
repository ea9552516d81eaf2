-- What each kind of row says in a code, and so what settles it.
use Prim.Native.Nat.{ℕ}
use mathlib.Core.Bool.{Bool}
use mathlib.Core.Logic.{◌⊎◌, inl, inr}
use mathlib.Core.Path.{◌≡◌}
use Rattle.meaning.specs.Code.{name_in, HasFlag, HasBit, HoldsIn, in_yes, in_is, in_isnot, in_left, in_right, in_both, in_go, in_stop, TrueIn}
use Rattle.meaning.specs.Table.{Table, Row, row_at, yes_row, no_row, is_row, isnot_row, any_row, all_row, go_row, stop_row}
use Rattle.table.specs.Decides.{Decides}
use Rattle.table.proofs.Decides.{same_as}

module _ (rows : Table) (code i : ℕ) where
  abbrev pub SaysIn : Row → Type 0
  SaysIn yes_row = Unit {0}
  SaysIn no_row = ⊥
  SaysIn (is_row n) = name_in rows code ≡ n
  SaysIn (isnot_row n) = name_in rows code ≡ n → ⊥
  SaysIn (any_row j k) = TrueIn rows code j ⊎ TrueIn rows code k
  SaysIn (all_row j k) = TrueIn rows code j × TrueIn rows code k
  SaysIn (go_row d j) = HasBit rows code i
  SaysIn (stop_row d) = HasFlag rows code d → ⊥

  said : (r : Row) → SaysIn r → HoldsIn rows code i r
  said yes_row h = in_yes
  said no_row h = absurd h
  said (is_row n) h = in_is h
  said (isnot_row n) h = in_isnot h
  said (any_row j k) (inl h) = in_left h
  said (any_row j k) (inr h) = in_right h
  said (all_row j k) h = in_both h.0 h.1
  said (go_row d j) h = in_go h
  said (stop_row d) h = in_stop h

  says : {r : Row} → HoldsIn rows code i r → SaysIn r
  says in_yes = tt
  says (in_is h) = h
  says (in_isnot h) = h
  says (in_left h) = inl h
  says (in_right h) = inr h
  says (in_both h k) = (h, k)
  says (in_go h) = h
  says (in_stop h) = h

  pub settled : {r : Row} {b : Bool} → row_at rows i ≡ r → Decides b (SaysIn r) → Decides b (TrueIn rows code i)
  settled {r} e d = rw e (same_as (said r, says) d)
