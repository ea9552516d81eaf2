-- Names and codes: a counted name is below N, a name below N counts as itself, and the codes are the numbers whose name is below N.
use Prim.Native.Nat.{ℕ, ◌*◌, ◌^◌, ◌/◌, ◌%◌, ◌<◌}
use native.Mathlib.Omega.{arith}
use native.Mathlib.Decide.{ℕ_discrete, dec_lt}
use native.Mathlib.Nat.{div-lt_iff_lt-mul}
use mathlib.Core.List.{[], ◌∷◌}
use mathlib.Core.Logic.{ite, if_pos}
use mathlib.Core.Path.{◌≡◌, sym}
use lib.Pow.{pow_pos}
use Rattle.meaning.specs.Code.{codes, name_in, worth, HasFlag}
use Rattle.meaning.specs.Table.{Dir, Table, names, counted, looks}

pub names_pos : (rows : Table) → 0 < names rows
unfolding names
names_pos [] = omega arith
names_pos (r ∷ rows) = omega (arith, names_pos rows)

pub counted_lt : (rows : Table) (n : ℕ) → counted rows n < names rows
unfolding counted
counted_lt rows n = at (dec_lt n (names rows))
  where
    at : (d : Dec (n < names rows)) → ite d n 0 < names rows
    at (yes h) = h
    at (no h) = names_pos rows

pub counted_self : (rows : Table) (n : ℕ) → n < names rows → n ≡ counted rows n
unfolding counted
counted_self rows n h = sym (if_pos (dec_lt n (names rows)) h n 0)

module _ (rows : Table) where
  pub name_lt : (c : ℕ) → c < codes rows → name_in rows c < names rows
  unfolding codes name_in
  name_lt c h = let k : c / 2 ^ looks rows < names rows * 16 = (div-lt_iff_lt-mul (pow_pos (looks rows))).1 h in omega arith

  pub code_lt : (c : ℕ) → name_in rows c < names rows → c < codes rows
  unfolding codes name_in
  code_lt c h = let k : c / 2 ^ looks rows < names rows * 16 = omega arith in (div-lt_iff_lt-mul (pow_pos (looks rows))).0 k

  pub flag_dec : (c : ℕ) (d : Dir) → Dec (HasFlag rows c d)
  unfolding HasFlag
  flag_dec c d = ℕ_discrete (c / 2 ^ looks rows / worth d % 2) 1
