-- Flags, bits and the truth of a row in a code are decided by computing. The references of `any` and `all` end before there are as many as rows.
use Prim.Native.Nat.{ℕ, zero, suc, ◌^◌, ◌/◌, ◌%◌, ◌<◌}
use mathlib.Core.Bool.{Bool}
use mathlib.Core.Logic.{◌↔◌, ◌⊎◌, inl, inr}
use mathlib.Core.Path.{◌≡◌, refl}
use borrow.Author.Tests.{eqb-true, eq-eqb}
use lib.Dec.{eqb}
use lib.ListN.{length, take}
use Rattle.meaning.specs.Code.{worth, name_in, HasFlag, HasBit, HoldsIn, in_yes, in_is, in_isnot, in_left, in_right, in_both, in_go, in_stop, TrueIn}
use Rattle.meaning.specs.Loop.{LoopFree}
use Rattle.meaning.specs.Table.{Dir, Table, Row, row_at, yes_row, no_row, is_row, isnot_row, any_row, all_row, go_row, stop_row, Refers, any_left, any_right, all_left, all_right, InRange, looks}
use Rattle.meaning.proofs.Search.Model.{flag_b, bit_b, eval_row, eval}
use Rattle.meaning.proofs.Search.Rank.{flat, shallow}
use Rattle.meaning.proofs.Tests.{Is, false≢true, or_iff, and_iff, not_iff, eqb_iff}
use Rattle.meaning.proofs.Solution.Finite.{Shallow}

module _ (rows : Table) where
  abbrev pub m : ℕ
  m = 2 ^ looks rows

  pub flag_iff : (c : ℕ) (d : Dir) → Is (flag_b m c d) ↔ HasFlag rows c d
  unfolding HasFlag
  flag_iff c d = eqb_iff (c / m / worth d % 2) 1

  pub bit_iff : (c i : ℕ) → Is (bit_b rows c i) ↔ HasBit rows c i
  unfolding HasBit
  bit_iff c i = eqb_iff (c / 2 ^ looks (take i rows) % 2) 1

  module _ (c : ℕ) (rec : ℕ → Bool) where
    row_to : (r : Row) (i : ℕ) → ((j : ℕ) → Refers rows i j → Is (rec j) ↔ TrueIn rows c j) → row_at rows i ≡ r → Is (eval_row rows m c rec i r) → HoldsIn rows c i r
    unfolding name_in
    row_to yes_row i f e h = in_yes
    row_to no_row i f e h = false≢true h
    row_to (is_row n) i f e h = in_is (eqb-true (c / m / 16) n h)
    row_to (isnot_row n) i f e h = in_isnot (λ k. (not_iff (eqb (c / m / 16) n)).0 h (eq-eqb (c / m / 16) n k))
    row_to (any_row j k) i f e h = at ((or_iff (rec j) (rec k)).0 h)
      where
        at : Is (rec j) ⊎ Is (rec k) → HoldsIn rows c i (any_row j k)
        at (inl x) = in_left ((f j (any_left e)).0 x)
        at (inr x) = in_right ((f k (any_right e)).0 x)
    row_to (all_row j k) i f e h = let x = (and_iff (rec j) (rec k)).0 h in in_both ((f j (all_left e)).0 x.0) ((f k (all_right e)).0 x.1)
    row_to (go_row d j) i f e h = in_go ((bit_iff c i).0 h)
    row_to (stop_row d) i f e h = in_stop (λ k. (not_iff (flag_b m c d)).0 h ((flag_iff c d).1 k))

    row_from : (r : Row) (i : ℕ) → ((j : ℕ) → Refers rows i j → Is (rec j) ↔ TrueIn rows c j) → row_at rows i ≡ r → HoldsIn rows c i r → Is (eval_row rows m c rec i r)
    unfolding name_in
    row_from r i f e in_yes = refl
    row_from r i f e (in_is {n = n} h) = eq-eqb (c / m / 16) n h
    row_from r i f e (in_isnot {n = n} h) = (not_iff (eqb (c / m / 16) n)).1 (λ k. h (eqb-true (c / m / 16) n k))
    row_from r i f e (in_left {j = j} {k = k} h) = (or_iff (rec j) (rec k)).1 (inl ((f j (any_left e)).1 h))
    row_from r i f e (in_right {j = j} {k = k} h) = (or_iff (rec j) (rec k)).1 (inr ((f k (any_right e)).1 h))
    row_from r i f e (in_both {j = j} {k = k} h g) = (and_iff (rec j) (rec k)).1 ((f j (all_left e)).1 h, (f k (all_right e)).1 g)
    row_from r i f e (in_go h) = (bit_iff c i).1 h
    row_from r i f e (in_stop {d = d} h) = (not_iff (flag_b m c d)).1 (λ k. h ((flag_iff c d).0 k))

  pub eval_iff : (k c i : ℕ) → Shallow (flat rows) k i → Is (eval rows m c k i) ↔ TrueIn rows c i
  eval_iff zero c i s = absurd s
  eval_iff (suc k) c i s =
      let f : (j : ℕ) → Refers rows i j → Is (eval rows m c k j) ↔ TrueIn rows c j = λ j r. eval_iff k c j (s j r) in
      (row_to c (eval rows m c k) (row_at rows i) i f refl, row_from c (eval rows m c k) (row_at rows i) i f refl)

pub truth_iff : {rows : Table} → InRange rows → LoopFree rows → (c i : ℕ) → i < length rows → Is (eval rows (m rows) c (length rows) i) ↔ TrueIn rows c i
truth_iff {rows} range free c i l = eval_iff rows (length rows) c i (shallow range free i l)
