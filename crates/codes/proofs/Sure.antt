-- What is merely so of a row's truth is so: in a table whose rows have an order, the truth of each row can be told.
use Prim.Native.Nat.{ℕ, zero, suc, ◌<◌}
use native.Mathlib.Omega.{arith}
use mathlib.Core.Bool.{Bool, true, false}
use mathlib.Core.List.{List}
use mathlib.Core.Logic.{∥∥₁_elim, ∥∥₁_map}
use mathlib.Core.Path.{◌≡◌, refl, sym}
use Rattle.std.proofs.Props.{props}
use Rattle.meaning.specs.Code.{name_in, TrueIn}
use Rattle.meaning.specs.Table.{Table, Row, row_at, asked, yes_row, no_row, is_row, isnot_row, any_row, all_row, go_row, stop_row, Refers, any_left, any_right, all_left, all_right, InRange}
use Rattle.table.specs.Decides.{Decides}
use Rattle.table.proofs.Decides.{always, never, negated, is_number, either, both}
use Rattle.counts.specs.Order.{Ordered}
use Rattle.counts.specs.Rank.{rank_of}
use Rattle.counts.proofs.Rank.{rank_falls_in}
use Rattle.codes.specs.Sights.{Sees}
use Rattle.codes.specs.Truths.{AllWorked}
use Rattle.codes.proofs.Apart.{flag_decides, bit_decides}
use Rattle.codes.proofs.Settled.{settled}

-- two tests of the same
same_test : {P : Type 0} {b c : Bool} → Decides b P → Decides c P → b ≡ c
same_test {b = true} {c = true} p q = refl
same_test {b = true} {c = false} p q = sym (q.complete (p.sound refl))
same_test {b = false} {c = true} p q = p.complete (q.sound refl)
same_test {b = false} {c = false} p q = refl

sure : {P : Type 0} {b c : Bool} → Decides c P → ∥ Decides b P ∥₁ → Decides b P
sure {b = b} {c = c} d m = let e : b ≡ c = ∥∥₁_elim m (Prim.hlevel props) (λ p. same_test p d) in rw e d

module _ {rows : Table} {order : List ℕ} (range : InRange rows) (ordered : ∥ Ordered rows order ∥₁) (code : ℕ) where
  falls : (i j : ℕ) → Refers rows i j → rank_of rows j < rank_of rows i
  falls i j r = ∥∥₁_elim ordered (Prim.hlevel props) (λ o. rank_falls_in rows range o i j r)

  Told : ℕ → Type 0
  Told i = (b : Bool) × Decides b (TrueIn rows code i)

  told : (k i : ℕ) → rank_of rows i < k → Told i
  unfolding Told
  told zero i h = absurd (omega arith)
  told (suc k) i h = by_row i (λ j r. told k j (omega (arith, falls i j r))) (row_at rows i) refl
    where
      by_row : (i : ℕ) → ((j : ℕ) → Refers rows i j → Told j) → (r : Row) → row_at rows i ≡ r → Told i
      by_row i next yes_row e = (true, settled rows code i e (always tt))
      by_row i next no_row e = (false, settled rows code i e (never (λ h. h)))
      by_row i next (is_row n) e = (_, settled rows code i e (is_number (name_in rows code) n))
      by_row i next (isnot_row n) e = (_, settled rows code i e (negated _ (is_number (name_in rows code) n)))
      by_row i next (any_row j l) e = (_, settled rows code i e (either _ _ (next j (any_left e)).1 (next l (any_right e)).1))
      by_row i next (all_row j l) e = (_, settled rows code i e (both _ _ (next j (all_left e)).1 (next l (all_right e)).1))
      by_row i next (go_row d j) e = (_, settled rows code i e (bit_decides rows code i _ refl refl))
      by_row i next (stop_row d) e = (_, settled rows code i e (negated _ (flag_decides rows code _ refl d refl)))

  pub surely : (i : ℕ) {b : Bool} → ∥ Decides b (TrueIn rows code i) ∥₁ → Decides b (TrueIn rows code i)
  unfolding Told
  surely i m = sure (told (suc (rank_of rows i)) i (omega arith)).1 m

  pub all_worked : {truths : List Bool} → ∥ AllWorked rows code truths ∥₁ → AllWorked rows code truths
  all_worked m = record { each = λ i h. surely i (∥∥₁_map m (λ w. w.each i h)) }

  pub sees_surely : {look : List ℕ} {m sight : ℕ} → ∥ Sees rows look m code sight ∥₁ → Sees rows look m code sight
  sees_surely s = record {
    named = λ j i d h e. surely i (∥∥₁_map s (λ t. t.named j i d h e));
    question = surely (asked rows) (∥∥₁_map s (λ t. t.question));
  }
