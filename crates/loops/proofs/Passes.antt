-- Parts of a pass, one after the other.
use Prim.Native.Nat.{ℕ, ◌+◌, ◌<◌, ◌≤◌}
use native.Mathlib.Omega.{arith}
use mathlib.Core.Bool.{Bool, true, false, ◌||◌}
use mathlib.Core.List.{List}
use mathlib.Core.Path.{◌≡◌, refl, sym, ◌∙◌, subst}
use borrow.Author.Count.{below_more}
use lib.ListN.{length}
use Rattle.meaning.specs.Table.{Table}
use Rattle.meaning.proofs.Tests.{false≢true}
use Rattle.loops.specs.Closing.{pairs, Settled, RowsDone, Before, AllDone, Passed}

-- nothing new
pub passed_none : {Through : List (List Bool) → Type 0} (m : List (List Bool)) → Through m → Passed Through m m false
passed_none m t = record { grown = λ e. false≢true e; still = λ e. refl; through = λ e. t }

-- one new pair
pub passed_one : {Through : List (List Bool) → Type 0} (m n : List (List Bool)) → pairs n ≡ pairs m + 1 → Passed Through m n true
passed_one m n c = record { grown = λ e. omega arith; still = λ e. false≢true (sym e); through = λ e. false≢true (sym e) }

passed_as : {A B : List (List Bool) → Type 0} (m n : List (List Bool)) (x : Bool) → (A n → B n) → Passed A m n x → Passed B m n x
passed_as m n x f a = record { grown = a.grown; still = a.still; through = λ e. f (a.through e) }

passed_then : {A B C : List (List Bool) → Type 0} (l m n : List (List Bool)) (x y : Bool) → (A n → B n → C n) → Passed A l m x → Passed B m n y → Passed C l n (x || y)
passed_then l m n true true f a b = record { grown = λ e. omega (arith, a.grown refl, b.grown refl); still = λ e. false≢true (sym e); through = λ e. false≢true (sym e) }
passed_then l m n true false f a b = record { grown = λ e. rw (b.still refl) (a.grown refl); still = λ e. false≢true (sym e); through = λ e. false≢true (sym e) }
passed_then l m n false true f a b = record { grown = λ e. rw (a.still refl) at (b.grown refl); still = λ e. false≢true (sym e); through = λ e. false≢true (sym e) }
passed_then {A} l m n false false f a b = record {
  grown = λ e. false≢true e;
  still = λ e. b.still refl ∙ a.still refl;
  through = λ e. f (subst A (sym (b.still refl)) (a.through refl)) (b.through refl);
}

module _ (rows : Table) where
  pub passed_first : (m : List (List Bool)) → Passed (RowsDone rows 0) m m false
  passed_first m = passed_none m (λ i h. absurd (omega arith))

  -- the pairs of a row, one after the other
  module _ (i : ℕ) where
    pub row_first : (l m : List (List Bool)) (x : Bool) → Passed (RowsDone rows i) l m x → Passed (Before rows i 0) l m x
    row_first l m x a = passed_as l m x (λ t. record { rows_done = t; row_settled = λ j h. absurd (omega arith) }) a

    pub row_next : (j : ℕ) (l m n : List (List Bool)) (x y : Bool) → Passed (Before rows i j) l m x → Passed (Settled rows i j) m n y → Passed (Before rows i (j + 1)) l n (x || y)
    row_next j l m n x y a b =
        passed_then l m n x y (λ s t. record { rows_done = s.rows_done; row_settled = below_more (λ k. Settled rows i k n) j s.row_settled t }) a b

    pub row_last : (j : ℕ) (l m : List (List Bool)) (x : Bool) → length rows ≤ j → Passed (Before rows i j) l m x → Passed (RowsDone rows (i + 1)) l m x
    row_last j l m x h a =
        passed_as l m x (λ t. below_more (λ k. (j : ℕ) → j < length rows → Settled rows k j m) i t.rows_done (λ k g. t.row_settled k (omega arith))) a

  pub passed_last : (i : ℕ) (l m : List (List Bool)) (x : Bool) → length rows ≤ i → Passed (RowsDone rows i) l m x → Passed (AllDone rows) l m x
  passed_last i l m x h a = passed_as l m x (λ t. record { all = λ k g. t k (omega arith) }) a
