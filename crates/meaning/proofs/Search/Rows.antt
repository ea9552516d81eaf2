-- A test of every row says what it says of each: and a test of the `go` rows what it says of each `go` row.
use Prim.Native.Nat.{ℕ, zero, suc, ◌+◌, ◌<◌, ◌≤◌}
use native.Mathlib.Omega.{arith}
use native.Mathlib.Decide.{dec_lt}
use native.Mathlib.Nat.{add-zero}
use mathlib.Core.Bool.{Bool}
use mathlib.Core.List.{List, [], ◌∷◌}
use mathlib.Core.Logic.{◌↔◌}
use mathlib.Core.Path.{◌≡◌, refl, ◌∙◌, subst}
use lib.ListN.{length, get_or-eq_default}
use Rattle.meaning.specs.Table.{Dir, Table, Row, row_at, yes_row, no_row, is_row, isnot_row, any_row, all_row, go_row, stop_row}
use Rattle.meaning.proofs.Search.Model.{all_rows, on_go}
use Rattle.meaning.proofs.Tests.{Is, and_iff}

module _ (f : ℕ → Row → Bool) where
  all_to : (k : ℕ) (rs : List Row) → Is (all_rows f k rs) → (i : ℕ) → i < length rs → Is (f (k + i) (row_at rs i))
  all_to k [] h i l = absurd (omega arith)
  all_to k (r ∷ rs) h zero l = rw add-zero ((and_iff (f k r) (all_rows f (suc k) rs)).0 h).0
  all_to k (r ∷ rs) h (suc i) l = subst (λ (z : ℕ). Is (f z (row_at rs i))) (omega arith) (all_to (suc k) rs ((and_iff (f k r) (all_rows f (suc k) rs)).0 h).1 i (omega arith))

  all_from : (k : ℕ) (rs : List Row) → ((i : ℕ) → i < length rs → Is (f (k + i) (row_at rs i))) → Is (all_rows f k rs)
  all_from k [] h = refl
  all_from k (r ∷ rs) h =
      (and_iff (f k r) (all_rows f (suc k) rs)).1
      (rw add-zero at (h 0 (omega arith)), all_from (suc k) rs (λ i l. subst (λ (z : ℕ). Is (f z (row_at rs i))) (omega arith) (h (suc i) (omega arith))))

  -- beyond the last row stands `no`, which has to pass too
  pub every_to : (rows : Table) → ((i : ℕ) → Is (f i no_row)) → Is (all_rows f 0 rows) → (i : ℕ) (r : Row) → row_at rows i ≡ r → Is (f i r)
  every_to rows n h i r e = subst (λ (z : Row). Is (f i z)) e (at (dec_lt i (length rows)))
    where
      at : Dec (i < length rows) → Is (f i (row_at rows i))
      at (yes l) = subst (λ (z : ℕ). Is (f z (row_at rows i))) (omega arith) (all_to 0 rows h i l)
      at (no l) = let k : length rows ≤ i = omega arith in rw (get_or-eq_default rows no_row k) (n i)

  pub every_from : (rows : Table) → ((i : ℕ) (r : Row) → row_at rows i ≡ r → Is (f i r)) → Is (all_rows f 0 rows)
  every_from rows h = all_from 0 rows (λ i l. subst (λ (z : ℕ). Is (f z (row_at rows i))) (omega arith) (h i (row_at rows i) refl))

pub every_go : (rows : Table) (f : ℕ → Dir → ℕ → Bool) → Is (all_rows (λ i r. on_go (f i) r) 0 rows) ↔ ((i j : ℕ) (d : Dir) → row_at rows i ≡ go_row d j → Is (f i d j))
every_go rows f = (
  λ h i j d e. every_to (λ i r. on_go (f i) r) rows (λ i. refl) h i (go_row d j) e,
  λ h. every_from (λ i r. on_go (f i) r) rows (λ i r e. on i r (λ j d q. h i j d (e ∙ q))),
)
  where
    on : (i : ℕ) (r : Row) → ((j : ℕ) (d : Dir) → r ≡ go_row d j → Is (f i d j)) → Is (on_go (f i) r)
    on i yes_row h = refl
    on i no_row h = refl
    on i (is_row n) h = refl
    on i (isnot_row n) h = refl
    on i (any_row j k) h = refl
    on i (all_row j k) h = refl
    on i (go_row d j) h = h j d refl
    on i (stop_row d) h = refl
