-- What is said of rows is said of the table that they stand for.
use Prim.Native.Nat.{ℕ, zero, suc, ◌+◌, ◌<◌, ◌≤◌}
use native.Mathlib.Omega.{arith}
use mathlib.Core.Bool.{Bool, false, cond}
use mathlib.Core.List.{List, [], ◌∷◌}
use mathlib.Core.Path.{◌≡◌, refl, sym, ◌∙◌}
use lib.ListN.{length, get_or, take}
use Rattle.std.specs.Prelude.{position, count_by}
use Rattle.std.specs.List.{list_any, range_with_len, enumerate_from}
use Rattle.meaning.specs.Table as M
use Rattle.meaning.specs.Table.{row_at}
use Rattle.table.specs.Rows.{meant, table_in}
use Rattle.table.specs.declared.Row as T
use Rattle.table.specs.declared.Row.TheVariants.{Yes}
use Rattle.counts.proofs.Laws.{table_long, row_at-table_in}
use Rattle.std.proofs.lemmas.List.{get_or_past}
use Rattle.std.proofs.lemmas.List.Sums.{sum_by-cons}
use Rattle.loops.specs.Arranging.{reach}
use Rattle.loops.specs.Closing.{marked, turns, wraps}
use Rattle.loops.specs.Missing.{misses, first_missing}
use Rattle.loops.proofs.Search.{position_map}

pub row_told : (rows : List T.Row) (i : ℕ) → i < length rows → row_at (table_in rows) i ≡ meant (get_or rows i Yes)
row_told rows i h = row_at-table_in rows Yes i h

-- what a test says of a row, it says of the table's row
pub told_of_row : (rows : List T.Row) (i : ℕ) → i < length rows → (test : M.Row → Bool) {said b : Bool} → said ≡ test (meant (get_or rows i Yes)) → said ≡ b → test (row_at (table_in rows) i) ≡ b
told_of_row rows i inside test e f = rw (row_told rows i inside) (sym e ∙ f)

pub missing_told : (rows : List T.Row) → position (λ r. misses (length rows) (meant r)) rows ≡ first_missing (table_in rows)
missing_told rows = sym (position_map (misses (length (table_in rows))) meant rows ∙ rw (table_long rows))

-- a test of each item and its place is one of the table's row at that place
any_placed : (f : ℕ → M.Row → Bool) (at : ℕ → M.Row) (u : ℕ) (rows : List T.Row) → ((i v : ℕ) → v ≡ u + i → i < length rows → at v ≡ meant (get_or rows i Yes)) → list_any (λ p. f p.0 (meant p.1)) (enumerate_from u rows) ≡ list_any (λ l. f l (at l)) (range_with_len u (length rows))
any_placed f at u [] h = refl
any_placed f at u (r ∷ rows) h =
    rw (h 0 u (omega arith) (omega arith), any_placed f at (u + 1) rows (λ i v e l. h (suc i) v (omega arith) (omega arith)))

pub wraps_told : (rows : List T.Row) (m : List (List Bool)) (d : M.Dir) (k j : ℕ) → list_any (λ p. turns m d k j p.0 (meant p.1)) (enumerate_from 0 rows) ≡ wraps (table_in rows) m (M.go_row d k) j
wraps_told rows m d k j =
    rw (table_long rows) (any_placed (turns m d k j) (row_at (table_in rows)) 0 rows (λ i v e l. let q : v ≡ i = omega arith in rw q (row_told rows i l)))

-- how many of a row's first n tests hold, where it has as many
count_placed : (n u : ℕ) (l : List Bool) → n ≤ length l → (at : ℕ → Bool) → ((i v : ℕ) → v ≡ u + i → i < n → at v ≡ get_or l i false) → count_by (λ b. b) (take n l) ≡ count_by at (range_with_len u n)
count_placed zero u l g at h = refl
count_placed (suc n) u [] g at h = absurd (omega arith)
count_placed (suc n) u (b ∷ l) g at h =
    let p = sum_by-cons (λ (k : Bool). cond k 1 0) b (take n l) in
    let q = sum_by-cons (λ (k : ℕ). cond (at k) 1 0) u (range_with_len (u + 1) n) in
    let e : ◌≡◌ {A = ℕ} (cond (at u) 1 0) (cond b 1 0) = rw (h 0 u (omega arith) (omega arith)) in
    let r = count_placed n (u + 1) l (omega arith) at (λ i v w k. h (suc i) v (omega arith) (omega arith)) in
    omega (arith, p, q, e, r)

pub reach_told : (n : ℕ) (m : List (List Bool)) (i : ℕ) → n ≤ length (get_or m i []) → count_by (λ b. b) (take n (get_or m i [])) ≡ reach n m i
reach_told n m i g = count_placed n 0 (get_or m i []) g (marked m i) (λ k v w h. let q : v ≡ k = omega arith in rw q)

pub reach_none : (n : ℕ) (m : List (List Bool)) (i : ℕ) → length m ≤ i → reach n m i ≡ 0
reach_none n m i g = none n 0
  where
    none : (k u : ℕ) → count_by (marked m i) (range_with_len u k) ≡ 0
    none zero u = refl
    none (suc k) u =
        let p = sum_by-cons (λ (j : ℕ). cond (marked m i j) 1 0) u (range_with_len (u + 1) k) in
        let e : ◌≡◌ {A = ℕ} (cond (marked m i u) 1 0) 0 = rw (get_or_past m i [] g) in
        omega (arith, p, e, none k (u + 1))
