-- The names and the look rows of a table, one row more at a time.
use Prim.Native.Nat.{ℕ, zero, suc, ◌+◌, ◌<◌, ◌≤◌, max}
use native.Mathlib.Omega.{arith}
use native.Mathlib.Numerals.{add-one}
use mathlib.Core.Bool.{cond, true, false}
use mathlib.Core.List.{List, [], ◌∷◌, ◌++◌}
use mathlib.Core.Path.{◌≡◌, refl, ap}
use lib.ListN.{length, get_or, take, length-map}
use Rattle.std.proofs.lemmas.List.Recursion.{is_sum_by}
use Rattle.std.proofs.lemmas.List.{map_push}
use Rattle.std.specs.Prelude.{count_by}
use lib.Seq.{take-suc, length-take-le}
use Rattle.meaning.specs.Table.{Table, Row, row_at, no_row, names, looks, mentioned, look}
use Rattle.table.specs.Rows.{meant, table_in}
use Rattle.table.specs.declared.Row as T
use Rattle.table.specs.declared.Row.TheVariants.{Yes, No, Is, Isnot, Any, All, Go, Stop}
use Rattle.counts.specs.Counts.{is_look}

pub table_long : (rows : List T.Row) → length (table_in rows) ≡ length rows
table_long rows = simp length-map

-- the row that a cell holds
pub row_at-table_in : (rows : List T.Row) (d : T.Row) (i : ℕ) → i < length rows → row_at (table_in rows) i ≡ meant (get_or rows i d)
row_at-table_in [] d i h = absurd (omega arith)
row_at-table_in (r ∷ rows) d zero h = refl
row_at-table_in (r ∷ rows) d (suc i) h = row_at-table_in rows d i (omega arith)

-- beyond the last row there is nothing but `no`
pub row_there : (rows : Table) (i : ℕ) → (row_at rows i ≡ no_row → ⊥) → i < length rows
row_there [] i h = absurd (h refl)
row_there (r ∷ rows) zero h = omega arith
row_there (r ∷ rows) (suc i) h = omega (arith, row_there rows i h)

pub looks_snoc : (rows : Table) (r : Row) → looks (rows ++ (r ∷ [])) ≡ looks rows + look r
unfolding looks
looks_snoc [] r = omega arith
looks_snoc (x ∷ rows) r = omega (arith, looks_snoc rows r)

pub names_snoc : (rows : Table) (r : Row) → names (rows ++ (r ∷ [])) ≡ max (names rows) (mentioned r)
unfolding names
names_snoc [] r = omega arith
names_snoc (x ∷ rows) r = omega (arith, names_snoc rows r)

pub names_push : (rows : List T.Row) (r : T.Row) → names (table_in (rows ++ (r ∷ []))) ≡ max (names (table_in rows)) (mentioned (meant r))
names_push rows r = rw (map_push meant rows r) (names_snoc (table_in rows) (meant r))

pub rows_passed : (rows : List T.Row) (i : ℕ) → i ≤ length rows → length (take i (table_in rows)) ≡ i
rows_passed rows i h = length-take-le i (table_in rows) (simp length-map h)

-- a look row counts one, and no other row counts
pub look_is : (r : T.Row) → look (meant r) ≡ cond (is_look r) 1 0
look_is Yes = refl
look_is No = refl
look_is (Is n) = refl
look_is (Isnot n) = refl
look_is (Any i j) = refl
look_is (All i j) = refl
look_is (Go d i) = refl
look_is (Stop d) = refl

module _ (rows : List T.Row) (d : T.Row) (i : ℕ) (inside : i < length rows) where
  pub table_next : take (i + 1) (table_in rows) ≡ take i (table_in rows) ++ (meant (get_or rows i d) ∷ [])
  table_next =
      let l : i < length (table_in rows) = simp length-map inside in
      rw (add-one, take-suc (table_in rows) i no_row, row_at-table_in rows d i inside)

  pub looks_next : looks (take (i + 1) (table_in rows)) ≡ looks (take i (table_in rows)) + look (meant (get_or rows i d))
  looks_next = rw table_next (looks_snoc (take i (table_in rows)) (meant (get_or rows i d)))

  pub looks_more : true ≡ is_look (get_or rows i d) → looks (take (i + 1) (table_in rows)) ≡ looks (take i (table_in rows)) + 1
  looks_more e = let one = look_is (get_or rows i d) in rw looks_next (rw (one, ← e))

  pub looks_kept : false ≡ is_look (get_or rows i d) → looks (take (i + 1) (table_in rows)) ≡ looks (take i (table_in rows))
  looks_kept e = let none = look_is (get_or rows i d) in omega (arith, looks_next, rw (← e) at none)

pub looks_counted : (rows : List T.Row) → looks (table_in rows) ≡ count_by is_look rows
unfolding looks
looks_counted rows =
    is_sum_by (λ (xs : List T.Row). looks (table_in xs)) (λ (r : T.Row). cond (is_look r) 1 0) refl (λ r xs. ap (λ (n : ℕ). n + looks (table_in xs)) (look_is r)) rows
