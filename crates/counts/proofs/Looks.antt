-- The look rows of a table and their bits: each `go` row has a place below m, no two have the same, and both lists grow with a row.
use Prim.Native.Nat.{ℕ, zero, suc, ◌+◌, ◌<◌, ◌≤◌}
use native.Mathlib.Decide.{dec_lt}
use native.Mathlib.Omega.{arith}
use mathlib.Core.List.{[], ◌∷◌}
use mathlib.Core.Path.{◌≡◌, refl, ap}
use lib.ListN.{length, take}
use lib.Seq.{take-take, get_or-take}
use Rattle.meaning.specs.Table.{Dir, Table, no_row, go_row, row_at, looks, look}
use Rattle.counts.specs.Counts.{LookRow}
use Rattle.counts.proofs.Laws.{row_there}

-- and a `go` row counts
pub go_look : (rows : Table) (i : ℕ) {d : Dir} {j : ℕ} → row_at rows i ≡ go_row d j → look (row_at rows i) ≡ 1
go_look rows i e = rw e

-- the look rows before a row and the row itself are among all of them
pub looks_at : (rows : Table) (i : ℕ) → looks (take i rows) + look (row_at rows i) ≤ looks rows
unfolding looks
looks_at [] zero = omega arith
looks_at [] (suc i) = omega arith
looks_at (x ∷ rows) zero = omega arith
looks_at (x ∷ rows) (suc i) = omega (arith, looks_at rows i)

pub look_inside : (rows : Table) (i : ℕ) → look (row_at rows i) ≡ 1 → i < length rows
look_inside rows i e = row_there rows i (λ n. omega (arith, ap look n))

-- every `go` row is the look row of its place, which is below m: what holds for every place holds for every `go` row
pub look-below : (rows : Table) (i : ℕ) → look (row_at rows i) ≡ 1 → looks (take i rows) < looks rows
look-below rows i e = omega (arith, looks_at rows i)

pub look_row_lem : (rows : Table) (i : ℕ) → look (row_at rows i) ≡ 1 → LookRow rows (looks (take i rows)) i
look_row_lem rows i e = record { there = look_inside rows i e; looking = e; place = refl }

-- a later row has a greater place
pub look_before : (rows : Table) (i k : ℕ) → i < k → look (row_at rows i) ≡ 1 → looks (take i rows) < looks (take k rows)
look_before rows i k h e =
    let f : look (row_at (take k rows) i) ≡ 1 = rw (get_or-take k rows i no_row h) e in
    rw (take-take i k rows (omega arith)) at (look-below (take k rows) i f)

pub look_same : (rows : Table) (j i k : ℕ) → LookRow rows j i → LookRow rows j k → i ≡ k
look_same rows j i k a b = at (dec_lt i k) (dec_lt k i)
  where
    at : Dec (i < k) → Dec (k < i) → i ≡ k
    at (yes h) g = absurd (omega (arith, look_before rows i k h a.looking, a.place, b.place))
    at (no h) (yes g) = absurd (omega (arith, look_before rows k i g b.looking, a.place, b.place))
    at (no h) (no g) = omega arith
