-- The rank of a row is at most the number of rows, and falls along each reference of a table without a loop.
use Prim.Native.Nat.{ℕ, zero, suc, ◌<◌, ◌≤◌}
use native.Mathlib.Omega.{arith}
use mathlib.Core.Path.{◌≡◌, refl, ap}
use mathlib.Core.List.{List}
use lib.ListN.{length}
use Rattle.meaning.specs.Loop.{LoopFree}
use Rattle.meaning.specs.Table.{Table, Row, row_at, yes_row, no_row, is_row, isnot_row, any_row, all_row, go_row, stop_row, Refers, any_left, any_right, all_left, all_right, InRange}
use Rattle.meaning.proofs.Search.Rank.{flat, shallow}
use Rattle.meaning.proofs.Solution.Finite.{Shallow}
use Rattle.counts.specs.Order.{Ordered}
use Rattle.counts.specs.Rank.{deeper, depth, rank_of}
use Rattle.counts.proofs.Laws.{row_there}

-- what `deeper` says of a row depends on the rows that it refers to alone, and is greater than what is said of each
module _ (g : ℕ → ℕ) where
  under : (k : ℕ) (r : Row) → ((i j : ℕ) → (r ≡ any_row i j) → (g i < k) × (g j < k)) → ((i j : ℕ) → (r ≡ all_row i j) → (g i < k) × (g j < k)) → deeper g r ≤ k
  under k yes_row a b = omega arith
  under k no_row a b = omega arith
  under k (is_row n) a b = omega arith
  under k (isnot_row n) a b = omega arith
  under k (any_row i j) a b = omega (arith, a i j refl)
  under k (all_row i j) a b = omega (arith, b i j refl)
  under k (go_row d i) a b = omega arith
  under k (stop_row d) a b = omega arith

  same : (h : ℕ → ℕ) (r : Row) → ((i : ℕ) → g i < deeper g r → h i ≡ g i) → deeper h r ≡ deeper g r
  same h yes_row e = refl
  same h no_row e = refl
  same h (is_row n) e = refl
  same h (isnot_row n) e = refl
  same h (any_row i j) e = rw (e i (omega arith), e j (omega arith))
  same h (all_row i j) e = rw (e i (omega arith), e j (omega arith))
  same h (go_row d i) e = refl
  same h (stop_row d) e = refl

  above : {rows : Table} (i : ℕ) {j : ℕ} → Refers rows i j → g j < deeper g (row_at rows i)
  above i (any_left e) = rw e (omega arith)
  above i (any_right e) = rw e (omega arith)
  above i (all_left e) = rw e (omega arith)
  above i (all_right e) = rw e (omega arith)

pub refers_there : {rows : Table} (i : ℕ) {j : ℕ} → Refers rows i j → i < length rows
refers_there {rows} i r = row_there rows i (λ n. absurd (omega (arith, above (λ k. 0) i r, ap (deeper (λ k. 0)) n)))

module _ (rows : Table) where
  -- no depth is more than the most there can be, and no rank is more than there are rows
  depth_most : (most i : ℕ) → depth rows most i ≤ most
  unfolding depth
  depth_most zero i = omega arith
  depth_most (suc most) i =
      under (depth rows most) (suc most) (row_at rows i)
      (λ j k e. (omega (arith, depth_most most j), omega (arith, depth_most most k)))
      (λ j k e. (omega (arith, depth_most most j), omega (arith, depth_most most k)))

  pub rank_most : (i : ℕ) → rank_of rows i ≤ length rows
  unfolding rank_of
  rank_most i = depth_most (length rows) i

  -- where no chain of references has k steps, no depth is k
  depth_shallow : (k most i : ℕ) → Shallow (flat rows) k i → depth rows most i < k
  unfolding depth
  depth_shallow zero most i s = absurd s
  depth_shallow (suc k) zero i s = omega arith
  depth_shallow (suc k) (suc most) i s =
      let l : deeper (depth rows most) (row_at rows i) ≤ k = under (depth rows most) k (row_at rows i)
      (λ j l e. (depth_shallow k most j (s j (any_left e)), depth_shallow k most l (s l (any_right e))))
      (λ j l e. (depth_shallow k most j (s j (all_left e)), depth_shallow k most l (s l (all_right e)))) in
      omega arith

  -- a depth that is not the most there can be stays as it is
  depth_stays : (most i : ℕ) → depth rows most i < most → depth rows (suc most) i ≡ depth rows most i
  unfolding depth
  depth_stays zero i h = absurd (omega arith)
  depth_stays (suc most) i h = same (depth rows most) (depth rows (suc most)) (row_at rows i) (λ j l. depth_stays most j (omega arith))

  -- where each depth is less than there are rows, it falls along each reference
  falls : ((i : ℕ) → i < length rows → depth rows (length rows) i < length rows) → (i j : ℕ) → Refers rows i j → rank_of rows j < rank_of rows i
  unfolding rank_of depth
  falls few i j r =
      let a : depth rows (length rows) j < depth rows (suc (length rows)) i = above (depth rows (length rows)) i r in
      omega (arith, depth_stays (length rows) i (few i (refers_there i r)))

  -- the falling number of what recurs through `any` and `all`
  pub rank_falls : InRange rows → LoopFree rows → (i j : ℕ) → Refers rows i j → rank_of rows j < rank_of rows i
  rank_falls range free = falls (λ i h. depth_shallow (length rows) (length rows) i (shallow range free i h))

  -- the same of a table whose rows have an order
  depth_placed : InRange rows → {order : List ℕ} (o : Ordered rows order) (most i : ℕ) → i < length rows → depth rows most i ≤ o.place i
  unfolding depth
  depth_placed range o zero i h = omega arith
  depth_placed range o (suc most) i h =
      under (depth rows most) (o.place i) (row_at rows i)
      (λ j l e. (step (λ k. depth_placed range o most k) j (any_left e), step (λ k. depth_placed range o most k) l (any_right e)))
      (λ j l e. (step (λ k. depth_placed range o most k) j (all_left e), step (λ k. depth_placed range o most k) l (all_right e)))
    where
      step : ((k : ℕ) → k < length rows → depth rows most k ≤ o.place k) → (j : ℕ) → Refers rows i j → depth rows most j < o.place i
      step f j r = omega (arith, f j (range.referred r), o.before i j r)

  pub rank_falls_in : InRange rows → {order : List ℕ} → Ordered rows order → (i j : ℕ) → Refers rows i j → rank_of rows j < rank_of rows i
  rank_falls_in range o = falls (λ i h. omega (arith, depth_placed range o (length rows) i h, o.there i h))
