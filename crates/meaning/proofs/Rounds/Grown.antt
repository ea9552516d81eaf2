-- What first and next unfold from an entered code is a marked tree of it, as high as the code's round: a recorded neighbour, which is the smallest
-- code and not that of the lowest round, is still of an earlier round.
use Prim.Native.Nat.{ℕ, zero, suc, ◌<◌, ◌≤◌}
use native.Mathlib.Omega.{arith}
use mathlib.Core.Option.{Option, none, some}
use lib.ListN.{get_or}
use Rattle.meaning.specs.Code.{codes, name_in}
use Rattle.meaning.specs.Marked.{Fits, Marked, no_mark, mark}
use Rattle.meaning.specs.Outcome.{Slices, recorded, NeighbourIs, smallest, no_child, left_out, Unfolds, nowhere, there, Searched}
use Rattle.meaning.specs.Table.{Side, first, next, Table, size, size_limit}
use Rattle.meaning.specs.Theorems.{Grown}
use Rattle.meaning.specs.Tree.{Tree, nothing, node, height}
use Rattle.meaning.proofs.Codes.Absent.{never}
use Rattle.meaning.proofs.Codes.Names.{counted_self, name_lt}
use Rattle.meaning.proofs.Rounds.Places.{was_entered}
use Rattle.meaning.proofs.Rounds.Smallest.{smallest_code}

module _ {rows : Table} (room : size rows ≤ size_limit) {last : ℕ} {x : Slices} (found : Searched rows last x) where
  record Kid (s : Side) (c v : ℕ) : Type 0 where
    tree : Tree
    code : Option ℕ
    unfolds : Unfolds rows x v tree
    fits : Fits rows s c code
    marked : Marked rows tree code
    low : height tree < get_or x.round c 0

  kid : (n : ℕ) (s : Side) (c v : ℕ) → NeighbourIs rows x.round s c v → 0 < get_or x.round c 0 → get_or x.round c 0 ≤ suc n
      → ((u : ℕ) → u < codes rows → 0 < get_or x.round u 0 → get_or x.round u 0 ≤ n → Grown rows x u) → Kid s c v
  kid n s c v (smallest {u} e t l) p h f = let y = f u e.0 e.1 (omega (arith, e.2)) in record { tree = y.tree; code = some u; unfolds = y.unfolds; fits = t; marked = y.marked; low = omega (arith, y.high, e.2) }
  kid n s c v (no_child k) p h f = record { tree = nothing; code = none; unfolds = nowhere; fits = k; marked = no_mark; low = p }
  kid n s c v (left_out k) p h f = absurd (omega arith)

  unfold_from : (n c : ℕ) → c < codes rows → 0 < get_or x.round c 0 → get_or x.round c 0 ≤ n → Grown rows x c
  unfold_from zero c l p h = absurd (omega arith)
  unfold_from (suc n) c l p h =
      let on : (s : Side) → Kid s c (get_or (recorded x s) c 0) = λ s. kid n s c (get_or (recorded x s) c 0) (found.neighbours s c l) p h (λ u b q k. unfold_from n u b q k) in
      let a = on first in
      let b = on next in
      let w = (was_entered (found.rounds c l) p).0 in
      let q = (smallest_code w).1 in
      let t = node (name_in rows c) a.tree b.tree in
      let k : Marked rows t (some c) = mark (counted_self rows (name_in rows c) (name_lt rows c l)) q a.fits a.marked b.fits b.marked in
      record {
        tree = t;
        unfolds = there (never rows room c l q) a.unfolds b.unfolds;
        marked = k;
        high = omega (arith, a.low, b.low, w.least t k);
      }

  pub grown : (c : ℕ) → c < codes rows → 0 < get_or x.round c 0 → Grown rows x c
  grown c l p = unfold_from (get_or x.round c 0) c l p (omega arith)
