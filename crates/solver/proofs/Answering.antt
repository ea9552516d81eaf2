-- The parts of a call's answer, put together as the contracts want them.
use Prim.Native.Nat.{ℕ, ◌*◌, ◌^◌, ◌<◌, ◌≤◌, min}
use native.Mathlib.Omega.{arith}
use mathlib.Core.List.{List}
use native.Mathlib.Nat.{mul_right_comm}
use mathlib.Core.Path.{◌≡◌, refl, ◌∙◌, ap}
use lib.ListN.{length, length-map}
use Rattle.meaning.specs.Table.{first, next, Table, names, looks, size}
use Rattle.meaning.specs.Code.{codes}
use Rattle.meaning.proofs.Sides.{sides}
use Rattle.meaning.specs.Outcome.{Slices, Accepted}
use Rattle.table.specs.Rows.{table_in}
use Rattle.table.specs.declared.Row.{Row}
use Rattle.counts.specs.Counts.{LookRows}
use Rattle.counts.specs.Order.{Ordered}
use Rattle.codes.specs.Layout.{InOrder, Looking}
use Rattle.codes.proofs.LaidOut.{looking}
use Rattle.rounds.specs.Found.{verdict_of, Answered}
use Rattle.rounds.specs.Kept.{lent, held}
use Rattle.rounds.specs.declared.Found.{Found}
use Rattle.rounds.specs.declared.memory.Memory.{Memory}
use Rattle.solver.specs.Solved.{Room, numbered, Answers}

few_rows : (rows : List Row) → Accepted (table_in rows) → length rows ≤ 48
few_rows rows a = simp length-map at a.few_rows

module _ {rows : List Row} (a : Accepted (table_in rows)) where
  -- there is a step for each row
  pub in_order : {order : List ℕ} → length order ≡ 48 → Ordered (table_in rows) order → InOrder rows order
  in_order e o = let l = few_rows rows a in record { some = simp length-map at a.some_row; few = l; enough = omega arith; ordered = o }

  pub looks_found : {m : ℕ} {look : List ℕ} → (m ≡ looks (table_in rows)) × (m ≤ length rows) → length look ≡ 48 → LookRows (table_in rows) look → Looking rows look m
  looks_found e f found = let l = few_rows rows a in looking a e.0 (omega (arith, e.1)) found

-- the codes, as they are counted
pub counted : (n : ℕ) (rows : Table) → n ≡ size rows → n * 16 ≡ codes rows
unfolding codes
counted n rows e = ap (λ (z : ℕ). z * 16) e ∙ mul_right_comm (names rows) (2 ^ looks rows) 16

-- the shortest of the four slices tells whether there is room
module _ (n : ℕ) (rows : Table) {r f d u : List ℕ} (e : n ≡ size rows) where
  pub room_in : n * 16 ≤ min (min (min (length r) (length f)) (length d)) (length u) → Room (codes rows) (lent r f d u)
  room_in l = rw (← counted n rows e) (record { in_round = omega arith; in_recorded = sides _ (omega arith) (omega arith); in_used = omega arith })

  pub no_room_in : min (min (min (length r) (length f)) (length d)) (length u) < n * 16 → Room (codes rows) (lent r f d u) → ⊥
  no_room_in l m = let c = counted n rows e in omega (arith, m.in_round, m.in_recorded first, m.in_recorded next, m.in_used)

-- what the search answered, in the slices that were lent
pub finished : {rows : Table} {found : Found} {old : Slices} {r f n u : List ℕ} (m : Memory) → r ≡ m.round.now → f ≡ m.first.now → n ≡ m.next.now → u ≡ m.used.now
    → Answered rows found old (held m) → Answers rows old (lent r f n u) (numbered (verdict_of found))
finished {found = found} m a b d e x = rw (a, b, d, e) (record { verdict = verdict_of found; outcome = x.outcome; kept = x.kept; numbers = refl })
