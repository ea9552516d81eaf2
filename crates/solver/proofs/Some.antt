-- Each text with each memory has an answer: with room, the table's outcome laid over the memory lent.
use Prim.Native.Nat.{ℕ, ◌≤◌}
use native.Mathlib.Decide.{dec_le}
use mathlib.Core.List.{List}
use mathlib.Core.Path.{refl}
use lib.ListN.{length}
use Rattle.meaning.proofs.Sides.{sides}
use Rattle.meaning.specs.Table.{first, next, Table}
use Rattle.meaning.specs.Code.{codes}
use Rattle.meaning.specs.Outcome.{Slices, Accepted}
use Rattle.meaning.proofs.Theorems.{settled}
use Rattle.reader.specs.Reading.{Reading, rows_read, refused}
use Rattle.intake.specs.Loading.{Loads, table}
use Rattle.intake.proofs.Theorems.{one_answer}
use Rattle.solver.specs.Solved.{Refused, Reply, Sat, Unsat, Numbers, Says, Room, numbered, Solves, short, answered, Replies, not_accepted, accepted, Solved}
use Rattle.solver.specs.declared.Answer.{Answer}
use Rattle.solver.proofs.Carried.{outcome_carried}
use Rattle.solver.proofs.Laid.{lay_all}

room_dec : (n : ℕ) (x : Slices) → Dec (Room n x)
room_dec n x = at (dec_le n (length x.round)) (dec_le n (length x.firsts)) (dec_le n (length x.nexts)) (dec_le n (length x.used))
  where
    at : Dec (n ≤ length x.round) → Dec (n ≤ length x.firsts) → Dec (n ≤ length x.nexts) → Dec (n ≤ length x.used) → Dec (Room n x)
    at (yes r) (yes f) (yes e) (yes u) = yes (record { in_round = r; in_recorded = sides _ f e; in_used = u })
    at (no r) f e u = no (λ m. r m.in_round)
    at (yes r) (no f) e u = no (λ m. f (m.in_recorded first))
    at (yes r) (yes f) (no e) u = no (λ m. e (m.in_recorded next))
    at (yes r) (yes f) (yes e) (no u) = no (λ m. u m.in_used)

solves_some : {rows : Table} → Accepted rows → (old : Slices) → Dec (Room (codes rows) old) → (new : Slices) × (r : Reply) × Solves rows old new r
solves_some {rows} a old (yes m) =
    let o = settled a in
    let y = lay_all (codes rows) o.slices old m in
    (y.slices, numbered o.verdict, answered m (record { verdict = o.verdict; outcome = outcome_carried y.same o.outcome; kept = y.kept; numbers = refl }))
solves_some a old (no m) = (old, Refused 8 0, short m refl refl)

-- every reply can be said
say : (v h t n p : ℕ) → (a : Answer) × Numbers a v h t n p
say v h t n p = (
  record { verdict = v; height = h; top = t; refusal = n; place = p },
  record { verdict_is = refl; height_is = refl; top_is = refl; refusal_is = refl; place_is = refl },
)

says_some : (r : Reply) → (a : Answer) × Says a r
says_some (Sat h top) = say 1 h top 0 0
says_some (Unsat k) = say 2 k 0 0 0
says_some (Refused n p) = say 0 0 0 n p

module _ (text : List ℕ) (old : Slices) where
  replies_some : (x : Reading) → Loads text x → (new : Slices) × (r : Reply) × Replies text old new r
  replies_some (rows_read rows) l =
      let z = solves_some ((one_answer text).accepted rows l).0 old (room_dec (codes (table rows)) old) in
      (z.0, z.1, accepted l z.2)
  replies_some (refused n p) l = (old, Refused n p, not_accepted l refl refl)

  pub some_answer : (new : Slices) × (a : Answer) × Solved text old new a
  some_answer =
      let o = one_answer text in
      let z = replies_some o.answer o.loads in
      let w = says_some z.1 in
      (z.0, w.0, record { reply = z.1; replies = z.2; says = w.1 })
