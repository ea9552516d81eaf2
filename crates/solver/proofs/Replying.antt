-- Which case of a reply holds is settled by the text and by the room: the laws of `Replies` and `Solves` on which the demands stand.
use Prim.Native.Nat.{ℕ, ◌≤◌}
use native.Mathlib.Omega.{arith}
use mathlib.Core.List.{List}
use mathlib.Core.Path.{◌≡◌, refl, subst}
use Rattle.meaning.specs.Table.{Table}
use Rattle.meaning.specs.Code.{codes}
use Rattle.meaning.specs.Outcome.{Slices, Verdict, sat, unsat}
use Rattle.table.specs.declared.Row.{Row}
use Rattle.reader.specs.Reading.{rows_read, refused}
use Rattle.intake.specs.Loading.{Loads, table}
use Rattle.intake.proofs.Theorems.{one_answer}
use Rattle.solver.specs.Solved.{Sat, Unsat, Refused, Reply, Says, answer_by, Room, numbered, Answers, Solves, short, answered, Replies, not_accepted, accepted, Solved}

-- a text has one reading, so no second way of being answered
module _ {text : List ℕ} {old new : Slices} {r : Reply} where
  pub of_refusal : {n p : ℕ} → Loads text (refused n p) → Replies text old new r → (r ≡ Refused n p) × (new ≡ old)
  of_refusal l (not_accepted k e q) = let z = (one_answer text).unique l k in (cc, q)
  of_refusal l (accepted k s) = absurd (let z = (one_answer text).unique l k in cc)

  pub of_table : {rows : List Row} → Loads text (rows_read rows) → Replies text old new r → Solves (table rows) old new r
  of_table l (not_accepted k e q) = absurd (let z = (one_answer text).unique l k in cc)
  of_table {rows} l (accepted {rows = given} k s) =
      let z : given ≡ rows = (let w = (one_answer text).unique k l in cc) in
      subst (λ (x : List Row). Solves (table x) old new r) z s

module _ {rows : Table} {old new : Slices} {r : Reply} where
  pub without_room : (Room (codes rows) old → ⊥) → Solves rows old new r → (r ≡ Refused 8 0) × (new ≡ old)
  without_room n (short k e q) = (e, q)
  without_room n (answered m a) = absurd (n m)

  pub with_room : Room (codes rows) old → Solves rows old new r → Answers rows old new r
  with_room m (short k e q) = absurd (k m)
  with_room m (answered _ a) = a

refuses_not : {n p : ℕ} (v : Verdict) → Refused n p ≡ numbered v → ⊥
refuses_not (sat h top) e = cc
refuses_not (unsat r) e = cc

-- a refusal's place is a row's, or 0
pub small_place : {text : List ℕ} {old new : Slices} {n p : ℕ} → Replies text old new (Refused n p) → p ≤ 48
small_place {text} {p = p} (not_accepted {n = m} {p = q} l e s) = let z = (one_answer text).small m q l in let f : q ≡ p = cc in omega (arith, z.2)
small_place {p = p} (accepted l (short k e s)) = let f : p ≡ 0 = cc in omega arith
small_place (accepted l (answered m a)) = absurd (refuses_not a.verdict a.numbers)

said_so : (r : Reply) → Says (answer_by r) r
said_so (Sat h t) = record { verdict_is = refl; height_is = refl; top_is = refl; refusal_is = refl; place_is = refl }
said_so (Unsat n) = record { verdict_is = refl; height_is = refl; top_is = refl; refusal_is = refl; place_is = refl }
said_so (Refused n p) = record { verdict_is = refl; height_is = refl; top_is = refl; refusal_is = refl; place_is = refl }

-- what is replied is an answer's, so that the demands speak of it
pub solved_by : {text : List ℕ} {old new : Slices} {r : Reply} → Replies text old new r → Solved text old new (answer_by r)
solved_by {r = r} p = record { reply = r; replies = p; says = said_so r }
