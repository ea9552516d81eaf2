-- A text and the memory lent leave one reply and one memory.
use Prim.Native.Nat.{ℕ}
use mathlib.Core.List.{List}
use mathlib.Core.Path.{◌≡◌, sym, ◌∙◌, ap}
use Rattle.meaning.specs.Table.{Table}
use Rattle.meaning.specs.Outcome.{Slices}
use Rattle.meaning.proofs.Outcome.Unique.{outcome_unique}
use Rattle.solver.specs.Demands.{SameNumbers}
use Rattle.solver.specs.Solved.{Refused, Reply, Sat, Unsat, Numbers, Says, numbered, Solves, short, answered, Replies, not_accepted, accepted}
use Rattle.solver.specs.declared.Answer.{Answer}
use Rattle.solver.proofs.Memory.{same_slices}
use Rattle.solver.proofs.Replying.{of_refusal, of_table, without_room, with_room}

module _ {old x y : Slices} {r q : Reply} where
  solves_unique : {rows : Table} → Solves rows old x r → Solves rows old y q → (r ≡ q) × (x ≡ y)
  solves_unique (short k e f) s = let z = without_room k s in (e ∙ sym z.0, f ∙ sym z.1)
  solves_unique (answered m w) s =
      let z = with_room m s in
      let u = outcome_unique w.outcome z.outcome in
      (w.numbers ∙ ap numbered u.0 ∙ sym z.numbers, same_slices u.1 w.kept z.kept)

  pub replies_unique : {text : List ℕ} → Replies text old x r → Replies text old y q → (r ≡ q) × (x ≡ y)
  replies_unique (not_accepted l e f) s = let z = of_refusal l s in (e ∙ sym z.0, f ∙ sym z.1)
  replies_unique (accepted l k) s = solves_unique k (of_table l s)

same : {a b : Answer} {v h t n p : ℕ} → Numbers a v h t n p → Numbers b v h t n p → SameNumbers a b
same x y = record {
  same_verdict = x.verdict_is ∙ sym y.verdict_is;
  same_height = x.height_is ∙ sym y.height_is;
  same_top = x.top_is ∙ sym y.top_is;
  same_refusal = x.refusal_is ∙ sym y.refusal_is;
  same_place = x.place_is ∙ sym y.place_is;
}

pub same_numbers : {a b : Answer} (r : Reply) → Says a r → Says b r → SameNumbers a b
same_numbers (Sat h top) x y = same x y
same_numbers (Unsat k) x y = same x y
same_numbers (Refused n p) x y = same x y
