-- Demand 1: each refusal exactly in its stated case.
use Prim.Native.Nat.{ℕ, ◌<◌, ◌≤◌}
use native.Mathlib.Omega.{arith}
use mathlib.Core.List.{List}
use mathlib.Core.Logic.{◌⊎◌, inl, inr}
use mathlib.Core.Path.{◌≡◌, sym, subst}
use Rattle.meaning.specs.Outcome.{Slices, Verdict, sat, unsat}
use Rattle.intake.proofs.Theorems.{one_answer}
use Rattle.solver.specs.Demands.{Due, by_text, by_room, Demand1}
use Rattle.solver.specs.Solved.{Reply, Numbers, Says, numbered, short, answered, Replies, not_accepted, accepted, Solved}
use Rattle.solver.specs.declared.Answer.{Answer}
use Rattle.solver.proofs.Replying.{of_refusal, of_table, without_room}

-- how a call ends: with a refusal that is due, or with a verdict
data Ends (text : List ℕ) (old new : Slices) (a : Answer) : Type 0 where
  refuses : {n p : ℕ} → Due text old n p → Numbers a 0 0 0 n p → new ≡ old → Ends text old new a
  answers : (v : Verdict) → Says a (numbered v) → Ends text old new a

record Refusing (text : List ℕ) (old new : Slices) (a : Answer) : Type 0 where
  due : Due text old a.refusal a.place
  others : (a.height ≡ 0) × (a.top ≡ 0)
  untouched : new ≡ old

module _ {text : List ℕ} {old : Slices} where
  due_number : {n p : ℕ} → Due text old n p → (0 < n) × (n ≤ 8)
  due_number {n} {p} (by_text l) = let z = (one_answer text).small n p l in (z.0, omega (arith, z.1))
  due_number (by_room l k) = (omega arith, omega arith)

  due_at : {n n' p p' : ℕ} → n ≡ n' → p ≡ p' → Due text old n p → Due text old n' p'
  due_at {n' = n'} {p = p} e f d = subst (λ (k : ℕ). Due text old n' k) f (subst (λ (k : ℕ). Due text old k p) e d)

  module _ {new : Slices} {a : Answer} where
    ends_by : {r : Reply} → Replies text old new r → Says a r → Ends text old new a
    ends_by (not_accepted l e q) s = refuses (by_text l) (subst (Says a) e s) q
    ends_by (accepted l (short k e q)) s = refuses (by_room l k) (subst (Says a) e s) q
    ends_by (accepted l (answered m x)) s = answers x.verdict (subst (Says a) x.numbers s)

    ends : Ends text old new a → (a.verdict ≡ 0) ⊎ ((a.verdict ≡ 1) ⊎ (a.verdict ≡ 2))
    ends (refuses d s q) = inl s.verdict_is
    ends (answers (sat h top) s) = inr (inl s.verdict_is)
    ends (answers (unsat r) s) = inr (inr s.verdict_is)

    refusing : Ends text old new a → a.verdict ≡ 0 → Refusing text old new a
    refusing (refuses d s q) z = record { due = due_at (sym s.refusal_is) (sym s.place_is) d; others = (s.height_is, s.top_is); untouched = q }
    refusing (answers (sat h top) s) z = absurd (omega (arith, s.verdict_is))
    refusing (answers (unsat r) s) z = absurd (omega (arith, s.verdict_is))

    due_says : {n p : ℕ} {r : Reply} → Due text old n p → Replies text old new r → Says a r → Numbers a 0 0 0 n p
    due_says (by_text l) x s = subst (Says a) (of_refusal l x).0 s
    due_says (by_room l k) x s = subst (Says a) (without_room k (of_table l x)).0 s

    pub first : Solved text old new a → Demand1 text old new a
    first s =
        let e = ends_by s.replies s.says in
        record {
          ends = ends e;
          exactly = λ n p. (
            λ d. let x = due_says d s.replies s.says in (x.verdict_is, x.refusal_is, x.place_is),
            λ z. due_at z.1 z.2 (refusing e z.0).due,
          );
          numbered = λ z. due_number (refusing e z).due;
          others = λ z. (refusing e z).others;
          untouched = λ z. (refusing e z).untouched;
        }
