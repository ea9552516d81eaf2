-- Demands 2 and 3, from the outcome and the numbers that say it.
use Prim.Native.Nat.{ℕ, ◌<◌, ◌≤◌}
use native.Mathlib.Omega.{arith}
use mathlib.Core.Logic.{◌↔◌}
use mathlib.Core.Path.{◌≡◌, sym, ◌∙◌, ap, subst}
use lib.ListN.{get_or}
use Rattle.meaning.specs.Table.{Table}
use Rattle.meaning.specs.Tree.{height}
use Rattle.meaning.specs.Code.{codes}
use Rattle.meaning.specs.Marked.{Smallest}
use Rattle.meaning.specs.Outcome.{Slices, RoundIs, Searched, Verdict, Sat, Unsat, Outcome, is_sat, is_unsat}
use Rattle.meaning.proofs.Outcome.Conclude.{round_of}
use Rattle.meaning.proofs.Rounds.Places.{was_entered}
use Rattle.solver.specs.Demands.{Demand2, Demand3}
use Rattle.solver.specs.Solved.{Numbers, Says, numbered}
use Rattle.solver.specs.declared.Answer.{Answer}
use Rattle.solver.proofs.Shown.{unfolds_unique}

-- the round slice, with both verdicts
rounds : {rows : Table} {last : ℕ} {x : Slices} → Searched rows last x
    → (c k : ℕ) → c < codes rows → 0 < k → (get_or x.round c 0 ≡ k) ↔ (Smallest rows c k × (k ≤ last))
rounds {rows} {last} y c k l p = (
  λ z. was_entered (subst (λ (j : ℕ). RoundIs rows last c j) z (y.rounds c l)) p,
  λ z. round_of y z.0 z.1,
)

module _ {rows : Table} {new : Slices} {a : Answer} where
  module _ {h top : ℕ} (x : Sat rows h top new) (n : Numbers a 1 h top 0 0) where
    sat_second : Demand2 rows new a
    sat_second = record {
      sat_exactly = (λ e. (x.shown, x.satisfies), λ t. n.verdict_is);
      shown = λ e. (x.shown, rw n.top_is x.unfolds, x.satisfies);
      unsat_exactly = (λ e. absurd (omega (arith, n.verdict_is)), λ f. absurd (f x.shown x.satisfies));
    }

    sat_third : Demand3 rows new a
    sat_third = record {
      of_shown = λ t e u. ap height (unfolds_unique (rw n.top_is at u) x.unfolds) ∙ x.high ∙ sym n.height_is;
      least = λ t e s. rw n.height_is (x.least t s);
      rounds = rw n.height_is (rounds x.searched);
      counted = λ k e. absurd (omega (arith, n.verdict_is));
      bounded = rw n.height_is x.bounded;
    }

  module _ {r : ℕ} (x : Unsat rows r new) (n : Numbers a 2 r 0 0 0) where
    unsat_second : Demand2 rows new a
    unsat_second = record {
      sat_exactly = (λ e. absurd (omega (arith, n.verdict_is)), λ t. absurd (x.none_satisfies t.0 t.1));
      shown = λ e. absurd (omega (arith, n.verdict_is));
      unsat_exactly = (λ e. x.none_satisfies, λ f. n.verdict_is);
    }

    unsat_third : Demand3 rows new a
    unsat_third = record {
      of_shown = λ t e. absurd (omega (arith, n.verdict_is));
      least = λ t e. absurd (omega (arith, n.verdict_is));
      rounds = rw n.height_is (rounds x.searched);
      counted = λ k e p. rw n.height_is (
        λ l. let z = x.each_round k p l in (z.0, z.2),
        λ z. x.no_round_more z.0 k z.1,
      );
      bounded = rw n.height_is x.bounded;
    }

  pub second : {v : Verdict} → Outcome rows v new → Says a (numbered v) → Demand2 rows new a
  second (is_sat x) n = sat_second x n
  second (is_unsat x) n = unsat_second x n

  pub third : {v : Verdict} → Outcome rows v new → Says a (numbered v) → Demand3 rows new a
  third (is_sat x) n = sat_third x n
  third (is_unsat x) n = unsat_third x n
