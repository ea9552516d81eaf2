-- An accepted table has an outcome, and its verdict is the one that the computed search finds.
use Prim.Native.Nat.{ℕ, suc, ◌*◌, ◌<◌, ◌≤◌}
use native.Mathlib.Omega.{arith}
use native.Mathlib.Decide.{dec_lt, ℕ_discrete}
use mathlib.Core.Option.{Option, some}
use mathlib.Core.Path.{◌≡◌, refl}
use lib.ListN.{get_or}
use Rattle.meaning.specs.Code.{codes, Good}
use Rattle.meaning.specs.Marked.{Smallest, Within, Enters}
use Rattle.meaning.specs.Outcome.{Accepted, Slices, RoundIs, entered, not_entered, Verdict, sat, unsat, Outcome, is_sat, is_unsat}
use Rattle.meaning.specs.Table.{Table, size}
use Rattle.meaning.proofs.Outcome.Bound.{bound}
use Rattle.meaning.proofs.Outcome.Conclude.{round_of, conclude_sat, conclude_unsat}
use Rattle.meaning.proofs.Outcome.Filled.{used, unused}
use Rattle.meaning.proofs.Outcome.Finds.{Each, NoneGood, Finds, finds_sat, finds_unsat, too_many, finds}
use Rattle.meaning.proofs.Rounds.Places.{was_entered}
use Rattle.meaning.proofs.Rounds.Smallest.{first_smallest, smallest_within, smallest_code, enters_smallest, within_code}
use Rattle.meaning.proofs.Search.Model.{search}

-- an outcome with the verdict v
pub record Reached (rows : Table) (v : Verdict) : Type 0 where
  pub slices : Slices
  pub outcome : Outcome rows v slices

module _ {rows : Table} (a : Accepted rows) where
  reach_sat : (h top : ℕ) → Within rows (suc h) top → Good rows top → ((u : ℕ) → Within rows (suc h) u → Good rows u → top ≤ u) → NoneGood rows h → Reached rows (sat (suc h) top)
  reach_sat h top w g least none_before =
      let l = (within_code (suc h) top w).0 in
      let y = used a.in_range a.loop_free (suc h) top l in
      let s : Smallest rows top (suc h) = first_smallest (suc h) top w (λ j k v. none_before.at j top (omega arith) v g) in
      record {
        slices = y.0;
        outcome = is_sat (conclude_sat a y.0 (suc h) top y.1 (omega arith) l g (round_of y.1 s (omega arith))
            (λ c b k e. least c (smallest_within (suc h) (was_entered (y.1.rounds c b) (omega arith)).0 (omega arith)) k)
            (λ c b k p. lowest c k (get_or y.0.round c 0) (was_entered (y.1.rounds c b) p).0 (dec_lt h (get_or y.0.round c 0)))
            y.2);
      }
    where
      lowest : (c : ℕ) → Good rows c → (k : ℕ) → Smallest rows c k → Dec (h < k) → suc h ≤ k
      lowest c g k x (yes l) = l
      lowest c g k x (no l) = absurd (none_before.at k c (omega arith) (smallest_within k x (omega arith)) g)

  reach_unsat : (r : ℕ) → Each rows r → NoneGood rows r → ((c : ℕ) → Enters rows (suc r) c → ⊥) → Reached rows (unsat r)
  reach_unsat r each none_good none-next =
      let y = unused a.in_range a.loop_free r in
      record {
        slices = y.0;
        outcome = is_unsat (conclude_unsat a y.0 r y.1
            (record { rounds = λ c l. same c (y.1.rounds c l); neighbours = y.1.neighbours })
            (λ c l p g. let x = was_entered (y.1.rounds c l) p in none_good.at r c (omega arith) (smallest_within r x.0 x.1) g)
            (λ k p l. let x = each.at k p l in let s = (enters_smallest k x.0).0 x.1 in (x.0, (smallest_code s).0, round_of y.1 s l))
            y.2);
      }
    where
      -- the next round would leave the slice as it is
      same : (c : ℕ) {k : ℕ} → RoundIs rows r c k → RoundIs rows (suc r) c k
      same c (entered x l) = entered x (omega arith)
      same c (not_entered f) = not_entered (λ k x. over k x (f k x) (ℕ_discrete k (suc r)))
        where
          over : (k : ℕ) → Smallest rows c k → r < k → Dec (k ≡ suc r) → suc r < k
          over k x l (yes e) = absurd (none-next c ((enters_smallest (suc r) c).1 (rw e at x)))
          over k x l (no e) = omega arith

  -- there are fewer rounds than codes
  not_many : Each rows (suc (codes rows)) → ⊥
  unfolding codes
  not_many f =
      let x = f.at (suc (codes rows)) (omega arith) (omega arith) in
      let b : suc (codes rows) ≤ 12 * size rows = bound a.in_range a.loop_free ((enters_smallest (suc (codes rows)) x.0).0 x.1) in
      omega arith

  pub reached : (v : Verdict) × (search rows ≡ some v) × Reached rows v
  reached = at (search rows) refl (finds a.in_range a.loop_free a.some_row)
    where
      at : (o : Option Verdict) → search rows ≡ o → Finds rows (suc (codes rows)) o → (v : Verdict) × (search rows ≡ some v) × Reached rows v
      at o e (finds_sat {h} {top} w g l n) = (sat (suc h) top, e, reach_sat h top w g l n)
      at o e (finds_unsat {r} f n l) = (unsat r, e, reach_unsat r f n l)
      at o e (too_many f) = absurd (not_many f)
