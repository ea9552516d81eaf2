-- An outcome speaks of no place from C on: slices that agree below C have the same.
use Prim.Native.Nat.{ℕ, ◌<◌}
use native.Mathlib.Omega.{arith}
use mathlib.Core.List.{List}
use mathlib.Core.Logic.{◌≢◌}
use mathlib.Core.Path.{sym, ◌∙◌, subst}
use lib.ListN.{get_or}
use Rattle.meaning.specs.Table.{Side, first, next, Table}
use Rattle.meaning.specs.Tree.{Tree}
use Rattle.meaning.specs.Code.{codes}
use Rattle.meaning.specs.Outcome.{Slices, recorded, absent, RoundIs, Earlier, NeighbourIs, smallest, no_child, left_out, Met, UsedIs, met, not_met, Unfolds, nowhere, there, Searched, Sat, Unsat, Verdict, Outcome, is_sat, is_unsat, SameBelow, SamePlaces}
use Rattle.meaning.proofs.Outcome.Unique.{carry}
use Rattle.meaning.proofs.Rounds.Places.{neighbour_earlier}

earlier : (rows : Table) (a b : List ℕ) → SameBelow (codes rows) a b → (c u : ℕ) → c < codes rows → Earlier rows a c u → Earlier rows b c u
earlier rows a b f c u l e = (e.0, omega (arith, f u e.0), omega (arith, f u e.0, f c l))

module _ {rows : Table} {a b : List ℕ} (f : SameBelow (codes rows) a b) where
  neighbour : {s : Side} {c u : ℕ} → c < codes rows → NeighbourIs rows a s c u → NeighbourIs rows b s c u
  neighbour {c = c} {u = u} l (smallest e t h) =
      smallest (earlier rows a b f c u l e) t (λ w k. h w (earlier rows b a (λ i j. sym (f i j)) c w l k))
  neighbour l (no_child k) = no_child k
  neighbour {c = c} l (left_out k) = left_out (sym (f c l) ∙ k)

used : {x y : Slices} {top c v : ℕ} → (Met x top c → Met y top c) → (Met y top c → Met x top c) → UsedIs x top c v → UsedIs y top c v
used f g (met m) = met (f m)
used f g (not_met m) = not_met (λ k. m (g k))

module _ {rows : Table} {x y : Slices} (e : SamePlaces (codes rows) x y) where
  searched : {last : ℕ} → Searched rows last x → Searched rows last y
  searched {last} f = record {
    rounds = λ c l. subst (λ (v : ℕ). RoundIs rows last c v) (e.same_round c l) (f.rounds c l);
    neighbours = λ s c l. subst (λ (v : ℕ). NeighbourIs rows y.round s c v) (e.same_neighbours s c l) (neighbour e.same_round l (f.neighbours s c l));
  }

  -- what unfolds stays among the codes
  unfolds : {last c : ℕ} {t : Tree} → Searched rows last x → (c ≢ absent → c < codes rows) → Unfolds rows x c t → Unfolds rows y c t
  unfolds f i nowhere = nowhere
  unfolds f i (there {c = c} {a = p} {b = q} h a b) = there h (on first p (unfolds f (inside first) a)) (on next q (unfolds f (inside next) b))
    where
      inside : (s : Side) → get_or (recorded x s) c 0 ≢ absent → get_or (recorded x s) c 0 < codes rows
      inside s k = (neighbour_earlier (f.neighbours s c (i h)) k).0

      on : (s : Side) (t : Tree) → Unfolds rows y (get_or (recorded x s) c 0) t → Unfolds rows y (get_or (recorded y s) c 0) t
      on s t u = subst (λ (v : ℕ). Unfolds rows y v t) (e.same_neighbours s c (i h)) u

  sat_carried : {h top : ℕ} → Sat rows h top x → Sat rows h top y
  sat_carried {h} {top} o =
      let f = o.searched in
      let g = searched f in
      record {
        searched = g;
        bounded = o.bounded;
        shown = o.shown;
        unfolds = unfolds f (λ k. o.is_code) o.unfolds;
        satisfies = o.satisfies;
        high = o.high;
        least = o.least;
        is_code = o.is_code;
        good = o.good;
        in_round = sym (e.same_round top o.is_code) ∙ o.in_round;
        smallest_good = λ c l k r. o.smallest_good c l k (e.same_round c l ∙ r);
        used_is = λ c l. subst (λ (v : ℕ). UsedIs y top c v) (e.same_used c l) (used (λ m. (carry f g o.is_code m).1) (λ m. (carry g f o.is_code m).1) (o.used_is c l));
      }

  unsat_carried : {r : ℕ} → Unsat rows r x → Unsat rows r y
  unsat_carried o = record {
    searched = searched o.searched;
    bounded = o.bounded;
    none_satisfies = o.none_satisfies;
    each_round = o.each_round;
    no_round_more = o.no_round_more;
    unused = λ c l. sym (e.same_used c l) ∙ o.unused c l;
  }

  pub outcome_carried : {v : Verdict} → Outcome rows v x → Outcome rows v y
  outcome_carried (is_sat o) = is_sat (sat_carried o)
  outcome_carried (is_unsat o) = is_unsat (unsat_carried o)
