-- The small proved table, by computing: one lemma from computed tests to `Right`, and one test of the eleven cases. Each goes with the pairs of
-- rows that a cancelling walk joins.
use Prim.Native.Nat.{ℕ, zero, suc}
use mathlib.Core.Bool.{Bool, true, false, ◌&&◌}
use mathlib.Core.List.{List, [], ◌∷◌}
use mathlib.Core.Option.{Option, none, some, some-injective}
use mathlib.Core.Path.{◌≡◌, refl, sym, ◌∙◌, subst}
use borrow.Author.Tests.{eqb-true}
use lib.Dec.{eqb}
use lib.ListN.{get_or}
use Rattle.meaning.specs.Cases.{Case, cases, Recorded, Right, AllRight}
use Rattle.meaning.specs.Code.{codes}
use Rattle.meaning.specs.Outcome.{Accepted, Slices, recorded, Sat, Verdict, sat, unsat, Outcome, is_sat, is_unsat}
use Rattle.meaning.specs.Table.{Side, Table, names, looks}
use Rattle.meaning.proofs.Cases.Accepts.{Pairs, accepts_b, accepted}
use Rattle.meaning.proofs.Outcome.Exists.{reached}
use Rattle.meaning.proofs.Outcome.Neighbours.{neighbour_is}
use Rattle.meaning.proofs.Outcome.Unique.{outcome_unique}
use Rattle.meaning.proofs.Rounds.Places.{neighbour_unique}
use Rattle.meaning.proofs.Search.Model.{neighbour_b, search}
use Rattle.meaning.proofs.Tests.{Is, false≢true, and_iff}
use Rattle.meaning.proofs.Search.Truth.{m}

-- The children that a case gives are the top's.
abbrev child_b : Table → ℕ → ℕ → Side × ℕ × ℕ → Bool
child_b rows k top l = eqb l.1 top && eqb (neighbour_b rows (m rows) k l.0 top) l.2

abbrev children_b : Table → Verdict → List (Side × ℕ × ℕ) → Bool
children_b rows v [] = true
children_b rows (sat (suc k) top) (l ∷ ls) = child_b rows k top l && children_b rows (sat (suc k) top) ls
children_b rows (sat zero top) (l ∷ ls) = false
children_b rows (unsat r) (l ∷ ls) = false

module _ {rows : Table} (a : Accepted rows) {x : Slices} where
  child_is : {k top : ℕ} → Sat rows (suc k) top x → (l : Side × ℕ × ℕ) → Is (child_b rows k top l) → get_or (recorded x l.0) l.1 0 ≡ l.2
  child_is {k} {top} y l h =
      let z = (and_iff (eqb l.1 top) (eqb (neighbour_b rows (m rows) k l.0 top) l.2)).0 h in
      let e : l.1 ≡ top = eqb-true l.1 top z.0 in
      let f = neighbour_unique (λ c b. refl) y.is_code (y.searched.neighbours l.0 top y.is_code) (neighbour_is a.in_range a.loop_free x.round y.searched.rounds l.0 k top y.is_code y.in_round) in
      subst (λ (c : ℕ). get_or (recorded x l.0) c 0 ≡ l.2) (sym e) (f ∙ eqb-true (neighbour_b rows (m rows) k l.0 top) l.2 z.1)

  children : {v : Verdict} (ls : List (Side × ℕ × ℕ)) → Outcome rows v x → Is (children_b rows v ls) → Recorded x ls
  children [] o h = tt
  children (l ∷ ls) (is_sat {h = zero} y) h = false≢true h
  children (l ∷ ls) (is_sat {h = suc k} {top = top} y) h =
      let z = (and_iff (child_b rows k top l) (children_b rows (sat (suc k) top) ls)).0 h in
      (child_is y l z.0, children ls (is_sat y) z.1)
  children (l ∷ ls) (is_unsat y) h = false≢true h

right : {c : Case} (L : Pairs) → Is (accepts_b c.rows L) → search c.rows ≡ some c.verdict → Is (children_b c.rows c.verdict c.children) → Right c
right {c} L h e k =
    let a = accepted c.rows L h in
    let r = reached a in
    record {
      accepted = a;
      settled = λ {v} {x} o.
          let p : v ≡ c.verdict = (outcome_unique o r.2.outcome).0 ∙ some-injective r.0 c.verdict (sym r.1 ∙ e) in
          (p, children a c.children (subst (λ (z : Verdict). Outcome c.rows z x) p o) k);
    }

-- The same test on a list of cases, each with its pairs.
abbrev answers_b : Option Verdict → Verdict → Bool
answers_b none v = false
answers_b (some (sat h t)) (sat k u) = eqb h k && eqb t u
answers_b (some (sat h t)) (unsat r) = false
answers_b (some (unsat r)) (sat k u) = false
answers_b (some (unsat r)) (unsat q) = eqb r q

answers : (o : Option Verdict) (v : Verdict) → Is (answers_b o v) → o ≡ some v
answers none v h = false≢true h
answers (some (sat h t)) (sat k u) e =
    let x = (and_iff (eqb h k) (eqb t u)).0 e in
    let p = eqb-true h k x.0 in
    let q = eqb-true t u x.1 in
    cc
answers (some (sat h t)) (unsat r) e = false≢true e
answers (some (unsat r)) (sat k u) e = false≢true e
answers (some (unsat r)) (unsat q) e = let p = eqb-true r q e in cc

abbrev right_b : Case → Pairs → Bool
right_b c L = accepts_b c.rows L && (answers_b (search c.rows) c.verdict && children_b c.rows c.verdict c.children)

abbrev all_b : List Case → List Pairs → Bool
all_b [] Ls = true
all_b (c ∷ cs) [] = false
all_b (c ∷ cs) (L ∷ Ls) = right_b c L && all_b cs Ls

each_right : (cs : List Case) (Ls : List Pairs) → Is (all_b cs Ls) → AllRight cs
each_right [] Ls h = tt
each_right (c ∷ cs) [] h = false≢true h
each_right (c ∷ cs) (L ∷ Ls) h =
    let x = (and_iff (right_b c L) (all_b cs Ls)).0 h in
    let a = answers_b (search c.rows) c.verdict in
    let b = children_b c.rows c.verdict c.children in
    let y = (and_iff (accepts_b c.rows L) (a && b)).0 x.0 in
    let z = (and_iff a b).0 y.1 in
    (right L y.0 (answers (search c.rows) c.verdict z.0) z.1, each_right cs Ls x.1)

pub all_right : AllRight cases
unfolding looks names codes
all_right =
    each_right cases
    ([] ∷ [] ∷ [] ∷ ((0, 1) ∷ (0, 2) ∷ []) ∷ [] ∷ [] ∷ ((0, 1) ∷ (0, 2) ∷ []) ∷ [] ∷ ((1, 2) ∷ (1, 3) ∷ (0, 4) ∷ []) ∷ ((0, 1) ∷ (0, 2) ∷ []) ∷ [] ∷ [])
    refl
