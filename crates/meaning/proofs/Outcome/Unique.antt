-- An accepted table has no second outcome: the verdict, its numbers and every place below C are settled by what is said of trees.
use Prim.Native.Nat.{ℕ, zero, suc, ◌<◌, ◌≤◌}
use native.Mathlib.Omega.{arith}
use mathlib.Core.Path.{◌≡◌, refl, sym, ◌∙◌, subst}
use Rattle.meaning.specs.Code.{codes}
use Rattle.meaning.specs.Outcome.{Slices, recorded, Met, at_top, onward, UsedIs, met, not_met, Searched, Sat, Unsat, Verdict, sat, unsat, Outcome, is_sat, is_unsat, SameBelow, SamePlaces}
use Rattle.meaning.specs.Table.{Side, Table}
use Rattle.meaning.proofs.Rounds.Places.{round_unique, neighbour_earlier, neighbour_unique}

-- The slices of a search up to the same round.
module _ {rows : Table} {last : ℕ} {x y : Slices} (f : Searched rows last x) (g : Searched rows last y) where
  rounds_same : SameBelow (codes rows) x.round y.round
  rounds_same c l = round_unique (f.rounds c l) (g.rounds c l)

  neighbours_same : (s : Side) → SameBelow (codes rows) (recorded x s) (recorded y s)
  neighbours_same s c l = neighbour_unique rounds_same l (f.neighbours s c l) (g.neighbours s c l)

  -- what is met is a code, and met by the other slices too
  pub carry : {top c : ℕ} → top < codes rows → Met x top c → (c < codes rows) × Met y top c
  carry l at_top = (l, at_top)
  carry {top} l (onward {c = c} s m h) =
      let z = carry l m in
      let e = neighbours_same s c z.0 in
      ((neighbour_earlier (f.neighbours s c z.0) h).0, subst (λ (w : ℕ). Met y top w) (sym e) (onward s z.1 (λ k. h (e ∙ k))))

used_unique : {x y : Slices} {top c a b : ℕ} → (Met x top c → Met y top c) → (Met y top c → Met x top c) → UsedIs x top c a → UsedIs y top c b → a ≡ b
used_unique f g (met m) (met n) = refl
used_unique f g (met m) (not_met n) = absurd (n (f m))
used_unique f g (not_met m) (met n) = absurd (m (g n))
used_unique f g (not_met m) (not_met n) = refl

module _ {rows : Table} {x y : Slices} where
  same_places : {last : ℕ} → Searched rows last x → Searched rows last y → SameBelow (codes rows) x.used y.used → SamePlaces (codes rows) x y
  same_places f g u = record { same_round = rounds_same f g; same_neighbours = neighbours_same f g; same_used = u }

  at_height : {h top top' : ℕ} → Sat rows h top x → Sat rows h top' y → (top ≡ top') × SamePlaces (codes rows) x y
  at_height {h} {top} {top'} a b =
      let f = a.searched in
      let g = b.searched in
      let e : top ≡ top' = omega (
        arith,
        a.smallest_good top' b.is_code b.good (rounds_same f g top' b.is_code ∙ b.in_round),
        b.smallest_good top a.is_code a.good (rounds_same g f top a.is_code ∙ a.in_round),
      ) in
      (e, same_places f g (λ c l. used_unique (λ m. (carry f g a.is_code m).1) (λ m. (carry g f a.is_code m).1) (a.used_is c l) (rw (← e) at (b.used_is c l))))

  sat_unique : {h h' top top' : ℕ} → Sat rows h top x → Sat rows h' top' y → (sat h top ≡ sat h' top') × SamePlaces (codes rows) x y
  sat_unique {h} {h'} {top} {top'} a b =
      let e : h ≡ h' = omega (arith, a.least b.shown b.satisfies, b.least a.shown a.satisfies, a.high, b.high) in
      let z = at_height a (subst (λ (k : ℕ). Sat rows k top' y) (sym e) b) in
      let q = z.0 in
      (cc, z.1)

module _ {rows : Table} {x y : Slices} where
  no_more : {r r' : ℕ} → Unsat rows r x → Unsat rows r' y → r ≤ r'
  no_more {r = zero} a b = omega arith
  no_more {r = suc r} a b = let z = a.each_round (suc r) (omega arith) (omega arith) in b.no_round_more z.0 (suc r) z.2

module _ {rows : Table} {x y : Slices} where
  unsat_unique : {r r' : ℕ} → Unsat rows r x → Unsat rows r' y → (unsat r ≡ unsat r') × SamePlaces (codes rows) x y
  unsat_unique {r} {r'} a b =
      let e : r ≡ r' = omega (arith, no_more a b, no_more b a) in
      let g = subst (λ (k : ℕ). Searched rows k y) (sym e) b.searched in
      (cc, same_places a.searched g (λ c l. a.unused c l ∙ sym (b.unused c l)))

  pub outcome_unique : {v w : Verdict} → Outcome rows v x → Outcome rows w y → (v ≡ w) × SamePlaces (codes rows) x y
  outcome_unique (is_sat a) (is_sat b) = sat_unique a b
  outcome_unique (is_sat a) (is_unsat b) = absurd (b.none_satisfies a.shown a.satisfies)
  outcome_unique (is_unsat a) (is_sat b) = absurd (a.none_satisfies b.shown b.satisfies)
  outcome_unique (is_unsat a) (is_unsat b) = unsat_unique a b
