-- Truth solves the rows; without a loop it is the only solution, and is decided. Both by recursion on what a row needs.
use Prim.Native.Nat.{ℕ, ◌<◌}
use native.Mathlib.Decide.{ℕ_discrete}
use mathlib.Core.Logic.Dec
use mathlib.Core.Logic.{inl, inr, ◌↔◌, ⊎_map}
use mathlib.Core.Option.{Option, none, some, none-ne-some, some-injective, some-ne-none}
use mathlib.Core.Path.{◌≡◌, refl}
use mathlib.Core.WellFounded.{Acc}
use lib.ListN.{length}
use Rattle.meaning.specs.Loop.{LoopFree}
use Rattle.meaning.specs.Table.{counted, Table, Row, row_at, yes_row, no_row, is_row, isnot_row, any_row, all_row, go_row, stop_row, any_left, any_right, all_left, all_right, InRange}
use Rattle.meaning.specs.Tree.{Tree, Place, Node, below, name_of, neighbour}
use Rattle.meaning.specs.Truth.{Holds, by_yes, by_is, by_isnot, by_left, by_right, by_both, by_go, by_stop, TrueAt, Says, Solves}
use Rattle.meaning.proofs.Solution.Order.{InTree, well_founded, needs_in_tree}
use Rattle.meaning.proofs.Tests.{or_dec}
use Rattle.meaning.proofs.Solution.Spread.{Needs, needs_flat, needs_look, Spot, needs}

module _ {rows : Table} {t : Tree} where
  pub says : {r : Row} {p : Place} → Holds rows t r p → Says rows t (TrueAt rows t) r p
  says by_yes = tt
  says (by_is e) = e
  says (by_isnot e) = e
  says (by_left h) = inl h
  says (by_right h) = inr h
  says (by_both h k) = (h, k)
  says (by_go {q = q} e h) = (q, e, h)
  says (by_stop e) = e

  pub holds : (r : Row) (p : Place) → Says rows t (TrueAt rows t) r p → Holds rows t r p
  holds yes_row p h = by_yes
  holds no_row p h = absurd h
  holds (is_row n) p h = by_is h
  holds (isnot_row n) p h = by_isnot h
  holds (any_row i j) p (inl h) = by_left h
  holds (any_row i j) p (inr h) = by_right h
  holds (all_row i j) p h = by_both h.0 h.1
  holds (go_row d i) p h = by_go h.1 h.2
  holds (stop_row d) p h = by_stop h

  -- what a row says depends only on what it needs
  says_map : (T U : ℕ → Place → Type 0) (r : Row) (i : ℕ) (p : Place) → row_at rows i ≡ r → ((j : ℕ) (q : Place) → Needs rows t i p j q → T j q → U j q) → Says rows t T r p → Says rows t U r p
  says_map T U yes_row i p e f h = h
  says_map T U no_row i p e f h = h
  says_map T U (is_row n) i p e f h = h
  says_map T U (isnot_row n) i p e f h = h
  says_map T U (any_row j k) i p e f h = ⊎_map (f j p (needs_flat (any_left e))) (f k p (needs_flat (any_right e))) h
  says_map T U (all_row j k) i p e f h = (f j p (needs_flat (all_left e)) h.0, f k p (needs_flat (all_right e)) h.1)
  says_map T U (go_row d j) i p e f h = (h.0, h.1, f j h.0 (needs_look d e h.1) h.2)
  says_map T U (stop_row d) i p e f h = h

pub truth_solves : (rows : Table) (t : Tree) → Solves rows t (TrueAt rows t)
truth_solves rows t i p _ _ = (says, holds (row_at rows i) p)

dec_go : (T : Place → Type 0) (o : Option Place) → ((q : Place) → o ≡ some q → Dec (T q)) → Dec ((q : Place) × (o ≡ some q) × T q)
dec_go T none f = no (λ h. none-ne-some h.0 h.1)
dec_go T (some q) f = at (f q refl)
  where
    at : Dec (T q) → Dec ((r : Place) × (some q ≡ some r) × T r)
    at (yes h) = yes (q, refl, h)
    at (no h) = no (λ k. h (rw (some-injective q k.0 k.1) k.2))

dec_stop : (o : Option Place) → Dec (o ≡ none)
dec_stop none = yes refl
dec_stop (some q) = no (λ e. some-ne-none q e)

module _ {rows : Table} {t : Tree} where
  says_dec : (T : ℕ → Place → Type 0) (r : Row) (i : ℕ) (p : Place) → row_at rows i ≡ r → ((j : ℕ) (q : Place) → Needs rows t i p j q → Dec (T j q)) → Dec (Says rows t T r p)
  says_dec T yes_row i p e f = yes tt
  says_dec T no_row i p e f = no (λ h. h)
  says_dec T (is_row n) i p e f = ℕ_discrete (counted rows (name_of (below t p))) n
  says_dec T (isnot_row n) i p e f = Dec.not (ℕ_discrete (counted rows (name_of (below t p))) n)
  says_dec T (any_row j k) i p e f = or_dec (f j p (needs_flat (any_left e))) (f k p (needs_flat (any_right e)))
  says_dec T (all_row j k) i p e f = Dec.and (f j p (needs_flat (all_left e))) (f k p (needs_flat (all_right e)))
  says_dec T (go_row d j) i p e f = dec_go (T j) (neighbour t d p) (λ q n. f j q (needs_look d e n))
  says_dec T (stop_row d) i p e f = dec_stop (neighbour t d p)

module _ {rows : Table} (range : InRange rows) (free : LoopFree rows) (t : Tree) where
  decided : {x : Spot} → Acc (needs rows t) x → Dec (TrueAt rows t x.0 x.1)
  decided (Acc.intro x h) = Dec.of_iff (holds (row_at rows x.0) x.1, says) (says_dec (TrueAt rows t) (row_at rows x.0) x.0 x.1 refl (λ j q n. decided (h (j, q) n)))

  -- whether a row is true at a node
  pub truth_dec : (i : ℕ) (p : Place) → i < length rows → Node (below t p) → Dec (TrueAt rows t i p)
  truth_dec i p l n = decided (well_founded range t free (i, p) (l, n))

  only : (T : ℕ → Place → Type 0) → Solves rows t T → {x : Spot} → Acc (needs rows t) x → InTree rows t x → T x.0 x.1 ↔ TrueAt rows t x.0 x.1
  only T s (Acc.intro x h) g =
      let i = x.0 in
      let p = x.1 in
      let r = row_at rows i in
      let same : (j : ℕ) (q : Place) → Needs rows t i p j q → T j q ↔ TrueAt rows t j q = λ j q n. only T s (h (j, q) n) (needs_in_tree range t n g.1) in (
        λ a. holds r p (says_map T (TrueAt rows t) r i p refl (λ j q n. (same j q n).0) ((s i p g.0 g.1).0 a)),
        λ b. (s i p g.0 g.1).1 (says_map (TrueAt rows t) T r i p refl (λ j q n. (same j q n).1) (says b)),
      )

  -- no other solution
  pub truth_unique : (T : ℕ → Place → Type 0) → Solves rows t T → (i : ℕ) (p : Place) → i < length rows → Node (below t p) → T i p ↔ TrueAt rows t i p
  truth_unique T s i p l n = only T s (well_founded range t free (i, p) (l, n)) (l, n)
