-- What is proved of the definitions, each theorem as a record of what it gives. proofs/Theorems.antt proves them, in this order.
use Rattle.std.specs.Prelude.{ℕ, suc, ◌<◌, ◌≤◌, ◌↔◌, ◌≡◌, get_or, length}
use Rattle.std.proofs.Math.Option.{some}
use Rattle.meaning.specs.Table.{Table, size_limit, size}
use Rattle.meaning.specs.Tree.{Tree, Place, Node, below, height}
use Rattle.meaning.specs.Truth.{TrueAt, Solves, Satisfies}
use Rattle.meaning.specs.Loop.{Stretch, Loop, OnLoop, Joined}
use Rattle.meaning.specs.Code.{codes, Good}
use Rattle.meaning.specs.Marked.{Marked, Smallest, Enters}
use Rattle.meaning.specs.Outcome.{Slices, Searched, Unfolds, Bounded, Verdict, Outcome, SamePlaces}

-- 1. A table in range and without a loop has exactly one solution on each finite tree, and it is decided.
pub record OneSolution (rows : Table) : Type 1 where
  pub decided : (t : Tree) (i : ℕ) (p : Place) → i < length rows → Node (below t p) → Dec (TrueAt rows t i p)
  pub solved : (t : Tree) → Solves rows t (TrueAt rows t)
  pub only : (t : Tree) (T : ℕ → Place → Type 0) → Solves rows t T → (i : ℕ) (p : Place) → i < length rows → Node (below t p) → T i p ↔ TrueAt rows t i p

-- 2. A turned loop is a loop, so the smallest row on one is the smallest from which one starts; and what a program can close off over pairs of
-- rows is exactly what a cancelling walk joins.
pub record Loops (rows : Table) : Type 0 where
  pub turned : (i : ℕ) → OnLoop rows i ↔ Loop rows i
  pub closure : (i j : ℕ) → Joined rows i j ↔ Stretch rows i j

-- 3. Sound and complete, on the same tree and so at the same height.
pub record SameAnswers (rows : Table) : Type 0 where
  pub sound : (t : Tree) (c : ℕ) → Marked rows t (some c) → Good rows c → Satisfies rows t
  pub complete : (t : Tree) → Satisfies rows t → (c : ℕ) × Marked rows t (some c) × Good rows c

-- The tree of an entered code.
pub record Grown (rows : Table) (x : Slices) (c : ℕ) : Type 0 where
  pub tree : Tree
  pub unfolds : Unfolds rows x c tree
  pub marked : Marked rows tree (some c)
  pub high : height tree ≡ get_or x.round c 0

-- 4. Rounds are heights; the first round that enters nothing is the end of them; recorded neighbours unfold to a tree of their code's round.
pub record RoundsAreHeights (rows : Table) : Type 0 where
  pub same : (k c : ℕ) → Enters rows k c ↔ Smallest rows c k
  pub ended : (k : ℕ) → ((c : ℕ) → Enters rows (suc k) c → ⊥) → (j c : ℕ) → k < j → Enters rows j c → ⊥
  pub grown : size rows ≤ size_limit → {last : ℕ} {x : Slices} → Searched rows last x → (c : ℕ) → c < codes rows → 0 < get_or x.round c 0 → Grown rows x c

-- Round k is the first with a good code; h is the least height of a tree that satisfies.
pub record FirstGood (rows : Table) (k : ℕ) : Type 0 where
  pub good : (c : ℕ) × Enters rows k c × Good rows c
  pub none_before : (j c : ℕ) → j < k → Enters rows j c → Good rows c → ⊥

pub record LeastHeight (rows : Table) (h : ℕ) : Type 0 where
  pub tree : Tree
  pub satisfies : Satisfies rows tree
  pub high : height tree ≡ h
  pub least : (t : Tree) → Satisfies rows t → h ≤ height t

-- 5. The least height is the first round with a good code, and there is no tree of any size if no round has one.
pub record Found (rows : Table) : Type 0 where
  pub height_is_round : (h : ℕ) → LeastHeight rows h ↔ FirstGood rows h
  pub none : ((k c : ℕ) → Enters rows k c → Good rows c → ⊥) ↔ ((t : Tree) → Satisfies rows t → ⊥)

-- 6. The bound, over all N and m.
abbrev pub Bound : Table → Type 0
Bound rows = (c k : ℕ) → Smallest rows c k → Bounded rows k

-- 7. An accepted table has an outcome, and no other: verdict, numbers and every place below C.
pub record Settled (rows : Table) : Type 0 where
  pub verdict : Verdict
  pub slices : Slices
  pub outcome : Outcome rows verdict slices
  pub unique : {v w : Verdict} {x y : Slices} → Outcome rows v x → Outcome rows w y → (v ≡ w) × SamePlaces (codes rows) x y
