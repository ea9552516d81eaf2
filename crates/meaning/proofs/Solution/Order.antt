-- In a table without a loop, what rows need at the nodes of a finite tree is well founded: there are finitely many rows and nodes, and a closed
-- walk over them would be a loop. So truth can be worked out by recursion.
use Prim.Native.Nat.{ℕ, zero, suc, ◌+◌, ◌≤◌, ◌<◌}
use native.Mathlib.Omega.{arith}
use mathlib.Core.List.Memᴰ
use mathlib.Core.List.{List, [], ◌∷◌, ◌++◌, map, Memᴰ}
use mathlib.Core.Option.{some, none-ne-some, some-injective}
use mathlib.Core.Path.{◌≡◌, refl, ap, subst}
use mathlib.Core.WellFounded.{Acc}
use lib.ListN.{length}
use Rattle.meaning.specs.Loop.{LoopFree, starts}
use Rattle.meaning.specs.Table.{Side, first, next, Dir, down, up, Table, InRange}
use Rattle.meaning.specs.Tree.{Tree, Place, nothing, node, Node, is_node, child, below, height, present, neighbour}
use Rattle.meaning.proofs.Solution.Finite.{numbers, in_numbers, finite_wf}
use Rattle.meaning.proofs.Solution.Spread.{Needs, needs_flat, needs_look, Spot, needs, closed_walk}

-- Finitely many places and pairs.
places : ℕ → List Place
places zero = [] ∷ []
places (suc n) = [] ∷ (map (first ∷◌) (places n) ++ map (next ∷◌) (places n))

in_places : (n : ℕ) (p : Place) → length p ≤ n → Memᴰ p (places n)
unfolding places
in_places zero [] h = Memᴰ.head refl
in_places zero (s ∷ p) h = absurd (omega arith)
in_places (suc n) [] h = Memᴰ.head refl
in_places (suc n) (first ∷ p) h = Memᴰ.tail (Memᴰ.append_left _ (Memᴰ.map (first ∷◌) (in_places n p (omega arith))))
in_places (suc n) (next ∷ p) h = Memᴰ.tail (Memᴰ.append_right (map (first ∷◌) (places n)) (Memᴰ.map (next ∷◌) (in_places n p (omega arith))))

pairs : {A B : Type 0} → List A → List B → List (A × B)
pairs [] ys = []
pairs (x ∷ xs) ys = map (λ y. (x, y)) ys ++ pairs xs ys

in_pairs : {A B : Type 0} {a : A} {b : B} {xs : List A} {ys : List B} → Memᴰ a xs → Memᴰ b ys → Memᴰ (a, b) (pairs xs ys)
unfolding pairs
in_pairs {b = b} (Memᴰ.head {x} e) m = Memᴰ.append_left _ (Memᴰ.cast (ap (λ z. (z, b)) e) (Memᴰ.map (λ y. (x, y)) m))
in_pairs {ys = ys} (Memᴰ.tail {x} l) m = Memᴰ.append_right (map (λ y. (x, y)) ys) (in_pairs l m)

-- The nodes of a tree.
pub parent_node : (s : Side) (t : Tree) → Node (child s t) → Node t
parent_node first nothing h = h
parent_node next nothing h = h
parent_node first (node n a b) h = is_node
parent_node next (node n a b) h = is_node

child-height : (s : Side) (t : Tree) → Node (child s t) → height (child s t) < height t
child-height first nothing h = elim h [ ]
child-height next nothing h = elim h [ ]
child-height first (node n a b) h = omega arith
child-height next (node n a b) h = omega arith

depth : (t : Tree) (p : Place) → Node (below t p) → height (below t p) + length p ≤ height t
depth t [] h = omega arith
depth t (s ∷ p) h =
    let up = parent_node s (below t p) h in
    omega (arith, depth t p up, child-height s (below t p) h)

present-some : (t : Tree) (p q : Place) → present t p ≡ some q → Node t × (p ≡ q)
present-some nothing p q e = absurd (none-ne-some q e)
present-some (node n a b) p q e = (is_node, some-injective p q e)

pub neighbour_node : (t : Tree) (d : Dir) (p q : Place) → Node (below t p) → neighbour t d p ≡ some q → Node (below t q)
neighbour_node t (down s) p q h e =
    let f = present-some (below t (s ∷ p)) (s ∷ p) q e in
    subst (λ (z : Place). Node (below t z)) f.1 f.0
neighbour_node t (up s) [] q h e = absurd (none-ne-some q e)
neighbour_node t (up first) (first ∷ p) q h e = rw (some-injective p q e) at (parent_node first (below t p) h)
neighbour_node t (up first) (next ∷ p) q h e = absurd (none-ne-some q e)
neighbour_node t (up next) (first ∷ p) q h e = absurd (none-ne-some q e)
neighbour_node t (up next) (next ∷ p) q h e = rw (some-injective p q e) at (parent_node next (below t p) h)

-- The spots that count: rows of the table at nodes of the tree.
abbrev pub InTree : Table → Tree → Spot → Type 0
InTree rows t x = (x.0 < length rows) × Node (below t x.1)

module _ {rows : Table} (range : InRange rows) (t : Tree) where
  pub needs_in_tree : {i j : ℕ} {p q : Place} → Needs rows t i p j q → Node (below t p) → (j < length rows) × Node (below t q)
  needs_in_tree (needs_flat f) h = (range.referred f, h)
  needs_in_tree (needs_look {i = i} {p = p} {q = q} d e n) h = (range.looked i e, neighbour_node t d p q h n)

  all_spots : List Spot
  all_spots = pairs (numbers (length rows)) (places (height t))

  in_all : (x : Spot) → InTree rows t x → Memᴰ x all_spots
  unfolding all_spots
  in_all x g = in_pairs (in_numbers (length rows) x.0 g.0) (in_places (height t) x.1 (omega (arith, depth t x.1 g.1)))

  -- in a table without a loop, what rows need at the nodes of a tree is well founded
  pub well_founded : LoopFree rows → (x : Spot) → InTree rows t x → Acc (needs rows t) x
  well_founded free =
      finite_wf (needs rows t) (InTree rows t) (λ x y n g. needs_in_tree n g.1) (λ x y g n r. free x.0 (starts (closed_walk x y n r))) all_spots in_all
