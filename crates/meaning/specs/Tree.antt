-- 01, section 2: finite binary trees, their nodes and neighbours, and their height.
use Rattle.std.specs.Prelude.{ℕ, suc, max, List, [], ◌∷◌}
use Rattle.std.proofs.Math.Option.{Option, none, some}
use Rattle.meaning.specs.Table.{Side, first, next, Dir, down, up}

-- A tree, or nothing: `node n a b` has the name n, the first child a and the next sibling b.
pub data Tree : Type 0 where
  nothing : Tree
  node : (n : ℕ) (a b : Tree) → Tree

-- A tree has at least one node.
pub data Node : Tree → Type 0 where
  is_node : {n : ℕ} {a b : Tree} → Node (node n a b)

-- Height is the number of nodes on the longest chain of 1 and 2 steps from the top.
abbrev pub height : Tree → ℕ
height nothing = 0
height (node n a b) = suc (max (height a) (height b))

abbrev pub child : Side → Tree → Tree
child first nothing = nothing
child next nothing = nothing
child first (node n a b) = a
child next (node n a b) = b

abbrev pub name_of : Tree → ℕ
name_of nothing = 0
name_of (node n a b) = n

-- A node's place: the steps that lead up from it to the top, its own step first. The top is [].
abbrev pub Place : Type 0
Place = List Side

-- The part of a tree at a place and below it: `nothing` where the tree has no node there.
abbrev pub below : Tree → Place → Tree
below t [] = t
below t (s ∷ p) = child s (below t p)

-- A place, if there is a node.
abbrev pub present : Tree → Place → Option Place
present nothing p = none
present (node n a b) p = some p

-- The top has neither 3 nor 4. No other node has both.
abbrev pub upwards : Side → Place → Option Place
upwards s [] = none
upwards first (first ∷ p) = some p
upwards first (next ∷ p) = none
upwards next (first ∷ p) = none
upwards next (next ∷ p) = some p

-- The neighbour of a node in a direction, if it has one.
abbrev pub neighbour : Tree → Dir → Place → Option Place
neighbour t (down s) p = present (below t (s ∷ p)) (s ∷ p)
neighbour t (up s) p = upwards s p
