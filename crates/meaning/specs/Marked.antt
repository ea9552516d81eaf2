-- 01, section 4: consistently marked trees; and section 5: the rounds, when nothing stops them.
use Rattle.std.specs.Prelude.{ℕ, zero, suc, ◌<◌, ◌≤◌, ◌≡◌}
use Rattle.std.proofs.Math.Option.{Option, none, some}
use Rattle.meaning.specs.Table.{Side, first, next, down, Table, counted}
use Rattle.meaning.specs.Tree.{Tree, nothing, node, height}
use Rattle.meaning.specs.Code.{codes, name_in, HasFlag, Proper, Takes}

-- The code c of a node and that of its child at the side s, if it has one: flags 1 and 2 say exactly which children exist, and c takes each.
abbrev pub Fits : Table → Side → ℕ → Option ℕ → Type 0
Fits rows s c none = HasFlag rows c (down s) → ⊥
Fits rows s c (some u) = Takes rows s c u

-- `Marked rows t (some c)`: the tree t is consistently marked, with c at its top; where there is no tree there is no code. Nothing is asked of
-- the top's flags 4 and 8 beyond its being proper.
pub data Marked (rows : Table) : Tree → Option ℕ → Type 0 where
  no_mark : Marked rows nothing none
  mark : {n c : ℕ} {a b : Tree} {x y : Option ℕ}
      → name_in rows c ≡ counted rows n → Proper rows c
      → Fits rows first c x → Marked rows a x
      → Fits rows next c y → Marked rows b y
      → Marked rows (node n a b) (some c)

-- A code's smallest marked tree is one of least height with that code at its top; k is that height.
pub record Smallest (rows : Table) (c k : ℕ) : Type 0 where
  pub tree : Tree
  pub marked : Marked rows tree (some c)
  pub high : height tree ≡ k
  pub least : (t : Tree) → Marked rows t (some c) → k ≤ height t

-- Code c is entered in round k or before: each flagged direction 1 and 2 has a code of an earlier round that it takes.
abbrev pub Within : Table → ℕ → ℕ → Type 0
Within rows zero c = ⊥
Within rows (suc k) c = Proper rows c × (c < codes rows) × ((s : Side) → HasFlag rows c (down s) → (u : ℕ) × Within rows k u × Takes rows s c u)

-- Round k enters code c.
abbrev pub Enters : Table → ℕ → ℕ → Type 0
Enters rows zero c = ⊥
Enters rows (suc k) c = Within rows (suc k) c × (Within rows k c → ⊥)
