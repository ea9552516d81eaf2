-- 02, C-11: the tree that a sheet is. Line 0 is the top.
use Rattle.std.specs.Prelude.{ℕ, ◌<◌, List, [], ◌∷◌, ◌≡◌, length, Some, None}
use Rattle.meaning.specs.Table.{Side, Dir, down, up}
use Rattle.meaning.specs.Tree.{Tree, nothing, node, Node, Place, below, name_of}
use Rattle.sheets.specs.Lines.{Link, line_at}
use Rattle.sheets.specs.Links.{Names}
use Rattle.sheets.specs.declared.Line.{Line}

-- The tree that unfolds from a field through first and next.
pub data Unfolds (lines : List Line) : Link → Tree → Type 0 where
  at_dash : Unfolds lines None nothing
  at_line : {i : ℕ} {a b : Tree} → Unfolds lines (line_at lines i).first a → Unfolds lines (line_at lines i).next b
      → Unfolds lines (Some i) (node (line_at lines i).name a b)

abbrev pub IsTree : List Line → Tree → Type 0
IsTree lines t = Unfolds lines (Some 0) t

-- Line i is the node at the place p.
pub data At (lines : List Line) : ℕ → Place → Type 0 where
  at_top : At lines 0 []
  at_child : {i j : ℕ} {p : Place} (s : Side) → At lines i p → Names lines i s j → At lines j (s ∷ p)

-- The tree of a sheet: each line is exactly one of its nodes.
pub record SheetTree (lines : List Line) (t : Tree) : Type 0 where
  pub is_tree : IsTree lines t
  pub only : (u : Tree) → IsTree lines u → u ≡ t
  pub place_of : (i : ℕ) → i < length lines → (p : Place) × At lines i p
  pub one_place : {i : ℕ} {p q : Place} → At lines i p → At lines i q → p ≡ q
  pub line_of : (p : Place) → Node (below t p) → (i : ℕ) × At lines i p
  pub one_line : {i j : ℕ} {p : Place} → At lines i p → At lines j p → i ≡ j
  pub inside : {i : ℕ} {p : Place} → At lines i p → (i < length lines) × Node (below t p)
  pub named : {i : ℕ} {p : Place} → At lines i p → name_of (below t p) ≡ (line_at lines i).name

-- Line j is the neighbour of line i in a direction.
pub data Near (lines : List Line) : Dir → ℕ → ℕ → Type 0 where
  below_it : {s : Side} {i j : ℕ} → Names lines i s j → Near lines (down s) i j
  above_it : {s : Side} {i j : ℕ} → Names lines j s i → Near lines (up s) i j
