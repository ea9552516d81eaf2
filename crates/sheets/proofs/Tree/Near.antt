-- The neighbours of a line are the neighbours of its node.
use Prim.Native.Nat.{ℕ}
use mathlib.Core.List.{List, ◌∷◌}
use mathlib.Core.Option.{some}
use mathlib.Core.Path.{◌≡◌, refl}
use Rattle.meaning.specs.Table.{Side, first, next, Dir, up, converse}
use Rattle.meaning.specs.Tree.{Tree, Place, Node, is_node, present, neighbour}
use Rattle.meaning.proofs.Solution.Order.{neighbour_node}
use Rattle.meaning.proofs.Solution.Spread.{Moved, went_down, went_up, moved}
use Rattle.sheets.specs.Links.{Names, FaultFree}
use Rattle.sheets.specs.Tree.{SheetTree, At, at_child, Near, below_it, above_it}
use Rattle.sheets.specs.declared.Line.{Line}
use Rattle.sheets.proofs.Tree.Naming.{names_one, namer_there, namer_one}
use Rattle.sheets.proofs.Tree.Placed.{line_one}

node_present : {t : Tree} (p : Place) → Node t → present t p ≡ some p
node_present p is_node = refl

neighbour_above : (t : Tree) (s : Side) (p : Place) → neighbour t (up s) (s ∷ p) ≡ some p
neighbour_above t first p = refl
neighbour_above t next p = refl

module _ {lines : List Line} where
  pub near_converse : {d : Dir} {i j : ℕ} → Near lines d i j → Near lines (converse d) j i
  near_converse (below_it a) = above_it a
  near_converse (above_it a) = below_it a

  pub near_one : FaultFree lines → {d : Dir} {i j k : ℕ} → Near lines d i j → Near lines d i k → j ≡ k
  near_one free (below_it a) (below_it b) = names_one a b
  near_one free (above_it a) (above_it b) = namer_one free a b

  named_below : {i j : ℕ} {s : Side} {p : Place} → At lines i p → At lines j (s ∷ p) → Names lines i s j
  named_below a (at_child s b e) = rw (line_one b a) at e

  near_moved : {d : Dir} {i j : ℕ} {p q : Place} → Moved d p q → At lines i p → At lines j q → Near lines d i j
  near_moved went_down a b = below_it (named_below a b)
  near_moved went_up a b = above_it (named_below b a)

module _ {lines : List Line} {t : Tree} (tree : SheetTree lines t) where
  pub near_there : {d : Dir} {i j : ℕ} {p : Place} → At lines i p → Near lines d i j → (q : Place) × At lines j q × (neighbour t d p ≡ some q)
  near_there {p = p} a (below_it {s = s} e) = let b = at_child s a e in (s ∷ p, b, node_present (s ∷ p) (tree.inside b).1)
  near_there {p = p} a (above_it {s = s} {j = j} e) =
      let x = tree.place_of j (namer_there e) in
      let m : p ≡ s ∷ x.0 = tree.one_place a (at_child s x.1 e) in
      (x.0, x.1, rw m (neighbour_above t s x.0))

  pub near_back : {d : Dir} {i : ℕ} {p q : Place} → At lines i p → neighbour t d p ≡ some q → (j : ℕ) × Near lines d i j × At lines j q
  near_back {d} {i} {p} {q} a e =
      let x = tree.line_of q (neighbour_node t d p q (tree.inside a).1 e) in
      (x.0, near_moved (moved t d p q e) a x.1, x.1)
