-- The tree that unfolds from a field: there is one, and no other.
use Prim.Native.Nat.{ℕ, zero, suc, ◌+◌, ◌<◌, ◌≤◌}
use native.Mathlib.Omega.{arith}
use mathlib.Core.List.{List}
use mathlib.Core.Path.{◌≡◌, refl}
use lib.ListN.{length}
use Rattle.meaning.specs.Table.{Side, first, next}
use Rattle.meaning.specs.Tree.{Tree, nothing, node, Node, is_node, child, name_of}
use Rattle.sheets.specs.Lines.{Link, link, line_at}
use Rattle.sheets.specs.Links.{Names, FaultFree}
use Rattle.sheets.specs.Tree.{Unfolds, at_dash, at_line}
use Rattle.sheets.specs.declared.Line.{Line}
use Rattle.std.specs.Prelude.{None, Some}
use Rattle.sheets.proofs.Tree.Naming.{names_greater, named_there}

module _ {lines : List Line} where
  pub unfolds_one : {l : Link} {t u : Tree} → Unfolds lines l t → Unfolds lines l u → u ≡ t
  unfolds_one at_dash at_dash = refl
  unfolds_one (at_line a b) (at_line c d) = rw (unfolds_one a c, unfolds_one b d)

  pub unfolds_node : {i : ℕ} {t : Tree} → Unfolds lines (Some i) t → Node t
  unfolds_node (at_line a b) = is_node

  pub unfolds_name : {i : ℕ} {t : Tree} → Unfolds lines (Some i) t → name_of t ≡ (line_at lines i).name
  unfolds_name (at_line a b) = refl

  pub unfolds_child : {i : ℕ} {t : Tree} (s : Side) → Unfolds lines (Some i) t → Unfolds lines (link s (line_at lines i)) (child s t)
  unfolds_child first (at_line a b) = a
  unfolds_child next (at_line a b) = b

  -- where there is a node, a line is named
  pub node_named : {l : Link} {t : Tree} → Unfolds lines l t → Node t → (i : ℕ) × (l ≡ Some i)
  node_named at_dash n = elim n [ ]
  node_named (at_line {i = i} a b) n = (i, refl)

  grow_side : (i : ℕ) (s : Side) → ((j : ℕ) → Names lines i s j → (t : Tree) × Unfolds lines (Some j) t) → (t : Tree) × Unfolds lines (link s (line_at lines i)) t
  grow_side i s f = at (link s (line_at lines i)) refl
    where
      at : (l : Link) → link s (line_at lines i) ≡ l → (t : Tree) × Unfolds lines l t
      at None e = (nothing, at_dash)
      at (Some j) e = f j (record { names = e })

  -- what a line names is greater, so there are fewer lines behind it
  pub grown : FaultFree lines → (n i : ℕ) → length lines ≤ i + n → i < length lines → (t : Tree) × Unfolds lines (Some i) t
  grown free zero i l h = absurd (omega arith)
  grown free (suc n) i l h =
      let more : (s : Side) → (t : Tree) × Unfolds lines (link s (line_at lines i)) t = λ s. grow_side i s (λ j a. grown free n j (omega (arith, names_greater free a)) (named_there free a)) in
      (node (line_at lines i).name (more first).0 (more next).0, at_line (more first).1 (more next).1)
