-- Lines and places: each line is at one place, and each node's place has one line.
use Prim.Native.Nat.{ℕ, zero, suc, ◌<◌}
use native.Mathlib.Decide.{ℕ_discrete}
use native.Mathlib.Omega.{arith}
use mathlib.Core.List.{List, [], ◌∷◌}
use mathlib.Core.Path.{◌≡◌, refl}
use lib.ListN.{length}
use Rattle.meaning.specs.Tree.{Tree, Place, Node, below}
use Rattle.meaning.proofs.Solution.Order.{parent_node}
use Rattle.sheets.specs.Links.{FaultFree}
use Rattle.sheets.specs.Tree.{Unfolds, IsTree, At, at_top, at_child}
use Rattle.sheets.specs.declared.Line.{Line}
use Rattle.std.specs.Prelude.{Some}
use Rattle.sheets.proofs.Tree.Naming.{names_one, names_greater, named_there, namer, namer_one, side_one}
use Rattle.sheets.proofs.Tree.Unfolded.{unfolds_child, node_named}

module _ {lines : List Line} where
  pub at_below : {t : Tree} {i : ℕ} {p : Place} → IsTree lines t → At lines i p → Unfolds lines (Some i) (below t p)
  at_below u at_top = u
  at_below u (at_child s a e) = rw e.names at (unfolds_child s (at_below u a))

  pub line_one : {i j : ℕ} {p : Place} → At lines i p → At lines j p → i ≡ j
  line_one at_top at_top = refl
  line_one (at_child s a e) (at_child r b f) = names_one (rw (line_one a b) at e) f

  pub line_at : {t : Tree} → IsTree lines t → (p : Place) → Node (below t p) → (i : ℕ) × At lines i p
  line_at u [] n = (0, at_top)
  line_at {t} u (s ∷ p) n =
      let x = line_at u p (parent_node s (below t p) n) in
      let y = node_named (unfolds_child s (at_below u x.1)) n in
      (y.0, at_child s x.1 (record { names = y.1 }))

module _ {lines : List Line} (free : FaultFree lines) where
  pub line_there : {i : ℕ} {p : Place} → 0 < length lines → At lines i p → i < length lines
  line_there l at_top = l
  line_there l (at_child s a e) = named_there free e

  pub place_one : {i : ℕ} {p q : Place} → At lines i p → At lines i q → p ≡ q
  place_one at_top at_top = refl
  place_one at_top (at_child s b e) = absurd (omega (arith, names_greater free e))
  place_one (at_child s a e) at_top = absurd (omega (arith, names_greater free e))
  place_one (at_child s a e) (at_child r b f) =
      let k = namer_one free e f in
      rw (place_one a (rw (← k) at b), side_one free (rw k at e) f)

  -- by recursion on the number of a line: what names it is smaller
  placed : (n i : ℕ) → i < n → i < length lines → (p : Place) × At lines i p
  placed zero i h l = absurd (omega arith)
  placed (suc n) i h l = at (ℕ_discrete i 0) (placed n)
    where
      at : Dec (i ≡ 0) → ((j : ℕ) → j < n → j < length lines → (p : Place) × At lines j p) → (p : Place) × At lines i p
      at (yes e) f = rw e ([], at_top)
      at (no e) f =
          let x = namer free i (omega arith) l in
          let g = names_greater free x.2 in
          let y = f x.0 (omega arith) (omega arith) in
          (x.1 ∷ y.0, at_child x.1 y.1 x.2)

  pub place_at : (i : ℕ) → i < length lines → (p : Place) × At lines i p
  place_at i l = placed (suc i) i (omega arith) l
