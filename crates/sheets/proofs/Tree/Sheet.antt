-- A sheet without a fault is a tree, and each of its lines exactly one of the tree's nodes.
use Prim.Native.Nat.{◌<◌}
use native.Mathlib.Omega.{arith}
use mathlib.Core.List.{List}
use lib.ListN.{length}
use Rattle.meaning.specs.Tree.{Tree}
use Rattle.sheets.specs.Links.{FaultFree}
use Rattle.sheets.specs.Tree.{SheetTree}
use Rattle.sheets.specs.declared.Line.{Line}
use Rattle.sheets.proofs.Tree.Placed.{at_below, line_one, line_at, line_there, place_one, place_at}
use Rattle.sheets.proofs.Tree.Unfolded.{unfolds_one, unfolds_node, unfolds_name, grown}

pub sheet_tree : (lines : List Line) → 0 < length lines → FaultFree lines → (t : Tree) × SheetTree lines t
sheet_tree lines l free =
    let g = grown free (length lines) 0 (omega arith) l in
    let u = g.1 in (
      g.0,
      record {
        is_tree = u;
        only = λ v w. unfolds_one u w;
        place_of = place_at free;
        one_place = place_one free;
        line_of = line_at u;
        one_line = line_one;
        inside = λ a. (line_there free l a, unfolds_node (at_below u a));
        named = λ a. unfolds_name (at_below u a);
      },
    )
