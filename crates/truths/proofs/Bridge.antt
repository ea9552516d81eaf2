-- What the search sees of a sheet is fit for it, and a row is true at a line exactly where it is true at the line's node.
use Rattle.std.proofs.Common.{ℕ, ◌<◌, ◌≤◌, Bool, List, Option, Some, None, ◌≡◌, refl, sym, ◌∙◌, ap, length, arith}
use mathlib.Core.Logic.{◌↔◌}
use mathlib.Core.Option.{Option as Perhaps, none, some, some-ne-none}
use Rattle.meaning.specs.Table.{Dir, converse, Table, Row, row_at, counted}
use Rattle.meaning.specs.Tree.{Tree, Place, below, name_of, neighbour}
use Rattle.meaning.specs.Truth.{Holds, by_yes, by_is, by_isnot, by_left, by_right, by_both, by_go, by_stop}
use Rattle.table.proofs.Decides.{same_as}
use Rattle.sheets.specs.Lines.{line_limit}
use Rattle.sheets.specs.Links.{FaultFree}
use Rattle.sheets.specs.Tree.{SheetTree, At, Near}
use Rattle.sheets.specs.declared.Line.{Line}
use Rattle.sheets.proofs.Tree.Near.{near_converse, near_one, near_there, near_back}
use Rattle.truths.specs.Decided.{Decided}
use Rattle.truths.specs.Spots.{spot_at, near_at, NearIs, there, nowhere, Spots, Laid, HoldsAt, at_yes, at_is, at_isnot, at_left, at_right, at_both, at_go, at_stop}
use Rattle.truths.specs.Search.{Settled}
use Rattle.truths.specs.declared.spots.Spot.{Spot}
use Rattle.truths.proofs.Inside.{near_inside}

-- a neighbour's number
module _ {lines : List Line} {d : Dir} {i : ℕ} where
  is_near : {v : Option ℕ} {j : ℕ} → NearIs lines d i v → v ≡ Some j → Near lines d i j
  is_near (there {q} n) e = let f : q ≡ _ = cc in rw f at n
  is_near (nowhere f) e = absurd (let z : ◌≡◌ {A = Option ℕ} None (Some _) = e in cc)

  is_none : {v : Option ℕ} → NearIs lines d i v → v ≡ None → (j : ℕ) → Near lines d i j → ⊥
  is_none (there {q} n) e = absurd (let z : ◌≡◌ {A = Option ℕ} (Some q) None = e in cc)
  is_none (nowhere f) e = f

  near_is : {v : Option ℕ} {j : ℕ} → FaultFree lines → NearIs lines d i v → Near lines d i j → v ≡ Some j
  near_is free (there n) a = ap Some (near_one free n a)
  near_is {j = j} free (nowhere f) a = absurd (f j a)

  none_is : {v : Option ℕ} → NearIs lines d i v → ((j : ℕ) → Near lines d i j → ⊥) → v ≡ None
  none_is (there {q = q} n) f = absurd (f q n)
  none_is (nowhere g) f = refl

module _ (rows : Table) (lines : List Line) (spots : List Spot) (few : length lines ≤ line_limit) (free : FaultFree lines) (o : Spots rows lines spots) where
  pub laid : Laid spots
  laid = record {
    few = omega (arith, o.long);
    inside = λ d p q e. omega (arith, o.long, (near_inside free (is_near (o.nears d p) e)).1);
    back = λ d p q e. near_is free (o.nears (converse d) q) (near_converse (is_near (o.nears d p) e));
  }

  module _ (t : Tree) (tree : SheetTree lines t) where
    same_name : {i : ℕ} {p : Place} → At lines i p → (spot_at spots i).name ≡ counted rows (name_of (below t p))
    same_name {i} a = o.names i (tree.inside a).0 ∙ ap (counted rows) (sym (tree.named a))

    ends : (d : Dir) {i : ℕ} (p : Place) → At lines i p → near_at spots d i ≡ None → neighbour t d p ≡ none
    ends d {i} p a h = at (neighbour t d p) refl
      where
        at : (r : Perhaps Place) → neighbour t d p ≡ r → r ≡ none
        at none e = refl
        at (some q) e = let x = near_back tree a e in absurd (is_none (o.nears d i) h x.0 x.1)

    to_node : {r : Row} {i : ℕ} {p : Place} → At lines i p → HoldsAt rows spots r i → Holds rows t r p
    to_node a at_yes = by_yes
    to_node a (at_is e) = by_is (sym (same_name a) ∙ e)
    to_node a (at_isnot f) = by_isnot (λ e. f (same_name a ∙ e))
    to_node a (at_left h) = by_left (to_node a h)
    to_node a (at_right h) = by_right (to_node a h)
    to_node a (at_both h k) = by_both (to_node a h) (to_node a k)
    to_node {i = i} a (at_go {d = d} e h) = let x = near_there tree a (is_near (o.nears d i) e) in by_go x.2 (to_node x.1 h)
    to_node {p = p} a (at_stop {d = d} e) = by_stop (ends d p a e)

    to_line : {r : Row} {i : ℕ} {p : Place} → At lines i p → Holds rows t r p → HoldsAt rows spots r i
    to_line a by_yes = at_yes
    to_line a (by_is e) = at_is (same_name a ∙ e)
    to_line a (by_isnot f) = at_isnot (λ e. f (sym (same_name a) ∙ e))
    to_line a (by_left h) = at_left (to_line a h)
    to_line a (by_right h) = at_right (to_line a h)
    to_line a (by_both h k) = at_both (to_line a h) (to_line a k)
    to_line {i = i} a (by_go {d = d} e h) = let x = near_back tree a e in at_go (near_is free (o.nears d i) x.1) (to_line x.2 h)
    to_line {i = i} a (by_stop {d = d} e) = at_stop (none_is (o.nears d i) (λ j n. let x = near_there tree a n in some-ne-none x.0 (sym x.2 ∙ e)))

    pub bridge : (r : Row) (i : ℕ) (p : Place) → At lines i p → HoldsAt rows spots r i ↔ Holds rows t r p
    bridge r i p a = (to_node a, to_line a)

  -- what is settled over the spots is decided on the sheet's tree
  pub decided : (truth : List (List Bool)) → Settled rows spots truth → Decided rows lines truth
  decided truth s = record {
    decides = λ t tree p i k a h.
        let l : i < length spots = omega (arith, o.long, (tree.inside a).0) in
        same_as (bridge t tree (row_at rows k) i p a) (s.decides i k l h);
  }
