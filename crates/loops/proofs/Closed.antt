-- Where no rule gives another pair, the pairs found are exactly the joined ones; so the first row that is paired with itself is the smallest on
-- a loop.
use Prim.Native.Nat.{ℕ, ◌<◌}
use native.Mathlib.Omega.{arith}
use mathlib.Core.Bool.{Bool, false}
use mathlib.Core.List.{List}
use mathlib.Core.Logic.{inl, inr}
use mathlib.Core.Path.{◌≡◌, refl, sym, ◌∙◌}
use lib.ListN.{length}
use Rattle.std.specs.Prelude.{Some, None}
use Rattle.meaning.specs.Table.{Dir, Table, row_at, go_row, InRange}
use Rattle.meaning.specs.Loop.{Joined, by_flat, by_turn, by_wrap, by_join, starts, LoopFree, OnLoop, SmallestOnLoop}
use Rattle.meaning.proofs.Tests.{Is, false≢true}
use Rattle.meaning.proofs.Theorems.{loops}
use Rattle.counts.proofs.Looks.{go_look, look_inside}
use Rattle.counts.proofs.Rank.{refers_there}
use Rattle.loops.specs.Closing.{marked, given, first_marked, AllDone}
use Rattle.loops.proofs.Search.{find_some, find_none}
use Rattle.loops.proofs.Given.{Marks, given_flat, given_wrap, given_join}

-- a walk starts at a row that is there, and so does a loop
looks_there : (rows : Table) (i : ℕ) {d : Dir} {j : ℕ} → row_at rows i ≡ go_row d j → i < length rows
looks_there rows i e = look_inside rows i (go_look rows i e)

joined_there : {rows : Table} {i j : ℕ} → Joined rows i j → i < length rows
joined_there (by_flat {i} r) = refers_there i r
joined_there {rows} (by_turn {i} k d e f) = looks_there rows i e
joined_there {rows} (by_wrap {i} k l d e h f) = looks_there rows i e
joined_there (by_join h g) = joined_there h

-- a row on a loop is joined to itself, and is there
joined_to_itself : {rows : Table} (i : ℕ) → OnLoop rows i → Joined rows i i
joined_to_itself {rows} i o = ((loops rows).closure i i).1 (((loops rows).turned i).0 o)

-- a pair of rows of the table that is found
pub record Found (rows : Table) (m : List (List Bool)) (i j : ℕ) : Type 0 where
  pub from : i < length rows
  pub to : j < length rows
  pub mark : Is (marked m i j)

module _ (rows : Table) (m : List (List Bool)) (range : InRange rows) (closed : AllDone rows m) where
  settle : (i j : ℕ) → i < length rows → j < length rows → Is (given rows m i j) → Found rows m i j
  settle i j a b g = record { from = a; to = b; mark = (closed.all i a j b).settled g }

  pub all_found : {i j : ℕ} → Joined rows i j → Found rows m i j
  all_found (by_flat {i} {j} r) = settle i j (refers_there i r) (range.referred r) (given_flat rows m i j r)
  all_found (by_turn {i} {j} k d e f) = settle i j (looks_there rows i e) (range.looked k f) (given_wrap rows m i j d k k (looks_there rows k f) e (inl refl) f)
  all_found (by_wrap {i} {j} k l d e h f) = settle i j (looks_there rows i e) (range.looked l f) (given_wrap rows m i j d k l (looks_there rows l f) e (inr (all_found h).mark) f)
  all_found (by_join {i} {j} {k} h g) =
      let x = all_found h in
      let y = all_found g in
      settle i j x.from y.to (given_join rows m i j k x.to x.mark y.mark)

  unfound : (i : ℕ) → marked m i i ≡ false → OnLoop rows i → ⊥
  unfound i e o = false≢true (sym e ∙ (all_found (joined_to_itself i o)).mark)

  pub smallest : (i : ℕ) → Marks rows m → first_marked (length rows) m ≡ Some i → SmallestOnLoop rows i
  smallest i marks e =
      let x = find_some (λ (k : ℕ). marked m k k) 0 (length rows) i e in
      record { on_loop = starts (((loops rows).closure i i).0 (marks.sound i i x.2)); none_before = λ j h o. unfound j (x.3 j (omega arith) h) o }

  pub none_looping : first_marked (length rows) m ≡ None → LoopFree rows
  none_looping e i o = unfound i (find_none (λ (k : ℕ). marked m k k) 0 (length rows) e i (omega arith) (omega (arith, joined_there (joined_to_itself i o)))) o
