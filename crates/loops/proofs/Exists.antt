-- Every table is judged, of whatever length: pairs are marked one by one until no rule gives another. And so a pair that is joined in some way
-- has a way in which it is joined.
use Prim.Native.Nat.{ℕ, zero, suc, ◌+◌, ◌*◌, ◌<◌, ◌≤◌}
use native.Mathlib.Decide.{dec_lt}
use native.Mathlib.Omega.{arith}
use mathlib.Core.Bool.{Bool, true, false, not, ◌&&◌}
use mathlib.Core.HLevel.{⊥_prop}
use mathlib.Core.List.{List, []}
use mathlib.Core.Logic.{∥∥₁_elim}
use mathlib.Core.Path.{◌≡◌, refl, sym, ◌∙◌}
use borrow.Author.Tests.{not-true}
use lib.ListN.{length, get_or, replicate}
use Rattle.std.specs.Prelude.{Option, Some, None}
use Rattle.std.specs.List.{list_any, range_with_len}
use Rattle.meaning.specs.Loop.{Joined}
use Rattle.meaning.specs.Table.{Table, InRange, size, size_limit}
use Rattle.meaning.proofs.Tests.{Is, false≢true, and_iff}
use Rattle.loops.specs.Closing.{marked, with_pair, given, pairs, Square, first_marked, AllDone, Sound}
use Rattle.loops.specs.Judged.{Checked, Fine, Missing, Looping, Large, Judged, fine, missing, looping, large}
use Rattle.loops.specs.Missing.{first_missing}
use Rattle.loops.proofs.Closed.{all_found, smallest, none_looping}
use Rattle.loops.proofs.Given.{Marks, given_sound}
use Rattle.loops.proofs.Marking.{square_none, square_more, marked_none, marked_new, pairs_more, pairs_most}
use Rattle.loops.proofs.Naming.{missing_found, none_missing}
use Rattle.loops.proofs.Search.{some_to, some_from}

-- one pair more
record More (rows : Table) (m : List (List Bool)) : Type 0 where
  found : List (List Bool)
  square : Square (length rows) found
  marks : Marks rows found
  counted : pairs found ≡ pairs m + 1

record Closed (rows : Table) : Type 0 where
  found : List (List Bool)
  marks : Marks rows found
  all : AllDone rows found

module _ (rows : Table) where
  abbrev w : ℕ
  w = length rows

  -- a rule gives the pair, and it is not found
  abbrev fresh : List (List Bool) → ℕ → ℕ → Bool
  fresh m i j = given rows m i j && not (marked m i j)

  abbrev open_row : List (List Bool) → ℕ → Bool
  open_row m i = list_any (fresh m i) (range_with_len 0 w)

  abbrev unclosed : List (List Bool) → Bool
  unclosed m = list_any (open_row m) (range_with_len 0 w)

  done : (m : List (List Bool)) → (Is (unclosed m) → ⊥) → AllDone rows m
  done m n = record { all = λ i h j g. record { settled = λ e. at i j h g e (marked m i j) refl } }
    where
      at : (i j : ℕ) → i < w → j < w → Is (given rows m i j) → (b : Bool) → marked m i j ≡ b → Is b
      at i j h g e true q = refl
      at i j h g e false q =
          absurd (n (some_from (open_row m) w i h (some_from (fresh m i) w j g ((and_iff (given rows m i j) (not (marked m i j))).1 (e, rw q)))))

  another : (m : List (List Bool)) → Square w m → Marks rows m → Is (unclosed m) → More rows m
  another m s a h =
      let x = some_to (open_row m) w h in
      let i = x.0 in
      let y = some_to (fresh m i) w x.2 in
      let j = y.0 in
      let f = (and_iff (given rows m i j) (not (marked m i j))).0 y.2 in
      let low : i < length m = omega (arith, x.1, s.high) in
      let inside : j < length (get_or m i []) = omega (arith, y.1, s.wide i x.1) in
      record {
        found = with_pair m i j;
        square = square_more w m s i j x.1;
        marks = record { sound = marked_new m i j low inside (λ (k l : ℕ). Joined rows k l) (given_sound rows m a i j f.0) (λ k l e. a.sound k l e) };
        counted = pairs_more m i j low inside (not-true (marked m i j) f.1);
      }

  closing : (more : ℕ) (m : List (List Bool)) → Square w m → Marks rows m → w * w ≤ pairs m + more → Closed rows
  closing zero m s a h = record { found = m; marks = a; all = done m (λ e. let x = another m s a e in omega (arith, x.counted, pairs_most w x.found x.square)) }
  closing (suc more) m s a h = at (unclosed m) refl (closing more)
    where
      at : (b : Bool) → unclosed m ≡ b → ((n : List (List Bool)) → Square w n → Marks rows n → w * w ≤ pairs n + more → Closed rows) → Closed rows
      at true q again = let x = another m s a q in again x.found x.square x.marks (omega (arith, x.counted))
      at false q again = record { found = m; marks = a; all = done m (λ e. false≢true (sym q ∙ e)) }

  closed : Closed rows
  closed =
      closing (w * w) (replicate w (replicate w false)) (square_none w) (record { sound = λ i j e. false≢true (sym (marked_none w w i j) ∙ e) }) (omega arith)

  module _ (range : InRange rows) where
    -- what is joined in some way is found
    way : (i j : ℕ) → ∥ Joined rows i j ∥₁ → Joined rows i j
    way i j t = at (marked closed.found i j) refl
      where
        at : (b : Bool) → marked closed.found i j ≡ b → Joined rows i j
        at true e = closed.marks.sound i j e
        at false e = absurd (∥∥₁_elim t ⊥_prop (λ (x : Joined rows i j). false≢true (sym e ∙ (all_found rows closed.found range closed.all x).mark)))

    pub marks_of : (m : List (List Bool)) → Sound rows m → Marks rows m
    marks_of m s = record { sound = λ i j e. way i j (s.sound i j e) }

    in_range_judged : (a : Checked) × Judged rows a
    in_range_judged = at (first_marked w closed.found) refl
      where
        at : (o : Option ℕ) → first_marked w closed.found ≡ o → (a : Checked) × Judged rows a
        at (Some i) e = (Looping i, looping range (smallest rows closed.found range closed.all i closed.marks e))
        at None e = on (dec_lt size_limit (size rows))
          where
            on : Dec (size_limit < size rows) → (a : Checked) × Judged rows a
            on (yes l) = (Large, large range (none_looping rows closed.found range closed.all e) l)
            on (no l) = (Fine, fine range (none_looping rows closed.found range closed.all e) (omega arith))

  pub judged_exists : (a : Checked) × Judged rows a
  judged_exists = at (first_missing rows) refl
    where
      at : (o : Option ℕ) → first_missing rows ≡ o → (a : Checked) × Judged rows a
      at (Some i) e = (Missing i, missing (missing_found rows i e))
      at None e = in_range_judged (none_missing rows e)
