-- The rules and the steps of 01: what a rule gives is joined, and each step of a cancelling walk is given by a rule.
use Prim.Native.Nat.{ℕ, ◌<◌, ◌≤◌}
use native.Mathlib.Omega.{arith}
use mathlib.Core.Bool.{Bool, ◌||◌}
use mathlib.Core.List.{List}
use mathlib.Core.Logic.{◌⊎◌, inl, inr, ⊎_elim}
use mathlib.Core.Path.{◌≡◌, refl, ap, sym, ◌∙◌, subst}
use borrow.Author.Tests.{eq-eqb}
use lib.Dec.{eqb}
use lib.ListN.{length}
use Rattle.meaning.specs.Table.{first, next, Dir, down, up, converse, Table, Row, row_at, yes_row, no_row, is_row, isnot_row, any_row, all_row, go_row, stop_row, Refers, any_left, any_right, all_left, all_right}
use Rattle.meaning.specs.Loop.{Joined, by_flat, by_turn, by_wrap, by_join}
use Rattle.meaning.proofs.Tests.{Is, false≢true, or_iff, and_iff, eqb_iff}
use Rattle.table.specs.Rows.{dir_of}
use Rattle.loops.specs.Closing.{refers_to, number, opposite, back_to, marked, turns_at, wraps, meets_at, meets, given}
use Rattle.loops.proofs.Search.{some_to, some_from}

-- a reference
either_to : (a b j : ℕ) (P : ℕ → Type 0) → P a → P b → Is (eqb a j || eqb b j) → P j
either_to a b j P p q h =
    ⊎_elim
    (λ (e : Is (eqb a j)). subst P ((eqb_iff a j).0 e) p)
    (λ (e : Is (eqb b j)). subst P ((eqb_iff b j).0 e) q)
    ((or_iff (eqb a j) (eqb b j)).0 h)

refers_to_lem : {rows : Table} (i j : ℕ) → Is (refers_to j (row_at rows i)) → Refers rows i j
refers_to_lem {rows} i j h = at (row_at rows i) refl h
  where
    at : (r : Row) → row_at rows i ≡ r → Is (refers_to j r) → Refers rows i j
    at yes_row e h = false≢true h
    at no_row e h = false≢true h
    at (is_row n) e h = false≢true h
    at (isnot_row n) e h = false≢true h
    at (any_row a b) e h = either_to a b j (λ k. Refers rows i k) (any_left e) (any_right e) h
    at (all_row a b) e h = either_to a b j (λ k. Refers rows i k) (all_left e) (all_right e) h
    at (go_row d k) e h = false≢true h
    at (stop_row d) e h = false≢true h

refers_from : {rows : Table} (i j : ℕ) → Refers rows i j → Is (refers_to j (row_at rows i))
refers_from i j (any_left {k = k} e) = rw e ((or_iff (eqb j j) (eqb k j)).1 (inl (eq-eqb j j refl)))
refers_from i j (any_right {j = k} e) = rw e ((or_iff (eqb k j) (eqb j j)).1 (inr (eq-eqb j j refl)))
refers_from i j (all_left {k = k} e) = rw e ((or_iff (eqb j j) (eqb k j)).1 (inl (eq-eqb j j refl)))
refers_from i j (all_right {j = k} e) = rw e ((or_iff (eqb k j) (eqb j j)).1 (inr (eq-eqb j j refl)))

-- a direction has its number, and no other has it
pub numbered : (d : Dir) → dir_of (number d) ≡ d
numbered (down first) = refl
numbered (down next) = refl
numbered (up first) = refl
numbered (up next) = refl

-- the numbers are 1 to 4
pub numbers : (d : Dir) → (1 ≤ number d) × (number d ≤ 4)
numbers (down first) = (omega arith, omega arith)
numbers (down next) = (omega arith, omega arith)
numbers (up first) = (omega arith, omega arith)
numbers (up next) = (omega arith, omega arith)

opposite_to : (d e : Dir) → Is (opposite d e) → e ≡ converse d
opposite_to d e h = sym (numbered e) ∙ (ap dir_of (sym ((eqb_iff (number (converse d)) (number e)).0 h)) ∙ numbered (converse d))

back_to_lem : (d : Dir) (j : ℕ) (r : Row) → Is (back_to d j r) → r ≡ go_row (converse d) j
back_to_lem d j yes_row h = false≢true h
back_to_lem d j no_row h = false≢true h
back_to_lem d j (is_row n) h = false≢true h
back_to_lem d j (isnot_row n) h = false≢true h
back_to_lem d j (any_row a b) h = false≢true h
back_to_lem d j (all_row a b) h = false≢true h
back_to_lem d j (go_row e k) h =
    let x = (and_iff (opposite d e) (eqb k j)).0 h in
    let p : e ≡ converse d = opposite_to d e x.0 in
    let q : k ≡ j = (eqb_iff k j).0 x.1 in
    rw (p, q)
back_to_lem d j (stop_row e) h = false≢true h

back_from : (d : Dir) (j : ℕ) (r : Row) → r ≡ go_row (converse d) j → Is (back_to d j r)
back_from d j r e = rw e ((and_iff (opposite d (converse d)) (eqb j j)).1 (eq-eqb (number (converse d)) (number (converse d)) refl, eq-eqb j j refl))

-- nothing but joined pairs is found, with how they are joined
pub record Marks (rows : Table) (m : List (List Bool)) : Type 0 where
  pub sound : (i j : ℕ) → Is (marked m i j) → Joined rows i j

module _ (rows : Table) (m : List (List Bool)) where
  -- what a rule gives is joined
  module _ (marks : Marks rows m) (i j : ℕ) where
    turns_sound : (d : Dir) (k l : ℕ) → l < length rows → row_at rows i ≡ go_row d k → Is (turns_at rows m d k j l) → Joined rows i j
    turns_sound d k l h e t =
        let x = (and_iff (eqb k l || marked m k l) (back_to d j (row_at rows l))).0 t in
        let f : row_at rows l ≡ go_row (converse d) j = back_to_lem d j (row_at rows l) x.1 in
        ⊎_elim
        (λ (q : Is (eqb k l)). let p : k ≡ l = (eqb_iff k l).0 q in by_turn k d e (rw p f))
        (λ (q : Is (marked m k l)). by_wrap k l d e (marks.sound k l q) f)
        ((or_iff (eqb k l) (marked m k l)).0 x.0)

    wraps_sound : (r : Row) → row_at rows i ≡ r → Is (wraps rows m r j) → Joined rows i j
    wraps_sound yes_row e h = false≢true h
    wraps_sound no_row e h = false≢true h
    wraps_sound (is_row n) e h = false≢true h
    wraps_sound (isnot_row n) e h = false≢true h
    wraps_sound (any_row a b) e h = false≢true h
    wraps_sound (all_row a b) e h = false≢true h
    wraps_sound (go_row d k) e h = let x = some_to (turns_at rows m d k j) (length rows) h in turns_sound d k x.0 x.1 e x.2
    wraps_sound (stop_row d) e h = false≢true h

    meets_sound : Is (meets (length rows) m i j) → Joined rows i j
    meets_sound h =
        let x = some_to (meets_at m i j) (length rows) h in
        let k = x.0 in
        let y = (and_iff (marked m i k) (marked m k j)).0 x.2 in
        by_join (marks.sound i k y.0) (marks.sound k j y.1)

    pub given_sound : Is (given rows m i j) → Joined rows i j
    unfolding given
    given_sound h =
        ⊎_elim
        (λ r. by_flat (refers_to_lem i j r))
        (λ g. ⊎_elim (λ r. wraps_sound (row_at rows i) refl r) (λ r. meets_sound r) ((or_iff (wraps rows m (row_at rows i) j) (meets (length rows) m i j)).0 g))
        ((or_iff (refers_to j (row_at rows i)) (wraps rows m (row_at rows i) j || meets (length rows) m i j)).0 h)

  -- each step is given
  module _ (i j : ℕ) where
    pub given_flat : Refers rows i j → Is (given rows m i j)
    unfolding given
    given_flat r = (or_iff (refers_to j (row_at rows i)) (wraps rows m (row_at rows i) j || meets (length rows) m i j)).1 (inl (refers_from i j r))

    later : Is (wraps rows m (row_at rows i) j) ⊎ Is (meets (length rows) m i j) → Is (given rows m i j)
    unfolding given
    later h = (or_iff (refers_to j (row_at rows i)) (wraps rows m (row_at rows i) j || meets (length rows) m i j)).1 (inr ((or_iff (wraps rows m (row_at rows i) j) (meets (length rows) m i j)).1 h))

    -- by no step or a pair found from k to l
    pub given_wrap : (d : Dir) (k l : ℕ) → l < length rows → row_at rows i ≡ go_row d k → (k ≡ l) ⊎ Is (marked m k l) → row_at rows l ≡ go_row (converse d) j → Is (given rows m i j)
    given_wrap d k l h e n f =
        let t : Is (turns_at rows m d k j l) = (and_iff (eqb k l || marked m k l) (back_to d j (row_at rows l))).1
        ((or_iff (eqb k l) (marked m k l)).1 (⊎_elim (λ q. inl (eq-eqb k l q)) (λ q. inr q) n), back_from d j (row_at rows l) f) in
        later (inl (rw e (some_from (turns_at rows m d k j) (length rows) l h t)))

    pub given_join : (k : ℕ) → k < length rows → Is (marked m i k) → Is (marked m k j) → Is (given rows m i j)
    given_join k h a b = later (inr (some_from (meets_at m i j) (length rows) k h ((and_iff (marked m i k) (marked m k j)).1 (a, b))))
