-- That a table is accepted, by computing: references in range, and no loop, which is shown by a list of pairs of rows that holds every pair
-- that the rules of `Joined` give and no row with itself.
use Prim.Native.Nat.{ℕ}
use mathlib.Core.Bool.{Bool, true, false, not, ◌&&◌, ◌||◌}
use mathlib.Core.List.{List, [], ◌∷◌}
use mathlib.Core.Logic.{◌⊎◌, inl, inr}
use mathlib.Core.Path.{◌≡◌, refl, subst}
use borrow.Author.Tests.{eqb-true, eq-eqb, ltb-true, leb-true}
use lib.Dec.{eqb, ltb, leb}
use lib.ListN.{length}
use Rattle.meaning.specs.Loop.{LoopFree, Joined, by_flat, by_turn, by_wrap, by_join}
use Rattle.meaning.specs.Outcome.{Accepted}
use Rattle.meaning.specs.Table.{Dir, down, up, converse, Table, Row, row_at, yes_row, no_row, is_row, isnot_row, any_row, all_row, go_row, stop_row, Refers, any_left, any_right, all_left, all_right, InRange, size, row_limit, size_limit}
use Rattle.meaning.proofs.Loops.Joined.{joined_stretch}
use Rattle.meaning.proofs.Loops.Turned.{turned}
use Rattle.meaning.proofs.Search.Agrees.{side_refl}
use Rattle.meaning.proofs.Search.Model.{all_rows, on_go, same_side}
use Rattle.meaning.proofs.Search.Rows.{every_to, every_go}
use Rattle.meaning.proofs.Tests.{Is, false≢true, or_iff, and_iff, implies, implies_iff, not_iff}

-- A test of what `any` and `all` rows refer to.
abbrev on_refs : (ℕ → Bool) → Row → Bool
on_refs f yes_row = true
on_refs f no_row = true
on_refs f (is_row n) = true
on_refs f (isnot_row n) = true
on_refs f (any_row j k) = f j && f k
on_refs f (all_row j k) = f j && f k
on_refs f (go_row d j) = true
on_refs f (stop_row d) = true

module _ (rows : Table) (f : ℕ → ℕ → Bool) (h : Is (all_rows (λ i r. on_refs (f i) r) 0 rows)) where
  on_any : (i j k : ℕ) → row_at rows i ≡ any_row j k → Is (f i j) × Is (f i k)
  on_any i j k e = (and_iff (f i j) (f i k)).0 (every_to (λ i r. on_refs (f i) r) rows (λ i. refl) h i (any_row j k) e)

  on_all : (i j k : ℕ) → row_at rows i ≡ all_row j k → Is (f i j) × Is (f i k)
  on_all i j k e = (and_iff (f i j) (f i k)).0 (every_to (λ i r. on_refs (f i) r) rows (λ i. refl) h i (all_row j k) e)

  every_ref : (i j : ℕ) → Refers rows i j → Is (f i j)
  every_ref i j (any_left {k = k} e) = (on_any i j k e).0
  every_ref i k (any_right {j = j} e) = (on_any i j k e).1
  every_ref i j (all_left {k = k} e) = (on_all i j k e).0
  every_ref i k (all_right {j = j} e) = (on_all i j k e).1

-- References in range.
abbrev in_range_b : Table → Bool
in_range_b rows = all_rows (λ i r. on_refs (λ j. ltb j (length rows)) r) 0 rows && all_rows (λ i r. on_go (λ d j. ltb j (length rows)) r) 0 rows

in_range : (rows : Table) → Is (in_range_b rows) → InRange rows
in_range rows h =
    let x = (and_iff (all_rows (λ i r. on_refs (λ j. ltb j (length rows)) r) 0 rows) (all_rows (λ i r. on_go (λ d j. ltb j (length rows)) r) 0 rows)).0 h in
    record {
      referred = λ {i} {j} r. ltb-true j (length rows) (every_ref rows (λ i j. ltb j (length rows)) x.0 i j r);
      looked = λ i {j} {d} e. ltb-true j (length rows) ((every_go rows (λ i d j. ltb j (length rows))).0 x.1 i j d e);
    }

-- Pairs of rows.
abbrev pub Pairs : Type 0
Pairs = List (ℕ × ℕ)

abbrev mem : Pairs → ℕ → ℕ → Bool
mem [] i j = false
mem (x ∷ xs) i j = (eqb x.0 i && eqb x.1 j) || mem xs i j

abbrev every : (ℕ → ℕ → Bool) → Pairs → Bool
every f [] = true
every f (x ∷ xs) = f x.0 x.1 && every f xs

every_mem : (f : ℕ → ℕ → Bool) (L : Pairs) (i j : ℕ) → Is (every f L) → Is (mem L i j) → Is (f i j)
every_mem f [] i j h k = false≢true k
every_mem f (x ∷ xs) i j h k = at ((or_iff (eqb x.0 i && eqb x.1 j) (mem xs i j)).0 k) (every_mem f xs i j ((and_iff (f x.0 x.1) (every f xs)).0 h).1)
  where
    at : Is (eqb x.0 i && eqb x.1 j) ⊎ Is (mem xs i j) → (Is (mem xs i j) → Is (f i j)) → Is (f i j)
    at (inl e) ih =
        let y = (and_iff (eqb x.0 i) (eqb x.1 j)).0 e in
        let p : x.0 ≡ i = eqb-true x.0 i y.0 in
        let q : x.1 ≡ j = eqb-true x.1 j y.1 in
        subst (λ (z : ℕ). Is (f i z)) q (subst (λ (z : ℕ). Is (f z x.1)) p ((and_iff (f x.0 x.1) (every f xs)).0 h).0)
    at (inr e) ih = ih e

abbrev same_dir : Dir → Dir → Bool
same_dir (down s) (down z) = same_side s z
same_dir (down s) (up z) = false
same_dir (up s) (down z) = false
same_dir (up s) (up z) = same_side s z

same_dir_lem : (d : Dir) → Is (same_dir d d)
same_dir_lem (down s) = side_refl s
same_dir_lem (up s) = side_refl s

-- The rules stay in L. `back`: from row i, gone by d, one comes back at this row.
abbrev back : Pairs → ℕ → Dir → Row → Bool
back L i d r = on_go (λ e j. implies (same_dir (converse d) e) (mem L i j)) r

abbrev turn_b : Table → Pairs → ℕ → Dir → ℕ → Bool
turn_b rows L i d k = back L i d (row_at rows k) && every (λ a b. implies (eqb a k) (back L i d (row_at rows b))) L

abbrev join_b : Pairs → ℕ → ℕ → Bool
join_b L i k = every (λ a j. implies (eqb a k) (mem L i j)) L

abbrev closed_b : Table → Pairs → Bool
closed_b rows L =
    (all_rows (λ i r. on_refs (mem L i) r) 0 rows && all_rows (λ i r. on_go (turn_b rows L i) r) 0 rows)
    && (every (join_b L) L && every (λ i j. not (eqb i j)) L)

module _ (rows : Table) (L : Pairs) (h : Is (closed_b rows L)) where
  rules : (Is (all_rows (λ i r. on_refs (mem L i) r) 0 rows) × Is (all_rows (λ i r. on_go (turn_b rows L i) r) 0 rows)) × (Is (every (join_b L) L) × Is (every (λ i j. not (eqb i j)) L))
  rules =
      let a = all_rows (λ i r. on_refs (mem L i) r) 0 rows in
      let b = all_rows (λ i r. on_go (turn_b rows L i) r) 0 rows in
      let c = every (join_b L) L in
      let d = every (λ i j. not (eqb i j)) L in
      let x = (and_iff (a && b) (c && d)).0 h in
      ((and_iff a b).0 x.0, (and_iff c d).0 x.1)

  came : (i j l : ℕ) (d : Dir) → row_at rows l ≡ go_row (converse d) j → Is (back L i d (row_at rows l)) → Is (mem L i j)
  came i j l d e k = (implies_iff (same_dir (converse d) (converse d)) (mem L i j)).0 (subst (λ (r : Row). Is (back L i d r)) e k) (same_dir_lem (converse d))

  -- a test of the pairs that begin with k
  from : (k : ℕ) (f : ℕ → Bool) (l : ℕ) → Is (every (λ a b. implies (eqb a k) (f b)) L) → Is (mem L k l) → Is (f l)
  from k f l x y = (implies_iff (eqb k k) (f l)).0 (every_mem (λ a b. implies (eqb a k) (f b)) L k l x y) (eq-eqb k k refl)

  turning : (i k : ℕ) (d : Dir) → row_at rows i ≡ go_row d k → Is (back L i d (row_at rows k)) × Is (every (λ a b. implies (eqb a k) (back L i d (row_at rows b))) L)
  turning i k d e = (and_iff (back L i d (row_at rows k)) (every (λ a b. implies (eqb a k) (back L i d (row_at rows b))) L)).0 ((every_go rows (turn_b rows L)).0 rules.0.1 i k d e)

  in_list : {i j : ℕ} → Joined rows i j → Is (mem L i j)
  in_list (by_flat {i} {j} r) = every_ref rows (mem L) rules.0.0 i j r
  in_list (by_turn {i} {j} k d e f) = came i j k d f (turning i k d e).0
  in_list (by_wrap {i} {j} k l d e x f) = came i j l d f (from k (λ b. back L i d (row_at rows b)) l (turning i k d e).1 (in_list x))
  in_list (by_join {i} {j} {k} x y) = from k (mem L i) j (every_mem (join_b L) L i k rules.1.0 (in_list x)) (in_list y)

  loop_free : LoopFree rows
  loop_free i l = (not_iff (eqb i i)).0 (every_mem (λ i j. not (eqb i j)) L i i rules.1.1 (in_list ((joined_stretch rows i i).1 ((turned rows i).0 l)))) (eq-eqb i i refl)

-- All of it.
abbrev pub accepts_b : Table → Pairs → Bool
accepts_b rows L = (ltb 0 (length rows) && leb (length rows) row_limit) && (leb (size rows) size_limit && (in_range_b rows && closed_b rows L))

pub accepted : (rows : Table) (L : Pairs) → Is (accepts_b rows L) → Accepted rows
accepted rows L h =
    let x = (and_iff (ltb 0 (length rows) && leb (length rows) row_limit) (leb (size rows) size_limit && (in_range_b rows && closed_b rows L))).0 h in
    let y = (and_iff (ltb 0 (length rows)) (leb (length rows) row_limit)).0 x.0 in
    let z = (and_iff (leb (size rows) size_limit) (in_range_b rows && closed_b rows L)).0 x.1 in
    let w = (and_iff (in_range_b rows) (closed_b rows L)).0 z.1 in
    record {
      some_row = ltb-true 0 (length rows) y.0;
      few_rows = leb-true (length rows) row_limit y.1;
      in_range = in_range rows w.0;
      loop_free = loop_free rows L w.1;
      room = leb-true (size rows) size_limit z.0;
    }
