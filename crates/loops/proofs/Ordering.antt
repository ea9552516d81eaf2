-- Along a reference the reach falls, so that the rows by their reach are in order.
use Prim.Native.Nat.{ℕ, zero, suc, ◌+◌, ◌-◌, ◌<◌, ◌≤◌}
use native.Mathlib.Decide.{dec_lt}
use native.Mathlib.Omega.{arith}
use mathlib.Core.Bool.{Bool, true, false, cond}
use mathlib.Core.List.{List, [], ◌∷◌, ◌++◌}
use mathlib.Core.Path.{◌≡◌, refl, sym, ◌∙◌}
use borrow.Author.Tests.{eqb-true, eq-eqb}
use lib.Dec.{eqb}
use lib.ListN.{length, get_or, take, drop, replicate}
use lib.Seq.{take-append_seam}
use Rattle.std.specs.Prelude.{count_by}
use Rattle.std.specs.List.{range_with_len, position_or_len, Contains}
use Rattle.std.specs.List.Sorted.{IsPermutation, IsNonDecreasingBy}
use Rattle.std.proofs.lemmas.List.{get_or-drop, get_or_append_left, get_or-append_right, get_or_default}
use Rattle.std.proofs.lemmas.List.FromFn.{length-range_with_len, get_or-range_with_len}
use Rattle.std.proofs.lemmas.List.Sorted.{Contains-permutation, All-permutation, length_permutation}
use Rattle.std.proofs.lemmas.List.Sums.{sum_by-cons, sum_by-le-sum_by, fails_before_first, passes_at_first}
use Rattle.meaning.specs.Loop.{LoopFree, by_flat, by_join, starts}
use Rattle.meaning.specs.Table.{Table, InRange, Refers}
use Rattle.meaning.proofs.Tests.{Is, false≢true}
use Rattle.meaning.proofs.Theorems.{loops}
use Rattle.counts.specs.Order.{Ordered}
use Rattle.counts.proofs.Grown.{zeros}
use Rattle.counts.proofs.Rank.{refers_there}
use Rattle.loops.specs.Arranging.{reach}
use Rattle.loops.specs.Closing.{marked, AllDone}
use Rattle.loops.proofs.Closed.{all_found}
use Rattle.loops.proofs.Given.{Marks}

-- fewer pass the first test, where all that pass it pass the second and some item passes the second alone
module _ (s t : ℕ → Bool) (more : (k : ℕ) → Is (s k) → Is (t k)) where
  one : (k : ℕ) → cond (s k) 1 0 ≤ cond (t k) 1 0
  one k = at (s k) (t k) (more k)
    where
      at : (a b : Bool) → (Is a → Is b) → cond a 1 0 ≤ cond b 1 0
      at true b h = rw (h refl) (omega arith)
      at false b h = omega arith

  count_fewer : (xs : List ℕ) (i : ℕ) → i < length xs → s (get_or xs i 0) ≡ false → Is (t (get_or xs i 0)) → count_by s xs < count_by t xs
  count_fewer [] i h a b = absurd (omega arith)
  count_fewer (x ∷ xs) zero h a b =
      let l = sum_by-le-sum_by (λ (k : ℕ). cond (s k) 1 0) (λ (k : ℕ). cond (t k) 1 0) xs one in
      let p = sum_by-cons (λ (k : ℕ). cond (s k) 1 0) x xs in
      let q = sum_by-cons (λ (k : ℕ). cond (t k) 1 0) x xs in
      let y : ◌≡◌ {A = ℕ} (cond (s x) 1 0) 0 = rw a in
      let z : ◌≡◌ {A = ℕ} (cond (t x) 1 0) 1 = rw b in
      omega (arith, l, p, q, y, z)
  count_fewer (x ∷ xs) (suc i) h a b =
      let l = count_fewer xs i (omega arith) a b in
      let p = sum_by-cons (λ (k : ℕ). cond (s k) 1 0) x xs in
      let q = sum_by-cons (λ (k : ℕ). cond (t k) 1 0) x xs in
      omega (arith, one x)

module _ (rows : Table) (m : List (List Bool)) (range : InRange rows) (marks : Marks rows m) (closed : AllDone rows m) (free : LoopFree rows) where
  not_joined_to_itself : (j : ℕ) → marked m j j ≡ false
  not_joined_to_itself j = at (marked m j j) refl
    where
      at : (b : Bool) → marked m j j ≡ b → b ≡ false
      at true q = absurd (free j (starts (((loops rows).closure j j).0 (marks.sound j j q))))
      at false q = refl

  reach_falls : (i j : ℕ) → Refers rows i j → reach (length rows) m j < reach (length rows) m i
  reach_falls i j r =
      let h = range.referred r in
      let e : get_or (range_with_len 0 (length rows)) j 0 ≡ j = omega (arith, get_or-range_with_len 0 (length rows) j 0 h) in
      count_fewer (marked m j) (marked m i)
      (λ k f. (all_found rows m range closed (by_join (by_flat r) (marks.sound j k f))).mark)
      (range_with_len 0 (length rows)) j (omega (arith, length-range_with_len 0 (length rows)))
      (rw e (not_joined_to_itself j))
      (rw e (all_found rows m range closed (by_flat r)).mark)

  -- the rows' numbers as they come and by their reach, and then nothing
  module _ (numbers sorted rest : List ℕ) (long : length numbers ≡ length rows) (each : (i : ℕ) → i < length rows → Contains numbers i) (few : (k : ℕ) → k < length rows → get_or numbers k 0 < length rows) (blank : (k : ℕ) → get_or rest k 0 ≡ 0) (moved : IsPermutation numbers sorted) (rising : IsNonDecreasingBy (reach (length rows) m) sorted) where
    as_long : length sorted ≡ length rows
    as_long = length_permutation numbers sorted moved ∙ long

    abbrev place_of : ℕ → ℕ
    place_of i = position_or_len (eqb i) sorted

    there : (i : ℕ) → i < length rows → place_of i < length rows
    there i h =
        at
        (Contains-permutation numbers sorted i moved (each i h))
        (dec_lt (place_of i) (length rows))
      where
        at : Contains sorted i → Dec (place_of i < length rows) → place_of i < length rows
        at c (yes l) = l
        at c (no n) = false≢true (sym (fails_before_first (eqb i) sorted c.0 i (omega (arith, c.1, as_long))) ∙ eq-eqb i (get_or sorted c.0 i) (sym c.2))

    stands : (i : ℕ) → i < length rows → get_or sorted (place_of i) 0 ≡ i
    stands i h = sym (eqb-true i (get_or sorted (place_of i) 0) (passes_at_first (eqb i) sorted 0 (omega (arith, there i h, as_long))))

    small : (k : ℕ) → k < length rows → get_or sorted k 0 < length rows
    small k h =
        All-permutation (λ (x : ℕ). x < length rows) numbers sorted moved
        (λ j d g. rw (get_or_default numbers j d 0 g) (few j (omega (arith, long))))
        k 0 (omega (arith, as_long))

    before : (i j : ℕ) → Refers rows i j → place_of j < place_of i
    before i j r = at (dec_lt (place_of j) (place_of i))
      where
        a : i < length rows
        a = refers_there i r

        b : j < length rows
        b = range.referred r

        at : Dec (place_of j < place_of i) → place_of j < place_of i
        at (yes l) = l
        at (no n) =
            let g = rising (place_of i) (place_of j) 0 (omega arith) (omega (arith, there j b, as_long)) in
            absurd (omega (arith, reach_falls i j r, rw (stands i a, stands j b) at g))

    ordered : Ordered rows (sorted ++ rest)
    ordered = record {
      place = place_of;
      there = there;
      stands = λ i h. get_or_append_left sorted rest 0 (place_of i) (omega (arith, there i h, as_long)) ∙ stands i h;
      before = before;
      rows_only = λ k h. rw (get_or_append_left sorted rest 0 k (omega (arith, as_long))) (small k h);
      rest = λ k h. get_or-append_right sorted rest (length rows) k 0 as_long h ∙ blank (k - length rows);
    }

  -- the same as they stand at the front of w zeros
  module _ (w n : ℕ) (e : n ≡ length rows) (numbers sorted : List ℕ) (long : length numbers ≡ n) where
    abbrev written : List ℕ
    written = numbers ++ drop n (replicate w 0)

    front : (l : List ℕ) → take n (numbers ++ l) ≡ numbers
    front l = rw (← long) (take-append_seam numbers l)

    blank : (k : ℕ) → get_or (drop n written) k 0 ≡ 0
    blank k =
        get_or-drop n written k 0 ∙ (get_or-append_right numbers (drop n (replicate w 0)) n (n + k) 0 long (omega arith) ∙ (get_or-drop n (replicate w 0) (n + k - n) 0 ∙ zeros w (n + (n + k - n))))

    pub ordered_rows : ((i : ℕ) → i < n → Contains numbers i) → ((k : ℕ) → k < n → get_or numbers k 0 < n) → IsPermutation (take n written) sorted → IsNonDecreasingBy (reach n m) sorted → Ordered rows (sorted ++ drop n written)
    ordered_rows each few moved rising =
        ordered numbers sorted (drop n written) (long ∙ e) (λ i h. each i (omega arith)) (λ k h. rw (← e) (few k (omega arith))) blank (rw (front (drop n (replicate w 0))) at moved) (rw e at rising)
