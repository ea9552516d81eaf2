-- Complete: a tree that satisfies is consistently marked by its own truths, with a good code at its top.
use Prim.Native.Nat.{ℕ, ◌<◌, ◌≤◌}
use native.Mathlib.Omega.{arith}
use native.Mathlib.Decide.{dec_lt}
use mathlib.Core.List.{[], ◌∷◌}
use mathlib.Core.Logic.{◌↔◌}
use mathlib.Core.Option.{Option, none, some, some-injective}
use mathlib.Core.Path.{◌≡◌, refl, sym, ◌∙◌, subst, ap}
use lib.ListN.{length, get_or-eq_default}
use Rattle.meaning.specs.Code.{name_in, HasFlag, HasBit, HoldsIn, in_yes, in_is, in_isnot, in_left, in_right, in_both, in_go, in_stop, TrueIn, Proper, Takes, Good}
use Rattle.meaning.specs.Loop.{LoopFree}
use Rattle.meaning.specs.Marked.{Fits, Marked, no_mark, mark}
use Rattle.meaning.specs.Table.{Side, first, next, Dir, down, up, Table, Row, row_at, asked, no_row, go_row, look, counted, InRange}
use Rattle.meaning.specs.Tree.{Tree, Place, nothing, node, Node, is_node, child, below, name_of, present, upwards, neighbour}
use Rattle.meaning.specs.Truth.{Holds, by_yes, by_is, by_isnot, by_left, by_right, by_both, by_go, by_stop, TrueAt, Satisfies}
use Rattle.meaning.proofs.Codes.Coding.{code_for}
use Rattle.meaning.proofs.Solution.Solve.{truth_dec, says}

-- 1 for a neighbour, 0 for none
there : Option Place → ℕ
there none = 0
there (some q) = 1

there_lt : (o : Option Place) → there o < 2
unfolding there
there_lt none = omega arith
there_lt (some q) = omega arith

none_there : (o : Option Place) → (there o ≡ 1 → ⊥) → o ≡ none
unfolding there
none_there none h = refl
none_there (some q) h = absurd (h refl)

not_there : {o : Option Place} → o ≡ none → there o ≡ 1 → ⊥
unfolding there
not_there e h = let k : ◌≡◌ {A = ℕ} 0 1 = rw e at h in omega arith

is_there : {o : Option Place} {q : Place} → o ≡ some q → there o ≡ 1
unfolding there
is_there e = rw e

not_two_parents : (p : Place) → there (upwards first p) ≡ 1 → there (upwards next p) ≡ 1 → ⊥
unfolding there
not_two_parents [] h k = omega arith
not_two_parents (first ∷ p) h k = omega arith
not_two_parents (next ∷ p) h k = omega arith

down_there : {x : Tree} {p : Place} → Node x → present x p ≡ some p
down_there is_node = refl

up_there : (s : Side) (p : Place) → upwards s (s ∷ p) ≡ some p
up_there first p = refl
up_there next p = refl

-- 1 for yes, 0 for no
bit_of_dec : {A : Type 0} → Dec A → ℕ
bit_of_dec (yes a) = 1
bit_of_dec (no a) = 0

module _ {A : Type 0} where
  bit_lt : (d : Dec A) → bit_of_dec d < 2
  unfolding bit_of_dec
  bit_lt (yes a) = omega arith
  bit_lt (no a) = omega arith

  bit_true : (d : Dec A) → bit_of_dec d ≡ 1 → A
  unfolding bit_of_dec
  bit_true (yes a) e = a
  bit_true (no a) e = absurd (omega arith)

  true_bit : (d : Dec A) → A → bit_of_dec d ≡ 1
  unfolding bit_of_dec
  true_bit (yes a) h = refl
  true_bit (no a) h = absurd (a h)

-- the code c describes the node p
record Describes (rows : Table) (t : Tree) (p : Place) (c : ℕ) : Type 0 where
  name : name_in rows c ≡ counted rows (name_of (below t p))
  flag : (d : Dir) → HasFlag rows c d ↔ (there (neighbour t d p) ≡ 1)
  bit : (i j : ℕ) (d : Dir) → row_at rows i ≡ go_row d j → HasBit rows c i ↔ TrueAt rows t i p

module _ {rows : Table} (range : InRange rows) (free : LoopFree rows) (t : Tree) where
  dec : (i : ℕ) (p : Place) → Node (below t p) → Dec (TrueAt rows t i p)
  dec i p n = from (dec_lt i (length rows))
    where
      from : Dec (i < length rows) → Dec (TrueAt rows t i p)
      from (yes l) = truth_dec range free t i p l n
      from (no l) = let m : length rows ≤ i = omega arith in no (λ h. says (rw (get_or-eq_default rows no_row m) at h))

  described : (p : Place) → Node (below t p) → (c : ℕ) × Describes rows t p c
  described p n =
      let f = code_for rows (counted rows (name_of (below t p))) (λ d. there (neighbour t d p)) (λ i. bit_of_dec (dec i p n)) (λ d. there_lt (neighbour t d p)) (λ i. bit_lt (dec i p n)) in
      let k = f.1 in (
        f.0,
        record {
          name = k.name;
          flag = k.flag;
          bit = λ i j d e. (λ h. bit_true (dec i p n) ((k.bit i (ap look e)).0 h), λ h. (k.bit i (ap look e)).1 (true_bit (dec i p n) h));
        },
      )

module _ {rows : Table} {t : Tree} {p : Place} {c : ℕ} (x : Describes rows t p c) where
  is_true : (r : Row) (i : ℕ) → row_at rows i ≡ r → HoldsIn rows c i r → Holds rows t r p
  is_true r i e in_yes = by_yes
  is_true r i e (in_is h) = by_is (sym x.name ∙ h)
  is_true r i e (in_isnot h) = by_isnot (λ k. h (x.name ∙ k))
  is_true r i e (in_left {j = j} h) = by_left (is_true (row_at rows j) j refl h)
  is_true r i e (in_right {k = k} h) = by_right (is_true (row_at rows k) k refl h)
  is_true r i e (in_both {j = j} {k = k} h g) = by_both (is_true (row_at rows j) j refl h) (is_true (row_at rows k) k refl g)
  is_true r i e (in_go {j = j} {d = d} h) = rw (← e) ((x.bit i j d e).0 h)
  is_true r i e (in_stop {d = d} h) = by_stop (none_there (neighbour t d p) (λ k. h ((x.flag d).1 k)))

module _ {rows : Table} {t : Tree} where
  in_code : {p : Place} {c : ℕ} (r : Row) (i : ℕ) → Describes rows t p c → row_at rows i ≡ r → Holds rows t r p → HoldsIn rows c i r
  in_code r i x e by_yes = in_yes
  in_code r i x e (by_is h) = in_is (x.name ∙ h)
  in_code r i x e (by_isnot h) = in_isnot (λ k. h (sym x.name ∙ k))
  in_code r i x e (by_left {i = j} h) = in_left (in_code (row_at rows j) j x refl h)
  in_code r i x e (by_right {j = k} h) = in_right (in_code (row_at rows k) k x refl h)
  in_code r i x e (by_both {i = j} {j = k} h g) = in_both (in_code (row_at rows j) j x refl h) (in_code (row_at rows k) k x refl g)
  in_code r i x e (by_go {d = d} {i = j} n h) = in_go ((x.bit i j d e).1 (rw e (by_go n h)))
  in_code r i x e (by_stop {d = d} n) = in_stop (λ k. not_there n ((x.flag d).0 k))

  true_in : {p : Place} {c : ℕ} → Describes rows t p c → (i : ℕ) → TrueIn rows c i ↔ TrueAt rows t i p
  true_in x i = (is_true x (row_at rows i) i refl, in_code (row_at rows i) i x refl)

  -- a `go` row is true where its row is true at the neighbour
  at_neighbour : (i j : ℕ) (d : Dir) (p q : Place) → row_at rows i ≡ go_row d j → neighbour t d p ≡ some q → TrueAt rows t i p ↔ TrueAt rows t j q
  at_neighbour i j d p q e n = (λ h. let k = says (rw e at h) in subst (λ (z : Place). TrueAt rows t j z) (some-injective k.0 q (sym k.1 ∙ n)) k.2, λ h. rw e (by_go n h))

  proper : {p : Place} {c : ℕ} → Describes rows t p c → Proper rows c
  proper {p} x = record {
    one_parent = λ h k. not_two_parents p ((x.flag (up first)).0 h) ((x.flag (up next)).0 k);
    flagged = λ i j d e h. (x.flag d).1 (let k = says (rw e at ((x.bit i j d e).0 h)) in is_there k.1);
  }

  takes : {p : Place} {c u : ℕ} (s : Side) → Describes rows t p c → Describes rows t (s ∷ p) u → Node (below t (s ∷ p)) → Takes rows s c u
  takes {p} {c} {u} s x y n = record {
    flag_down = (x.flag (down s)).1 (is_there (down_there n));
    flag_up = (y.flag (up s)).1 (is_there (up_there s p));
    forth = λ i j e. (λ h. (true_in y j).1 ((at_neighbour i j (down s) p (s ∷ p) e (down_there n)).0 ((x.bit i j (down s) e).0 h)), λ h. (x.bit i j (down s) e).1 ((at_neighbour i j (down s) p (s ∷ p) e (down_there n)).1 ((true_in y j).0 h)));
    back = λ i j e. (λ h. (true_in x j).1 ((at_neighbour i j (up s) (s ∷ p) p e (up_there s p)).0 ((y.bit i j (up s) e).0 h)), λ h. (y.bit i j (up s) e).1 ((at_neighbour i j (up s) (s ∷ p) p e (up_there s p)).1 ((true_in x j).0 h)));
  }

-- the code of the top, if there is a tree
data Built (rows : Table) (t : Tree) (p : Place) : Tree → Type 0 where
  built_none : Built rows t p nothing
  built : {n c : ℕ} {a b : Tree} → Marked rows (node n a b) (some c) → Describes rows t p c → Built rows t p (node n a b)

module _ {rows : Table} {t : Tree} {p : Place} {c : ℕ} (x : Describes rows t p c) where
  kid_fits : (s : Side) {k : Tree} → below t (s ∷ p) ≡ k → Built rows t (s ∷ p) k → (o : Option ℕ) × Fits rows s c o × Marked rows k o
  kid_fits s e built_none = (none, λ h. not_there (ap (λ z. present z (s ∷ p)) e) ((x.flag (down s)).0 h), no_mark)
  kid_fits s e (built {c = u} m y) = (some u, takes s x y (rw e is_node), m)

module _ {rows : Table} (range : InRange rows) (free : LoopFree rows) (t : Tree) where
  build : (x : Tree) (p : Place) → below t p ≡ x → Built rows t p x
  build nothing p e = built_none
  build (node n a b) p e =
      let d = described range free t p (rw e is_node) in
      let f = kid_fits d.1 first (ap (child first) e) (build a (first ∷ p) (ap (child first) e)) in
      let g = kid_fits d.1 next (ap (child next) e) (build b (next ∷ p) (ap (child next) e)) in
      built (mark (d.1.name ∙ ap (λ z. counted rows (name_of z)) e) (proper d.1) f.1 f.2 g.1 g.2) d.1

  top_code : (x : Tree) → TrueAt rows t (asked rows) [] → Node x → Built rows t [] x → (c : ℕ) × Marked rows x (some c) × Good rows c
  top_code nothing h n k = elim n [ ]
  top_code (node m a b) h n (built {c = c} k d) = (c, k, record { no_parent = λ s f. not_there refl ((d.flag (up s)).0 f); true_here = (true_in d (asked rows)).1 h })

  pub complete : Satisfies rows t → (c : ℕ) × Marked rows t (some c) × Good rows c
  complete h = top_code t h.true_at_top h.some_node (build t [] refl)
