-- Sound: a consistently marked tree whose top has a good code satisfies. Truth in the codes solves the rows on the tree, so it is the truth.
use Prim.Native.Nat.{ℕ, ◌<◌}
use mathlib.Core.List.{[], ◌∷◌}
use mathlib.Core.Logic.{◌↔◌, inl, inr}
use mathlib.Core.Option.{Option, none, some, none-ne-some, some-injective, some-ne-none}
use mathlib.Core.Path.{◌≡◌, refl, sym, ◌∙◌, subst}
use lib.ListN.{length}
use Rattle.meaning.specs.Code.{name_in, HasFlag, HasBit, HoldsIn, in_yes, in_is, in_isnot, in_left, in_right, in_both, in_go, in_stop, TrueIn, Proper, Takes, Good}
use Rattle.meaning.specs.Loop.{LoopFree}
use Rattle.meaning.specs.Marked.{Fits, Marked, no_mark, mark}
use Rattle.meaning.specs.Table.{Side, first, next, Dir, down, up, Table, Row, row_at, asked, yes_row, no_row, is_row, isnot_row, any_row, all_row, go_row, stop_row, counted, InRange}
use Rattle.meaning.specs.Tree.{Tree, Place, Node, is_node, child, below, name_of, present, neighbour}
use Rattle.meaning.specs.Truth.{Satisfies, Says, Solves}
use Rattle.meaning.proofs.Solution.Solve.{truth_unique}

-- a part of a tree, with its mark
record Part (rows : Table) (t : Tree) : Type 0 where
  code : Option ℕ
  marked : Marked rows t code

module _ {rows : Table} where
  kid : (s : Side) {t : Tree} {o : Option ℕ} → Marked rows t o → Part rows (child s t)
  kid first no_mark = record { code = none; marked = no_mark }
  kid next no_mark = record { code = none; marked = no_mark }
  kid first (mark {x = x} e p f h g k) = record { code = x; marked = h }
  kid next (mark {y = y} e p f h g k) = record { code = y; marked = k }

  kid_fits : (s : Side) {t : Tree} {c : ℕ} (m : Marked rows t (some c)) → Fits rows s c (kid s m).code
  unfolding kid
  kid_fits first (mark e p f h g k) = f
  kid_fits next (mark e p f h g k) = g

  kid_none : (s : Side) {t : Tree} (m : Marked rows t none) → (kid s m).code ≡ none
  unfolding kid
  kid_none first no_mark = refl
  kid_none next no_mark = refl

  -- the part at a place
  at : {t : Tree} → Part rows t → (p : Place) → Part rows (below t p)
  at x [] = x
  at x (s ∷ p) = kid s (at x p).marked

  has_code : {t : Tree} {o : Option ℕ} → Node t → Marked rows t o → (c : ℕ) × (o ≡ some c)
  has_code is_node (mark {c = c} e p f h g k) = (c, refl)

  has_name : {t : Tree} {c : ℕ} → Marked rows t (some c) → name_in rows c ≡ counted rows (name_of t)
  has_name (mark e p f h g k) = e

  is_proper : {t : Tree} {c : ℕ} → Marked rows t (some c) → Proper rows c
  is_proper (mark e p f h g k) = p

  marked_node : {t : Tree} {c : ℕ} → Marked rows t (some c) → Node t
  marked_node (mark e p f h g k) = is_node

  absent : {t : Tree} (p : Place) → Marked rows t none → present t p ≡ none
  absent p no_mark = refl

  there : {t : Tree} {c : ℕ} (p : Place) → Marked rows t (some c) → present t p ≡ some p
  there p (mark e q f h g k) = refl

-- a neighbour's code, and what the bits of the code c say of it; or no neighbour
data Around (rows : Table) (c : ℕ) (d : Dir) : Option Place → (Place → Option ℕ) → Type 0 where
  alone : {code : Place → Option ℕ} → (HasFlag rows c d → ⊥) → Around rows c d none code
  beside : {code : Place → Option ℕ} {q : Place} (u : ℕ) → code q ≡ some u → HasFlag rows c d
      → ((i j : ℕ) → row_at rows i ≡ go_row d j → HasBit rows c i ↔ TrueIn rows u j) → Around rows c d (some q) code

module _ {rows : Table} where
  fits : (s : Side) {t : Tree} {o : Option ℕ} (m : Marked rows t o) (c : ℕ) → o ≡ some c → Fits rows s c (kid s m).code
  fits s no_mark c e = absurd (none-ne-some c e)
  fits s (mark {c = c'} n p f h g k) c e =
      subst (λ (z : ℕ). Fits rows s z (kid s (mark {c = c'} n p f h g k)).code) (some-injective c' c e) (kid_fits s (mark {c = c'} n p f h g k))

  parent : (s : Side) {t : Tree} {o : Option ℕ} (m : Marked rows t o) (c : ℕ) → (kid s m).code ≡ some c → (d : ℕ) × (o ≡ some d) × Takes rows s d c
  parent s no_mark c e = absurd (none-ne-some c (sym (kid_none s no_mark) ∙ e))
  parent s (mark {c = d} n p f h g k) c e = (d, refl, subst (λ (o : Option ℕ). Fits rows s d o) e (kid_fits s (mark {c = d} n p f h g k)))

  module _ {t : Tree} {top : ℕ} (m : Marked rows t (some top)) (good : (s : Side) → HasFlag rows top (up s) → ⊥) where
    part : (p : Place) → Part rows (below t p)
    part = at (record { code = some top; marked = m })

    code : Place → Option ℕ
    code p = (part p).code

    around_kid : (s : Side) (c : ℕ) (p : Place) {x : Tree} (o : Option ℕ) → Marked rows x o → Fits rows s c o → code (s ∷ p) ≡ o → Around rows c (down s) (present x (s ∷ p)) code
    around_kid s c p none k f e = rw (absent (s ∷ p) k) (alone f)
    around_kid s c p (some u) k f e = rw (there (s ∷ p) k) (beside u e f.flag_down f.forth)

    over : (s : Side) (p : Place) (c : ℕ) → code (s ∷ p) ≡ some c → (d : ℕ) × (code p ≡ some d) × Takes rows s d c
    unfolding code part at
    over s p c e = parent s (part p).marked c e

    proper : (p : Place) (c : ℕ) → code p ≡ some c → Proper rows c
    unfolding code
    proper p c e = is_proper (rw e at (part p).marked)

    around : (d : Dir) (p : Place) (c : ℕ) → code p ≡ some c → Around rows c d (neighbour t d p) code
    unfolding code part at
    around (down s) p c e = around_kid s c p (kid s (part p).marked).code (kid s (part p).marked).marked (fits s (part p).marked c e) refl
    around (up s) [] c e = alone (subst (λ (z : ℕ). HasFlag rows z (up s) → ⊥) (some-injective top c e) (good s))
    around (up first) (first ∷ p) c e = let x = over first p c e in beside x.0 x.1 x.2.flag_up x.2.back
    around (up first) (next ∷ p) c e = let x = over next p c e in alone (λ h. (proper (next ∷ p) c e).one_parent h x.2.flag_up)
    around (up next) (first ∷ p) c e = let x = over first p c e in alone (λ h. (proper (first ∷ p) c e).one_parent x.2.flag_up h)
    around (up next) (next ∷ p) c e = let x = over next p c e in beside x.0 x.1 x.2.flag_up x.2.back

    -- truth in the codes
    InCode : ℕ → Place → Type 0
    InCode i p = (c : ℕ) × (code p ≡ some c) × TrueIn rows c i

    here : (p : Place) (c : ℕ) → code p ≡ some c → (i : ℕ) → TrueIn rows c i → InCode i p
    unfolding InCode
    here p c e i h = (c, e, h)

    from_here : (p : Place) (c : ℕ) → code p ≡ some c → (i : ℕ) → InCode i p → TrueIn rows c i
    unfolding InCode
    from_here p c e i x = subst (λ (z : ℕ). TrueIn rows z i) (some-injective x.0 c (sym x.1 ∙ e)) x.2

    module _ (p : Place) (c : ℕ) (e : code p ≡ some c) where
      named : name_in rows c ≡ counted rows (name_of (below t p))
      unfolding code
      named = has_name (rw e at (part p).marked)

      go_says : (i j : ℕ) (d : Dir) {o : Option Place} → row_at rows i ≡ go_row d j → Around rows c d o code → HasBit rows c i → (q : Place) × (o ≡ some q) × InCode j q
      unfolding InCode
      go_says i j d r (alone f) h = absurd (f ((proper p c e).flagged i j d r h))
      go_says i j d r (beside {q = q} u w f l) h = (q, refl, (u, w, (l i j r).0 h))

      go_bit : (i j : ℕ) (d : Dir) {o : Option Place} → row_at rows i ≡ go_row d j → Around rows c d o code → (q : Place) × (o ≡ some q) × InCode j q → HasBit rows c i
      unfolding InCode
      go_bit i j d r (alone f) x = absurd (none-ne-some x.0 x.1)
      go_bit i j d r (beside {q = q} u w f l) x = (l i j r).1 (from_here q u w j (subst (λ (z : Place). InCode j z) (sym (some-injective q x.0 x.1)) x.2))

      stop_says : (d : Dir) {o : Option Place} → Around rows c d o code → (HasFlag rows c d → ⊥) → o ≡ none
      stop_says d (alone f) h = refl
      stop_says d (beside u w f l) h = absurd (h f)

      stop_flag : (d : Dir) {o : Option Place} → Around rows c d o code → o ≡ none → HasFlag rows c d → ⊥
      stop_flag d (alone f) h = f
      stop_flag d (beside {q = q} u w f l) h = absurd (some-ne-none q h)

      code_says : (r : Row) (i : ℕ) → row_at rows i ≡ r → HoldsIn rows c i r → Says rows t InCode r p
      code_says r i w in_yes = tt
      code_says r i w (in_is h) = sym named ∙ h
      code_says r i w (in_isnot h) = λ k. h (named ∙ k)
      code_says r i w (in_left {j = j} h) = inl (here p c e j h)
      code_says r i w (in_right {k = k} h) = inr (here p c e k h)
      code_says r i w (in_both {j = j} {k = k} h l) = (here p c e j h, here p c e k l)
      code_says r i w (in_go {j = j} {d = d} h) = go_says i j d w (around d p c e) h
      code_says r i w (in_stop {d = d} h) = stop_says d (around d p c e) h

      says_code : (r : Row) (i : ℕ) → row_at rows i ≡ r → Says rows t InCode r p → HoldsIn rows c i r
      says_code yes_row i w h = in_yes
      says_code no_row i w h = absurd h
      says_code (is_row n) i w h = in_is (named ∙ h)
      says_code (isnot_row n) i w h = in_isnot (λ k. h (sym named ∙ k))
      says_code (any_row j k) i w (inl h) = in_left (from_here p c e j h)
      says_code (any_row j k) i w (inr h) = in_right (from_here p c e k h)
      says_code (all_row j k) i w h = in_both (from_here p c e j h.0) (from_here p c e k h.1)
      says_code (go_row d j) i w h = in_go (go_bit i j d w (around d p c e) h)
      says_code (stop_row d) i w h = in_stop (stop_flag d (around d p c e) h)

    code_solves : Solves rows t InCode
    unfolding code
    code_solves i p l n =
        let f = has_code n (part p).marked in
        let c = f.0 in
        let e = f.1 in
        (λ h. code_says p c e (row_at rows i) i refl (from_here p c e i h), λ h. here p c e i (says_code p c e (row_at rows i) i refl h))

pub sound : {rows : Table} → InRange rows → LoopFree rows → 0 < length rows → (t : Tree) (c : ℕ) → Marked rows t (some c) → Good rows c → Satisfies rows t
unfolding InCode code part at
sound {rows} range free l t c m g = record {
  some_node = marked_node m;
  true_at_top = (truth_unique range free t (InCode m g.no_parent) (code_solves m g.no_parent) (asked rows) [] l (marked_node m)).0 (c, refl, g.true_here);
}
