-- Laws of `Marking`: how the marks start, how one code hands its mark on, and that in the end exactly the codes met are marked.
use Prim.Native.Nat.{ℕ, ◌+◌, ◌<◌, ◌≤◌}
use native.Mathlib.Omega.{arith}
use native.Mathlib.Decide.{ℕ_discrete}
use mathlib.Core.List.{List}
use mathlib.Core.Logic.{◌⊎◌, inl, inr, ◌≢◌}
use mathlib.Core.Path.{◌≡◌, refl, sym, subst, ◌∙◌}
use lib.ListN.{length, get_or, set, length-set}
use lib.Seq.{get_or-set_same, get_or-set_other}
use borrow.Author.Tests.{eq-eqb, ne_eqb}
use Rattle.meaning.specs.Code.{codes}
use Rattle.meaning.specs.Outcome.{Slices, recorded, absent, Met, at_top, onward, UsedIs, met, not_met, Searched}
use Rattle.meaning.specs.Table.{Side, first, next, Table}
use Rattle.meaning.proofs.Rounds.Places.{neighbour_earlier}
use Rattle.meaning.proofs.Sides.{sides}
use Rattle.rounds.proofs.Places.{kept_same, kept_then, kept_store}
use Rattle.rounds.specs.Kept.{Kept}
use Rattle.rounds.specs.Used.{marked, Linked, Marking, Handed}

-- a mark more: the others stay
module _ (u : ℕ) (used : List ℕ) where
  pub marked_none : u ≡ absent → marked u used ≡ used
  unfolding marked
  marked_none e = rw (eq-eqb u absent e)

  pub marked-some : u ≢ absent → marked u used ≡ set used u 1
  unfolding marked
  marked-some n = rw (ne_eqb u absent n)

  pub marked_there : u ≢ absent → u < length used → get_or (marked u used) u 0 ≡ 1
  marked_there n l = rw (marked-some n) (get_or-set_same used u 1 0 l)

  pub marked_other : (c : ℕ) → c ≢ u → get_or (marked u used) c 0 ≡ get_or used c 0
  marked_other c m = at (ℕ_discrete u absent)
    where
      at : Dec (u ≡ absent) → get_or (marked u used) c 0 ≡ get_or used c 0
      at (yes e) = rw (marked_none e)
      at (no n) = rw (marked-some n) (get_or-set_other used u c 1 0 m)

  length_marked : length (marked u used) ≡ length used
  length_marked = at (ℕ_discrete u absent)
    where
      at : Dec (u ≡ absent) → length (marked u used) ≡ length used
      at (yes e) = rw (marked_none e)
      at (no n) = rw (marked-some n, length-set)

  kept_marked : {n : ℕ} → (u ≢ absent → u < n) → Kept n used (marked u used)
  kept_marked {n} l = at (ℕ_discrete u absent)
    where
      at : Dec (u ≡ absent) → Kept n used (marked u used)
      at (yes e) = rw (marked_none e) kept_same
      at (no m) = rw (marked-some m) (kept_store used u 1 (l m))

-- code c is a neighbour of code t
Beside : Slices → ℕ → ℕ → Type 0
Beside x t c = (s : Side) × (get_or (recorded x s) t 0 ≡ c) × (c ≢ absent)

-- marks stay, and new ones are on neighbours of t
record More (x : Slices) (t : ℕ) (old new : List ℕ) : Type 0 where
  stay : (c : ℕ) → get_or old c 0 ≡ 1 → get_or new c 0 ≡ 1
  only : (c : ℕ) → (get_or new c 0 ≡ get_or old c 0) ⊎ ((get_or new c 0 ≡ 1) × Beside x t c)

module _ {x : Slices} {t : ℕ} where
  twice : {a b c : List ℕ} → More x t a b → More x t b c → More x t a c
  twice {a} {b} {c} p q = record { stay = λ i e. q.stay i (p.stay i e); only = λ i. at i (p.only i) (q.only i) }
    where
      at : (i : ℕ) → (get_or b i 0 ≡ get_or a i 0) ⊎ ((get_or b i 0 ≡ 1) × Beside x t i) → (get_or c i 0 ≡ get_or b i 0) ⊎ ((get_or c i 0 ≡ 1) × Beside x t i)
          → (get_or c i 0 ≡ get_or a i 0) ⊎ ((get_or c i 0 ≡ 1) × Beside x t i)
      at i w (inr z) = inr z
      at i (inl d) (inl e) = inl (e ∙ d)
      at i (inr z) (inl e) = inr (e ∙ z.0, z.1)

  -- the neighbour of one side is marked
  one : (s : Side) (used : List ℕ) → (get_or (recorded x s) t 0 ≢ absent → get_or (recorded x s) t 0 < length used) → More x t used (marked (get_or (recorded x s) t 0) used)
  unfolding Beside
  one s used l = record { stay = λ c e. stays c e (ℕ_discrete c u) (ℕ_discrete u absent); only = λ c. new c (ℕ_discrete c u) (ℕ_discrete u absent) }
    where
      u : ℕ
      u = get_or (recorded x s) t 0

      stays : (c : ℕ) → get_or used c 0 ≡ 1 → Dec (c ≡ u) → Dec (u ≡ absent) → get_or (marked u used) c 0 ≡ 1
      stays c e (no m) d = marked_other u used c m ∙ e
      stays c e (yes i) (yes d) = rw (marked_none u used d) e
      stays c e (yes i) (no d) = rw i (marked_there u used d (l d))

      new : (c : ℕ) → Dec (c ≡ u) → Dec (u ≡ absent) → (get_or (marked u used) c 0 ≡ get_or used c 0) ⊎ ((get_or (marked u used) c 0 ≡ 1) × Beside x t c)
      new c (no m) d = inl (marked_other u used c m)
      new c (yes i) (yes d) = inl (rw (marked_none u used d))
      new c (yes i) (no d) = inr (rw i (marked_there u used d (l d)), (s, sym i, λ e. d (sym i ∙ e)))

module _ {n : ℕ} {x : Slices} (f : Linked n x) {top : ℕ} where
  pub mark_top : {h : ℕ} (used : List ℕ) → ((u : ℕ) → u < n → get_or used u 0 ≡ 0) → top < length used → get_or x.round top 0 ≡ h → Marking n x top h 0 (set used top 1)
  mark_top {h} used z l e = record {
    marks = λ c b n. at c b n (ℕ_discrete c top);
    top_marked = get_or-set_same used top 1 0 l;
    handed_on = λ c b k q w s n. absurd (late c b k w (ℕ_discrete c top));
  }
    where
      at : (c : ℕ) → c < n → get_or (set used top 1) c 0 ≢ 0 → Dec (c ≡ top) → (get_or (set used top 1) c 0 ≡ 1) × Met x top c
      at c b n (yes i) = rw i (get_or-set_same used top 1 0 l, at_top)
      at c b n (no m) = absurd (n (get_or-set_other used top c 1 0 m ∙ z c b))

      late : (c : ℕ) → c < n → get_or (set used top 1) c 0 ≡ 1 → (get_or x.round c 0 ≡ h → c < 0) → Dec (c ≡ top) → ⊥
      late c b k w (yes i) = omega (arith, w (rw i e))
      late c b k w (no m) = omega (arith, get_or-set_other used top c 1 0 m, z c b)

  module _ {r t : ℕ} {used : List ℕ} (k : Marking n x top r t used) where
    -- code t hands its mark on
    handed : (new : List ℕ) → t < n → get_or x.round t 0 ≡ r → get_or used t 0 ≡ 1 → More x t used new
        → ((s : Side) → get_or (recorded x s) t 0 ≢ absent → get_or new (get_or (recorded x s) t 0) 0 ≡ 1) → Marking n x top r (t + 1) new
    unfolding Beside
    handed new l i u m d = record {
      marks = λ c b z. met_there c b z (m.only c);
      top_marked = m.stay top k.top_marked;
      handed_on = λ c b e q w s z. on c b e q w s z (m.only c) (ℕ_discrete c t);
    }
      where
        met_there : (c : ℕ) → c < n → get_or new c 0 ≢ 0 → (get_or new c 0 ≡ get_or used c 0) ⊎ ((get_or new c 0 ≡ 1) × Beside x t c) → (get_or new c 0 ≡ 1) × Met x top c
        met_there c b z (inl e) = rw e (k.marks c b (λ w. z (e ∙ w)))
        met_there c b z (inr w) =
            let y = w.1 in
            (w.0, subst (λ (v : ℕ). Met x top v) y.1 (onward y.0 (k.marks t l (λ v. omega arith)).1 (λ v. y.2 (sym y.1 ∙ v))))

        on : (c : ℕ) → c < n → get_or new c 0 ≡ 1 → r ≤ get_or x.round c 0 → (get_or x.round c 0 ≡ r → c < t + 1) → (s : Side) → get_or (recorded x s) c 0 ≢ absent
            → (get_or new c 0 ≡ get_or used c 0) ⊎ ((get_or new c 0 ≡ 1) × Beside x t c) → Dec (c ≡ t) → get_or new (get_or (recorded x s) c 0) 0 ≡ 1
        on c b e q w s z g (yes j) = subst (λ (v : ℕ). get_or new (get_or (recorded x s) v 0) 0 ≡ 1) (sym j) (d s (subst (λ (v : ℕ). get_or (recorded x s) v 0 ≢ absent) j z))
        on c b e q w s z (inl g) (no j) = m.stay (get_or (recorded x s) c 0) (k.handed_on c b (sym g ∙ e) q (λ v. let y = w v in omega arith) s z)
        on c b e q w s z (inr g) (no j) =
            let y = g.1 in
            let p : get_or x.round c 0 < get_or x.round t 0 = subst (λ (v : ℕ). get_or x.round v 0 < get_or x.round t 0) y.1 (f.earlier y.0 t l (λ v. y.2 (sym y.1 ∙ v))) in
            absurd (omega arith)

    pub hand_on : t < n → get_or x.round t 0 ≡ r → get_or used t 0 ≡ 1 → n ≤ length used
        → Marking n x top r (t + 1) (marked (get_or x.nexts t 0) (marked (get_or x.firsts t 0) used))
    hand_on l i u room =
        let v = get_or x.firsts t 0 in
        let w = get_or x.nexts t 0 in
        let in-first : v ≢ absent → v < length used = λ z. omega (arith, f.is_code first t l z) in
        let in-next : w ≢ absent → w < length (marked v used) = λ z. rw (length_marked v used) (omega (arith, f.is_code next t l z)) in
        let second = one {x = x} {t = t} next (marked v used) in-next in
        handed (marked w (marked v used)) l i u (twice (one {x = x} {t = t} first used in-first) second)
        (sides _ (λ z. second.stay v (marked_there v used z (in-first z))) (λ z. marked_there w (marked v used) z (in-next z)))

  module _ (l : top < n) (p : 0 < get_or x.round top 0) where
    met_code : {c : ℕ} → Met x top c → (c < n) × (0 < get_or x.round c 0)
    met_code at_top = (l, p)
    met_code (onward {c = c} s m z) = let b = (met_code m).0 in (f.is_code s c b z, f.entered s c b z)

    -- after the last round all that is met is marked
    all_marked : {used : List ℕ} → Marking n x top 0 0 used → {c : ℕ} → Met x top c → get_or used c 0 ≡ 1
    all_marked k at_top = k.top_marked
    all_marked k (onward {c = c} s m z) = let b = met_code m in k.handed_on c b.0 (all_marked k m) (omega arith) (λ e. absurd (omega (arith, b.1))) s z

    pub used_there : {used : List ℕ} → Marking n x top 0 0 used → (c : ℕ) → c < n → UsedIs x top c (get_or used c 0)
    used_there {used} k c b = at (ℕ_discrete (get_or used c 0) 0)
      where
        at : Dec (get_or used c 0 ≡ 0) → UsedIs x top c (get_or used c 0)
        at (yes e) = rw e (not_met (λ m. omega (arith, all_marked k m)))
        at (no z) = let m = k.marks c b z in rw m.0 (met m.1)

-- the same, whatever the top is
module _ {n : ℕ} {x : Slices} (f : Linked n x) {r t : ℕ} {used : List ℕ} where
  pub visit_both : {one two : List ℕ} → t < n → get_or x.round t 0 ≡ r → get_or used t 0 ≡ 1 → n ≤ length used
      → one ≡ marked (get_or x.firsts t 0) used → two ≡ marked (get_or x.nexts t 0) one → Handed n x r t (t + 1) used two
  visit_both {one} {two} l i u room d e = rw (e, d) (record {
    kept = kept_then (kept_marked (get_or x.firsts t 0) used (f.is_code first t l)) (kept_marked (get_or x.nexts t 0) (marked (get_or x.firsts t 0) used) (f.is_code next t l));
    hands = λ top k. hand_on f k l i u room;
  })

-- what is met depends on first and next alone
module _ {x y : Slices} (same : (s : Side) → recorded x s ≡ recorded y s) {top : ℕ} where
  met_same : {c : ℕ} → Met x top c → Met y top c
  met_same at_top = at_top
  met_same (onward {c = c} s m n) =
      let e : get_or (recorded x s) c 0 ≡ get_or (recorded y s) c 0 = rw (same s) refl in
      rw e (onward s (met_same m) (λ w. n (e ∙ w)))

pub used_same : {x y : Slices} → ((s : Side) → recorded x s ≡ recorded y s) → {top c v : ℕ} → UsedIs x top c v → UsedIs y top c v
used_same e (met m) = met (met_same e m)
used_same e (not_met n) = not_met (λ m. n (met_same (λ s. sym (e s)) m))

-- what the rounds leave is linked
pub linked : {rows : Table} {h : ℕ} {x : Slices} → Searched rows h x → Linked (codes rows) x
linked f = record {
  is_code = λ s t l n. (neighbour_earlier (f.neighbours s t l) n).0;
  entered = λ s t l n. (neighbour_earlier (f.neighbours s t l) n).1;
  earlier = λ s t l n. (neighbour_earlier (f.neighbours s t l) n).2;
}
