-- Lists of codes in rising order, as the search keeps them: what is in them, their smallest that passes, and when two are the same.
use Prim.Native.Nat.{ℕ, zero, suc, ◌<◌, ◌≤◌}
use native.Mathlib.Omega.{arith}
use native.Mathlib.Decide.{ℕ_discrete}
use mathlib.Core.Bool.{Bool, true, false}
use mathlib.Core.List.Memᴰ
use mathlib.Core.List.{List, [], ◌∷◌, Memᴰ}
use mathlib.Core.Logic.{◌↔◌, ◌⊎◌, inl, inr}
use mathlib.Core.Option.{Option, none, some, none-ne-some, some-injective}
use mathlib.Core.Path.{◌≡◌, refl, sym, ◌∙◌, subst}
use borrow.Author.Tests.{eqb-true, eq-eqb}
use lib.Dec.{eqb}
use Rattle.meaning.proofs.Search.Model.{exists, keep, least, same_list}
use Rattle.meaning.proofs.Tests.{Is, false≢true, guard_iff, pick_iff}

pub exists_to : (f : ℕ → Bool) (l : List ℕ) → Is (exists f l) → (u : ℕ) × Memᴰ u l × Is (f u)
exists_to f [] h = false≢true h
exists_to f (u ∷ us) h = at ((pick_iff (f u) (exists f us)).0 h) (exists_to f us)
  where
    at : Is (f u) ⊎ Is (exists f us) → (Is (exists f us) → (v : ℕ) × Memᴰ v us × Is (f v)) → (v : ℕ) × Memᴰ v (u ∷ us) × Is (f v)
    at (inl k) ih = (u, Memᴰ.head refl, k)
    at (inr k) ih = let x = ih k in (x.0, Memᴰ.tail x.1, x.2)

pub exists_from : (f : ℕ → Bool) {u : ℕ} {l : List ℕ} → Memᴰ u l → Is (f u) → Is (exists f l)
exists_from f (Memᴰ.head {x} {xs} e) h = (pick_iff (f x) (exists f xs)).1 (inl (subst (λ (z : ℕ). Is (f z)) e h))
exists_from f (Memᴰ.tail {x} {xs} k) h = (pick_iff (f x) (exists f xs)).1 (inr (exists_from f k h))

-- A list that ascends from a.
pub data Asc : ℕ → List ℕ → Type 0 where
  asc_nil : {a : ℕ} → Asc a []
  asc_cons : {a x : ℕ} {xs : List ℕ} → a ≤ x → Asc (suc x) xs → Asc a (x ∷ xs)

add_iff : (a : Bool) (n u : ℕ) (l : List ℕ) → Memᴰ u (elim a [ true ↦ n ∷ l | false ↦ l ]) ↔ ((Is a × (u ≡ n)) ⊎ Memᴰ u l)
add_iff true n u l = (λ h. elim (Memᴰ.cases_cons h) [ inl e ↦ inl (refl, e) | inr k ↦ inr k ], elim [ inl x ↦ Memᴰ.head x.1 | inr k ↦ Memᴰ.tail k ])
add_iff false n u l = (λ h. inr h, elim [ inl x ↦ false≢true x.0 | inr k ↦ k ])

add_asc : (a : Bool) (n : ℕ) (l : List ℕ) → Asc (suc n) l → Asc n (elim a [ true ↦ n ∷ l | false ↦ l ])
add_asc true n l h = asc_cons {a = n} {x = n} (omega arith) h
add_asc false n l h = lower h
  where
    lower : {l : List ℕ} → Asc (suc n) l → Asc n l
    lower asc_nil = asc_nil
    lower (asc_cons {x = x} k h) = asc_cons {a = n} {x = x} (omega arith) h

module _ (f : ℕ → Bool) where
  pub keep_to : (n u : ℕ) (l : List ℕ) → Memᴰ u (keep f n l) → ((u < n) × Is (f u)) ⊎ Memᴰ u l
  keep_to zero u l h = inr h
  keep_to (suc n) u l h = at (keep_to n u (elim (f n) [ true ↦ n ∷ l | false ↦ l ]) h)
    where
      now : (Is (f n) × (u ≡ n)) ⊎ Memᴰ u l → ((u < suc n) × Is (f u)) ⊎ Memᴰ u l
      now (inl x) = inl (omega (arith, x.1), rw x.1 x.0)
      now (inr k) = inr k

      at : ((u < n) × Is (f u)) ⊎ Memᴰ u (elim (f n) [ true ↦ n ∷ l | false ↦ l ]) → ((u < suc n) × Is (f u)) ⊎ Memᴰ u l
      at (inl x) = inl (omega (arith, x.0), x.1)
      at (inr k) = now ((add_iff (f n) n u l).0 k)

  keep_old : (n u : ℕ) (l : List ℕ) → Memᴰ u l → Memᴰ u (keep f n l)
  keep_old zero u l h = h
  keep_old (suc n) u l h = keep_old n u (elim (f n) [ true ↦ n ∷ l | false ↦ l ]) ((add_iff (f n) n u l).1 (inr h))

  pub keep_new : (n u : ℕ) (l : List ℕ) → u < n → Is (f u) → Memᴰ u (keep f n l)
  keep_new zero u l h k = absurd (omega arith)
  keep_new (suc n) u l h k = at (ℕ_discrete u n) (keep_new n u (elim (f n) [ true ↦ n ∷ l | false ↦ l ]))
    where
      at : Dec (u ≡ n) → (u < n → Is (f u) → Memᴰ u (keep f (suc n) l)) → Memᴰ u (keep f (suc n) l)
      at (yes e) ih = keep_old n u (elim (f n) [ true ↦ n ∷ l | false ↦ l ]) ((add_iff (f n) n u l).1 (inl (rw e at k, e)))
      at (no e) ih = ih (omega arith) k

  pub keep_asc : (n : ℕ) (l : List ℕ) → Asc n l → Asc 0 (keep f n l)
  keep_asc zero l h = h
  keep_asc (suc n) l h = keep_asc n (elim (f n) [ true ↦ n ∷ l | false ↦ l ]) (add_asc (f n) n l h)

-- The smallest that passes.
asc_le : {a u : ℕ} {l : List ℕ} → Asc a l → Memᴰ u l → a ≤ u
asc_le asc_nil h = absurd (Memᴰ.not-nil h)
asc_le {a} {u} (asc_cons {x = x} {xs = xs} le s) h = at (Memᴰ.cases_cons h) (asc_le s)
  where
    at : (u ≡ x) ⊎ Memᴰ u xs → (Memᴰ u xs → suc x ≤ u) → a ≤ u
    at (inl e) ih = omega arith
    at (inr k) ih = omega (arith, ih k)

module _ (f : ℕ → Bool) where
  pub least_none : {u : ℕ} {l : List ℕ} → Memᴰ u l → least f l ≡ none → Is (f u) → ⊥
  least_none {u} (Memᴰ.head {x} {xs} q) e k = at (f x) (rw q at k) e
    where
      at : (b : Bool) → Is b → ◌≡◌ {A = Option ℕ} (elim b [ true ↦ some x | false ↦ least f xs ]) none → ⊥
      at true h e = none-ne-some x (sym e)
      at false h e = false≢true h
  least_none (Memᴰ.tail {x} {xs} h) e k = at (f x) e (λ z. least_none h z k)
    where
      at : (b : Bool) → ◌≡◌ {A = Option ℕ} (elim b [ true ↦ some x | false ↦ least f xs ]) none → (least f xs ≡ none → ⊥) → ⊥
      at true e ih = none-ne-some x (sym e)
      at false e ih = ih e

  abbrev pub Least : List ℕ → ℕ → Type 0
  Least l c = Memᴰ c l × Is (f c) × ((u : ℕ) → Memᴰ u l → Is (f u) → c ≤ u)

  pub least_some : (a c : ℕ) (l : List ℕ) → Asc a l → least f l ≡ some c → Least l c
  least_some a c [] s e = absurd (none-ne-some c e)
  least_some a c (x ∷ xs) (asc_cons le s) e = at (f x) refl e (λ z. least_some (suc x) c xs s z)
    where
      at : (b : Bool) → f x ≡ b → ◌≡◌ {A = Option ℕ} (elim b [ true ↦ some x | false ↦ least f xs ]) (some c) → (least f xs ≡ some c → Least xs c) → Least (x ∷ xs) c
      at true q e ih =
          let w : x ≡ c = some-injective x c e in
          (Memᴰ.head (sym w), rw (← w) q, λ u h k. omega (arith, w, asc_le (asc_cons {a = x} {x = x} (omega arith) s) h))
      at false q e ih =
          let r = ih e in
          (Memᴰ.tail r.0, r.1, λ u h k. later r u (Memᴰ.cases_cons h) k)
        where
          later : Least xs c → (u : ℕ) → (u ≡ x) ⊎ Memᴰ u xs → Is (f u) → c ≤ u
          later r u (inl w) k = false≢true (sym q ∙ (rw w at k))
          later r u (inr h) k = r.2 u h k

pub same_list_lem : (us vs : List ℕ) → Is (same_list us vs) → us ≡ vs
same_list_lem [] [] h = refl
same_list_lem [] (v ∷ vs) h = false≢true h
same_list_lem (u ∷ us) [] h = false≢true h
same_list_lem (u ∷ us) (v ∷ vs) h =
    let x = (guard_iff (eqb u v) (same_list us vs)).0 h in
    let p : u ≡ v = eqb-true u v x.0 in
    let q : us ≡ vs = same_list_lem us vs x.1 in
    cc

pub same_self : (us : List ℕ) → Is (same_list us us)
same_self [] = refl
same_self (u ∷ us) = (guard_iff (eqb u u) (same_list us us)).1 (eq-eqb u u refl, same_self us)

-- Two ascending lists of the same numbers are one list.
tail_of : {x y : ℕ} {xs ys : List ℕ} → Asc (suc x) xs → x ≡ y → ((u : ℕ) → Memᴰ u (x ∷ xs) → Memᴰ u (y ∷ ys)) → (u : ℕ) → Memᴰ u xs → Memᴰ u ys
tail_of {x = x} {y = y} {ys = ys} s e f u h = at (Memᴰ.cases_cons (f u (Memᴰ.tail h))) (asc_le s h)
  where
    at : (u ≡ y) ⊎ Memᴰ u ys → suc x ≤ u → Memᴰ u ys
    at (inl q) l = absurd (omega arith)
    at (inr k) l = k

pub asc_same : {a b : ℕ} {us vs : List ℕ} → Asc a us → Asc b vs → ((u : ℕ) → Memᴰ u us → Memᴰ u vs) → ((u : ℕ) → Memᴰ u vs → Memᴰ u us) → us ≡ vs
asc_same asc_nil asc_nil f g = refl
asc_same asc_nil (asc_cons {x = y} l t) f g = absurd (Memᴰ.not-nil (g y (Memᴰ.head refl)))
asc_same (asc_cons {x = x} k s) asc_nil f g = absurd (Memᴰ.not-nil (f x (Memᴰ.head refl)))
asc_same (asc_cons {x = x} k s) (asc_cons {x = y} l t) f g =
    let p : y ≤ x = asc_le (asc_cons {a = y} {x = y} (omega arith) t) (f x (Memᴰ.head refl)) in
    let q : x ≤ y = asc_le (asc_cons {a = x} {x = x} (omega arith) s) (g y (Memᴰ.head refl)) in
    let e : x ≡ y = omega arith in
    let d = asc_same s t (tail_of s e f) (tail_of t (sym e) g) in
    cc

pub mem_dec : (u : ℕ) (l : List ℕ) → Dec (Memᴰ u l)
mem_dec u [] = no (λ h. Memᴰ.not-nil h)
mem_dec u (x ∷ xs) = at (ℕ_discrete u x) (mem_dec u xs)
  where
    at : Dec (u ≡ x) → Dec (Memᴰ u xs) → Dec (Memᴰ u (x ∷ xs))
    at (yes e) d = yes (Memᴰ.head e)
    at (no e) (yes h) = yes (Memᴰ.tail h)
    at (no e) (no h) = no (λ k. neither (Memᴰ.cases_cons k))
      where
        neither : (u ≡ x) ⊎ Memᴰ u xs → ⊥
        neither (inl q) = e q
        neither (inr q) = h q

-- A number of the first list that the second lacks, if there is one.
pub extra : (us vs : List ℕ) → ((c : ℕ) × Memᴰ c us × (Memᴰ c vs → ⊥)) ⊎ ((c : ℕ) → Memᴰ c us → Memᴰ c vs)
extra [] vs = inr (λ c h. absurd (Memᴰ.not-nil h))
extra (u ∷ us) vs = at (mem_dec u vs) (extra us vs)
  where
    at : Dec (Memᴰ u vs) → ((c : ℕ) × Memᴰ c us × (Memᴰ c vs → ⊥)) ⊎ ((c : ℕ) → Memᴰ c us → Memᴰ c vs) → ((c : ℕ) × Memᴰ c (u ∷ us) × (Memᴰ c vs → ⊥)) ⊎ ((c : ℕ) → Memᴰ c (u ∷ us) → Memᴰ c vs)
    at (no h) k = inl (u, Memᴰ.head refl, h)
    at (yes h) (inl x) = inl (x.0, Memᴰ.tail x.1, x.2)
    at (yes h) (inr f) = inr (λ c m. either c (Memᴰ.cases_cons m))
      where
        either : (c : ℕ) → (c ≡ u) ⊎ Memᴰ c us → Memᴰ c vs
        either c (inl e) = rw e h
        either c (inr m) = f c m
