-- On finitely many things, a relation without a closed walk is well founded, and its walks have fewer steps than there are things.
use Prim.Native.Nat.{ℕ, zero, suc, ◌<◌, ◌≤◌}
use native.Mathlib.Omega.{arith}
use native.Mathlib.Decide.{ℕ_discrete}
use mathlib.Core.List.Memᴰ
use mathlib.Core.List.{List, [], ◌∷◌, Memᴰ}
use mathlib.Core.Logic.{◌⊎◌, inl, inr, ⊎_map, ⊎_elim}
use mathlib.Core.Path.{◌≡◌, refl, ap, subst, sym}
use mathlib.Core.WellFounded.{Acc}
use lib.ListN.{length}

module _ {A : Type 0} where
  -- a list with one occurrence of an element taken out
  pub record Without (y : A) (xs : List A) : Type 0 where
    pub rest : List A
    pub shorter : length xs ≡ suc (length rest)
    pub covers : (z : A) → Memᴰ z xs → (z ≡ y) ⊎ Memᴰ z rest

  pub take_out : (y : A) (xs : List A) → Memᴰ y xs → Without y xs
  take_out y [] m = absurd (Memᴰ.not-nil m)
  take_out y (x ∷ xs) m = at (Memᴰ.cases_cons m) (take_out y xs)
    where
      at : (y ≡ x) ⊎ Memᴰ y xs → (Memᴰ y xs → Without y xs) → Without y (x ∷ xs)
      at (inl e) k = record { rest = xs; shorter = refl; covers = λ z h. first z (Memᴰ.cases_cons h) }
        where
          first : (z : A) → (z ≡ x) ⊎ Memᴰ z xs → (z ≡ y) ⊎ Memᴰ z xs
          first z (inl f) = inl (cc)
          first z (inr h) = inr h
      at (inr m) k = let w = k m in record { rest = x ∷ w.rest; shorter = ap suc w.shorter; covers = λ z h. later w z (Memᴰ.cases_cons h) }
        where
          later : (w : Without y xs) (z : A) → (z ≡ x) ⊎ Memᴰ z xs → (z ≡ y) ⊎ Memᴰ z (x ∷ w.rest)
          later w z (inl f) = inr (Memᴰ.head f)
          later w z (inr h) = ⊎_map (λ e. e) (λ n. Memᴰ.tail n) (w.covers z h)

module _ {A : Type 0} (R : A → A → Type 0) where
  -- from x to y by any number of steps, each to something that the last one needs: `R y x` reads `x needs y`
  pub data Reach : A → A → Type 0 where
    here : {x : A} → Reach x x
    step : {x y z : A} → R y x → Reach y z → Reach x z

  pub reach_then : {x y z : A} → Reach x y → R z y → Reach x z
  reach_then here r = step r here
  reach_then (step s a) r = step s (reach_then a r)

  -- no walk from x has k steps
  abbrev pub Shallow : ℕ → A → Type 0
  Shallow zero x = ⊥
  Shallow (suc k) x = (y : A) → R y x → Shallow k y

  pub shallow_acc : (k : ℕ) (x : A) → Shallow k x → Acc R x
  shallow_acc zero x h = absurd h
  shallow_acc (suc k) x h = Acc.intro x (λ y r. shallow_acc k y (h y r))

  module _ (Good : A → Type 0) (closed : (x y : A) → R y x → Good x → Good y) (acyclic : (x y : A) → Good x → R y x → Reach y x → ⊥) where
    -- by recursion on the length of a list of what has not been passed on the way to x
    depth : (n : ℕ) (xs : List A) → length xs ≤ n → (x : A) → Good x → ((z : A) → Good z → Memᴰ z xs ⊎ Reach z x) → Shallow (suc n) x
    depth zero xs le x v cover = λ y r. ⊎_elim (λ m. none_left xs le m) (λ h. acyclic x y v r h) (cover y (closed x y r v))
      where
        none_left : {y : A} (xs : List A) → length xs ≤ 0 → Memᴰ y xs → ⊥
        none_left [] le m = Memᴰ.not-nil m
        none_left (x ∷ xs) le m = omega arith
    depth (suc n) xs le x v cover =
        λ y r. ⊎_elim
        (λ m. on y r (take_out y xs m) (λ ys l c. depth n ys l y (closed x y r v) c))
        (λ h. absurd (acyclic x y v r h))
        (cover y (closed x y r v))
      where
        on : (y : A) → R y x → (w : Without y xs) → ((ys : List A) → length ys ≤ n → ((z : A) → Good z → Memᴰ z ys ⊎ Reach z y) → Shallow (suc n) y) → Shallow (suc n) y
        on y r w k = k w.rest (omega (arith, w.shorter)) (λ z u. ⊎_elim (λ m. ⊎_elim (λ e. inr (rw e here)) (λ h. inl h) (w.covers z m)) (λ h. inr (reach_then h r)) (cover z u))

    -- a walk has fewer steps than there are things
    pub finite_depth : (xs : List A) → ((z : A) → Good z → Memᴰ z xs) → (x : A) → Good x → Shallow (length xs) x
    finite_depth xs cover x v =
        let w = take_out x xs (cover x v) in
        subst (λ (n : ℕ). Shallow n x) (sym w.shorter) (depth (length w.rest) w.rest (omega arith) x v (λ z u. ⊎_elim (λ e. inr (rw e here)) (λ h. inl h) (w.covers z (cover z u))))

    pub finite_wf : (xs : List A) → ((z : A) → Good z → Memᴰ z xs) → (x : A) → Good x → Acc R x
    finite_wf xs cover x v = shallow_acc (length xs) x (finite_depth xs cover x v)

-- The numbers below n.
unfoldable pub numbers : ℕ → List ℕ
numbers zero = []
numbers (suc n) = n ∷ numbers n

pub in_numbers : (n i : ℕ) → i < n → Memᴰ i (numbers n)
unfolding numbers
in_numbers zero i h = absurd (omega arith)
in_numbers (suc n) i h = at (ℕ_discrete i n) (in_numbers n i)
  where
    at : Dec (i ≡ n) → (i < n → Memᴰ i (numbers n)) → Memᴰ i (n ∷ numbers n)
    at (yes e) k = Memᴰ.head e
    at (no e) k = Memᴰ.tail (k (omega arith))

pub numbers_length : (n : ℕ) → length (numbers n) ≡ n
unfolding numbers
numbers_length zero = refl
numbers_length (suc n) = ap suc (numbers_length n)
