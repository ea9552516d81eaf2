-- Searches among the numbers below n, and among the items of a list.
use Prim.Native.Nat.{ℕ, zero, suc, ◌+◌, ◌<◌, ◌≤◌}
use native.Mathlib.Decide.{dec_lt}
use native.Mathlib.Nat.{eq-or-lt_of_le}
use native.Mathlib.Omega.{arith}
use mathlib.Core.Bool.{Bool, true, false, cond}
use mathlib.Core.List.{List, [], ◌∷◌, map}
use mathlib.Core.Logic.{⊎_elim}
use mathlib.Core.Path.{◌≡◌, refl}
use borrow.Author.Tests.{ltb-false}
use lib.Dec.{ltb}
use lib.ListN.{length, get_or, length-map}
use Rattle.std.specs.Prelude.{Some, None, find, position}
use Rattle.std.specs.List.{list_any, range_with_len, position_or_len}
use Rattle.std.proofs.lemmas.List.Folds.{Any-from_list_any, list_any_at}
use Rattle.std.proofs.lemmas.List.FromFn.{length-range_with_len, get_or-range_with_len}
use Rattle.std.proofs.lemmas.List.Sums.{fails_before_first}
use Rattle.meaning.proofs.Tests.{Is}

-- whether a number below n passes
module _ (test : ℕ → Bool) (n : ℕ) where
  pub some_from : (v : ℕ) → v < n → Is (test v) → Is (list_any test (range_with_len 0 n))
  some_from v h e = list_any_at test (range_with_len 0 n) v 0 (omega (arith, length-range_with_len 0 n)) (let z : get_or (range_with_len 0 n) v 0 ≡ v = omega (arith, get_or-range_with_len 0 n v 0 h) in rw z e)

  pub some_to : Is (list_any test (range_with_len 0 n)) → (v : ℕ) × (v < n) × Is (test v)
  some_to h =
      let x = Any-from_list_any test (range_with_len 0 n) h in
      let l : x.0 < n = omega (arith, x.2, length-range_with_len 0 n) in
      let e : x.1 ≡ x.0 = omega (arith, x.3, get_or-range_with_len 0 n x.0 x.1 l) in
      (x.0, l, rw e at x.4)

-- the first of k numbers from u on that passes
module _ (test : ℕ → Bool) where
  pub find_some : (u k i : ℕ) → find test (range_with_len u k) ≡ Some i → (u ≤ i) × (i < u + k) × Is (test i) × ((j : ℕ) → u ≤ j → j < i → test j ≡ false)
  find_some u zero i e = absurd (let z : ◌≡◌ {A = ℕ} 0 1 = cc in omega arith)
  find_some u (suc k) i e = at (test u) refl e (find_some (u + 1) k i)
    where
      at : (b : Bool) → test u ≡ b → cond b (Some u) (find test (range_with_len (u + 1) k)) ≡ Some i → (find test (range_with_len (u + 1) k) ≡ Some i → (u + 1 ≤ i) × (i < u + 1 + k) × Is (test i) × ((j : ℕ) → u + 1 ≤ j → j < i → test j ≡ false)) → (u ≤ i) × (i < u + suc k) × Is (test i) × ((j : ℕ) → u ≤ j → j < i → test j ≡ false)
      at true t f ih = let z : u ≡ i = cc in (omega arith, omega arith, rw (← z) t, λ j a b. absurd (omega arith))
      at false t f ih =
          let x = ih f in
          (omega arith, omega arith, x.2, λ j a b. ⊎_elim (λ (q : u ≡ j). rw (← q) t) (λ (q : u < j). x.3 j (omega arith) b) (eq-or-lt_of_le a))

  pub find_none : (u k : ℕ) → find test (range_with_len u k) ≡ None → (j : ℕ) → u ≤ j → j < u + k → test j ≡ false
  find_none u zero e j a b = absurd (omega arith)
  find_none u (suc k) e j a b = at (test u) refl e (find_none (u + 1) k)
    where
      at : (c : Bool) → test u ≡ c → cond c (Some u) (find test (range_with_len (u + 1) k)) ≡ None → (find test (range_with_len (u + 1) k) ≡ None → (j : ℕ) → u + 1 ≤ j → j < u + 1 + k → test j ≡ false) → test j ≡ false
      at true t f ih = absurd (let z : ◌≡◌ {A = ℕ} 0 1 = cc in omega arith)
      at false t f ih = ⊎_elim (λ (q : u ≡ j). rw (← q) t) (λ (q : u < j). ih f j (omega arith) (omega arith)) (eq-or-lt_of_le a)

-- where no item passes, each fails
pub position_none : {X : Type 0} (p : X → Bool) (xs : List X) → position p xs ≡ None → (k : ℕ) (d : X) → k < length xs → p (get_or xs k d) ≡ false
position_none p xs e k d h = at (ltb (position_or_len p xs) (length xs)) refl e
  where
    at : (b : Bool) → ltb (position_or_len p xs) (length xs) ≡ b → cond b (Some (position_or_len p xs)) None ≡ None → p (get_or xs k d) ≡ false
    at true t f = absurd (let z : ◌≡◌ {A = ℕ} 0 1 = cc in omega arith)
    at false t f = fails_before_first p xs k d (omega (arith, ltb-false (position_or_len p xs) (length xs) t))

pub position_map : {X Y : Type 0} (p : Y → Bool) (f : X → Y) (xs : List X) → position p (map f xs) ≡ position (λ x. p (f x)) xs
position_map {X} p f xs = rw (before xs, length-map)
  where
    before : (xs : List X) → position_or_len p (map f xs) ≡ position_or_len (λ x. p (f x)) xs
    before [] = refl
    before (x ∷ xs) = rw (before xs)

-- the least number of a kind is one
pub least_same : (P : ℕ → Type 0) (i k : ℕ) → P i → ((j : ℕ) → j < i → P j → ⊥) → P k → ((j : ℕ) → j < k → P j → ⊥) → i ≡ k
least_same P i k p a q b = at (dec_lt i k) (dec_lt k i)
  where
    at : Dec (i < k) → Dec (k < i) → i ≡ k
    at (yes h) g = absurd (b i h p)
    at (no h) (yes g) = absurd (a k g q)
    at (no h) (no g) = omega arith
