-- A new mark: one pair more is found, and it is joined.
use Prim.Native.Nat.{ℕ, zero, suc, ◌+◌, ◌*◌, ◌<◌, ◌≤◌}
use native.Mathlib.Decide.{ℕ_discrete}
use native.Mathlib.Omega.{arith}
use mathlib.Core.Bool.{Bool, true, false, cond}
use mathlib.Core.List.{List, []}
use mathlib.Core.Path.{◌≡◌, refl, ◌∙◌}
use lib.ListN.{length, get_or, set, replicate, length-set, length-replicate}
use lib.Seq.{get_or-set_other, get_or-set_same}
use Rattle.std.specs.Prelude.{count_by}
use Rattle.std.proofs.lemmas.List.Sums.{sum_by-set, sum_by-le, count_by-le-length}
use Rattle.std.proofs.lemmas.List.Elements.{All-from_get_or}
use Rattle.meaning.proofs.Tests.{Is}
use Rattle.loops.specs.Closing.{marked, with_pair, pairs, Square}

pub square_none : (w : ℕ) → Square w (replicate w (replicate w false))
square_none w = record { high = length-replicate w (replicate w false); wide = λ i h. wide w i h }
  where
    wide : (v i : ℕ) → i < v → length (get_or (replicate v (replicate w false)) i []) ≡ w
    wide zero i h = absurd (omega arith)
    wide (suc v) zero h = length-replicate w false
    wide (suc v) (suc i) h = wide v i (omega arith)

pub square_more : (w : ℕ) (m : List (List Bool)) → Square w m → (i j : ℕ) → i < w → Square w (with_pair m i j)
square_more w m s i j low = record { high = length-set m i (set (get_or m i []) j true) ∙ s.high; wide = λ k h. at k h (ℕ_discrete k i) }
  where
    at : (k : ℕ) → k < w → Dec (k ≡ i) → length (get_or (with_pair m i j) k []) ≡ w
    at k h (yes q) = rw (q, get_or-set_same m i (set (get_or m i []) j true) [] (omega (arith, s.high))) (length-set (get_or m i []) j true ∙ s.wide i low)
    at k h (no n) = rw (get_or-set_other m i k (set (get_or m i []) j true) [] n) (s.wide k h)

pub pairs_most : (w : ℕ) (m : List (List Bool)) → Square w m → pairs m ≤ w * w
unfolding pairs
pairs_most w m s =
    rw s.high at (sum_by-le (λ (l : List Bool). count_by (λ b. b) l) w m (All-from_get_or (λ (l : List Bool). count_by (λ b. b) l ≤ w) m [] (λ i h. omega (arith, s.wide i (omega (arith, s.high)), count_by-le-length (λ (b : Bool). b) (get_or m i [])))))

-- nothing is found at first
pub marked_none : (w v i j : ℕ) → marked (replicate w (replicate v false)) i j ≡ false
marked_none zero v i j = refl
marked_none (suc w) v zero j = blank v j
  where
    blank : (v j : ℕ) → get_or (replicate v false) j false ≡ false
    blank zero j = refl
    blank (suc v) zero = refl
    blank (suc v) (suc j) = blank v j
marked_none (suc w) v (suc i) j = marked_none w v i j

module _ (m : List (List Bool)) (i j : ℕ) (low : i < length m) (inside : j < length (get_or m i [])) where
  -- the pair of i and j, and no other, is new
  pub marked_new : (P : ℕ → ℕ → Type 0) → P i j → ((k l : ℕ) → Is (marked m k l) → P k l) → (k l : ℕ) → Is (marked (with_pair m i j) k l) → P k l
  marked_new P p old k l e = at (ℕ_discrete k i) e
    where
      row : List Bool
      row = set (get_or m i []) j true

      column : Dec (l ≡ j) → Is (get_or row l false) → P i l
      column (yes q) f = rw q p
      column (no n) f = old i l (rw (get_or-set_other (get_or m i []) j l true false n) at f)

      at : Dec (k ≡ i) → Is (marked (with_pair m i j) k l) → P k l
      at (yes q) f = rw q (column (ℕ_discrete l j) (rw (q, get_or-set_same m i row [] low) at f))
      at (no n) f = old k l (rw (get_or-set_other m i k row [] n) at f)

  pub pairs_more : marked m i j ≡ false → pairs (with_pair m i j) ≡ pairs m + 1
  unfolding pairs
  pairs_more e =
      let a = sum_by-set (λ (l : List Bool). count_by (λ b. b) l) m i (set (get_or m i []) j true) [] low in
      let b = sum_by-set (λ (b : Bool). cond b 1 0) (get_or m i []) j true false inside in
      omega (arith, a, rw e at b)
