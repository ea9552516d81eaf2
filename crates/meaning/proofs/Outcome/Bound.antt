-- The bound: each height up to the greatest is some code's, and a proper code has flags below 12, so there are at most 12 × N × 2^m of them.
use Prim.Native.Nat.{ℕ, zero, suc, ◌+◌, ◌*◌, ◌^◌, ◌/◌, ◌%◌, ◌-◌, ◌<◌, ◌≤◌}
use native.Mathlib.Omega.{arith}
use native.Mathlib.Nat.{div-lt_iff_lt-mul, mul-le-mul_right, mod-lt, div-add-mod'}
use native.Mathlib.Decide.{ℕ_discrete, dec_lt}
use mathlib.Core.List.{List, Memᴰ}
use mathlib.Core.Logic.{◌⊎◌, inl, inr}
use mathlib.Core.Path.{◌≡◌, refl, sym, ◌∙◌, ap, subst}
use lib.Arith.{digits_div, digits_mod}
use lib.ListN.{length}
use lib.Pow.{pow_pos}
use Rattle.meaning.specs.Code.{codes, HasFlag, Proper, Takes}
use Rattle.meaning.specs.Loop.{LoopFree}
use Rattle.meaning.specs.Marked.{Within, Smallest}
use Rattle.meaning.specs.Outcome.{Bounded}
use Rattle.meaning.specs.Table.{Side, first, next, down, Table, names, looks, size, InRange}
use Rattle.meaning.proofs.Sides.{sides}
use Rattle.meaning.proofs.Codes.Names.{flag_dec}
use Rattle.meaning.proofs.Rounds.Smallest.{smallest_unique, smallest_from, smallest_within, within_smallest, smallest_code}
use Rattle.meaning.proofs.Search.Levels.{within_dec}
use Rattle.meaning.proofs.Solution.Finite.{take_out, numbers, in_numbers, numbers_length}

-- There are no more things than places to put them in.
module _ (R : ℕ → ℕ → Type 0) (apart : (i j u : ℕ) → R i u → R j u → i ≡ j) where
  fits : (n : ℕ) (xs : List ℕ) → ((i : ℕ) → i < n → (u : ℕ) × R i u × Memᴰ u xs) → n ≤ length xs
  fits zero xs f = omega arith
  fits (suc n) xs f =
      let y = f n (omega arith) in
      let w = take_out y.0 xs y.2 in
      omega (arith, w.shorter, fits n w.rest (λ i l. let z = f i (omega arith) in (z.0, z.1, other i l z.0 z.1 y.0 y.1 (w.covers z.0 z.2))))
    where
      other : {ys : List ℕ} (i : ℕ) → i < n → (u : ℕ) → R i u → (v : ℕ) → R n v → (u ≡ v) ⊎ Memᴰ u ys → Memᴰ u ys
      other i l u r v q (inl e) = absurd (omega (arith, apart i n v (rw e at r) q))
      other i l u r v q (inr h) = h

-- A code's place among those whose flags are below 12.
squeeze : ℕ → ℕ
squeeze q = q - q / 16 * 4

place_of : Table → ℕ → ℕ
place_of rows c = squeeze (c / 2 ^ looks rows) * 2 ^ looks rows + c % 2 ^ looks rows

module _ (rows : Table) where
  low_flags : (c : ℕ) → Proper rows c → c / 2 ^ looks rows % 16 < 12
  unfolding HasFlag
  low_flags c p = at (dec_lt (c / 2 ^ looks rows % 16) 12)
    where
      at : Dec (c / 2 ^ looks rows % 16 < 12) → c / 2 ^ looks rows % 16 < 12
      at (yes h) = h
      at (no h) = absurd (p.one_parent (omega arith) (omega arith))

  place_lt : (c : ℕ) → c < codes rows → Proper rows c → place_of rows c < 12 * size rows
  unfolding codes place_of squeeze
  place_lt c l p =
      let q : c / 2 ^ looks rows < names rows * 16 = (div-lt_iff_lt-mul (pow_pos (looks rows))).1 l in
      let e : suc (squeeze (c / 2 ^ looks rows)) ≤ 12 * names rows = omega (arith, low_flags c p) in
      omega (arith, mul-le-mul_right (2 ^ looks rows) e, mod-lt c (pow_pos (looks rows)))

  place_inj : (c d : ℕ) → Proper rows c → Proper rows d → place_of rows c ≡ place_of rows d → c ≡ d
  unfolding place_of squeeze
  place_inj c d p q e =
      let w = 2 ^ looks rows in
      let a : squeeze (c / w) ≡ squeeze (d / w) = sym (digits_div (squeeze (c / w)) (mod-lt c (pow_pos (looks rows)))) ∙ ap (λ (z : ℕ). z / w) e ∙ digits_div (squeeze (d / w)) (mod-lt d (pow_pos (looks rows))) in
      let b : c % w ≡ d % w = sym (digits_mod (squeeze (c / w)) (mod-lt c (pow_pos (looks rows)))) ∙ ap (λ (z : ℕ). z % w) e ∙ digits_mod (squeeze (d / w)) (mod-lt d (pow_pos (looks rows))) in
      let q : c / w ≡ d / w = omega (arith, low_flags c p, low_flags d q) in
      sym (div-add-mod' c w) ∙ rw (q, b) (div-add-mod' d w)

module _ {rows : Table} (range : InRange rows) (free : LoopFree rows) where
  -- one round lower: a child's, unless every child is lower still, and then so is c
  lower : {c : ℕ} (k : ℕ) → Smallest rows c (suc (suc k)) → (u : ℕ) × Smallest rows u (suc k)
  lower {c} k x = both (side first (flag_dec rows c (down first))) (side next (flag_dec rows c (down next)))
    where
      Lower : Side → Type 0
      Lower s = HasFlag rows c (down s) → (u : ℕ) × Within rows k u × Takes rows s c u

      Next : Type 0
      Next = (u : ℕ) × Smallest rows u (suc k)

      w : Within rows (suc (suc k)) c
      w = smallest_within (suc (suc k)) x (omega arith)

      kid : (s : Side) (u : ℕ) → Within rows (suc k) u → Takes rows s c u → Dec (Within rows k u) → Lower s ⊎ Next
      kid s u h t (yes d) = inl (λ f. (u, d, t))
      kid s u h t (no d) = inr (u, smallest_from h d)

      side : (s : Side) → Dec (HasFlag rows c (down s)) → Lower s ⊎ Next
      side s (no f) = inl (λ h. absurd (f h))
      side s (yes f) = let y = w.2 s f in kid s y.0 y.1 y.2 (within_dec range free k y.0)

      both : Lower first ⊎ Next → Lower next ⊎ Next → Next
      both (inr z) b = z
      both (inl a) (inr z) = z
      both (inl a) (inl b) =
          let v : Within rows (suc k) c = (w.0, w.1, sides _ a b) in
          absurd (omega (arith, within_smallest (suc k) x v))

  each_height : (k : ℕ) {c : ℕ} → Smallest rows c k → (j : ℕ) → 0 < j → j ≤ k → (u : ℕ) × Smallest rows u j
  each_height zero x j p l = absurd (omega arith)
  each_height (suc zero) {c} x j p l = (c, subst (λ (z : ℕ). Smallest rows c z) (omega arith) x)
  each_height (suc (suc k)) {c} x j p l = at (ℕ_discrete j (suc (suc k))) (λ h. let y = lower k x in each_height (suc k) y.1 j p h)
    where
      at : Dec (j ≡ suc (suc k)) → (j ≤ suc k → (u : ℕ) × Smallest rows u j) → (u : ℕ) × Smallest rows u j
      at (yes e) f = (c, rw e x)
      at (no e) f = f (omega arith)

  pub bound : {c k : ℕ} → Smallest rows c k → Bounded rows k
  bound {c} {k} x =
      let B = 12 * size rows in
      omega (
        arith,
        numbers_length B,
        fits At apart k (numbers B) (λ i l. let y = each_height k x (suc i) (omega arith) (omega arith) in let z = smallest_code y.1 in
            (place_of rows y.0, (y.0, refl, y.1), in_numbers B (place_of rows y.0) (place_lt rows y.0 z.0 z.1))),
      )
    where
      At : ℕ → ℕ → Type 0
      At i p = (u : ℕ) × (p ≡ place_of rows u) × Smallest rows u (suc i)

      apart : (i j p : ℕ) → At i p → At j p → i ≡ j
      apart i j p a b =
          let e : a.0 ≡ b.0 = place_inj rows a.0 b.0 (smallest_code a.2).1 (smallest_code b.2).1 (sym a.1 ∙ b.1) in
          omega (arith, smallest_unique (subst (λ (z : ℕ). Smallest rows z (suc i)) e a.2) b.2)
