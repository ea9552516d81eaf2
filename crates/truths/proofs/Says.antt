-- Laws of `Says`: with more that is true a row says no less; what is said by truths is true; and what one truth more adds rests on it.
use Rattle.std.proofs.Common.{ℕ, ◌||◌, eqb, List, Option, Some, None, ◌⊎◌, inl, inr, ⊎_elim, ◌≡◌, refl, ap, ◌∙◌, arith}
use Rattle.std.proofs.lemmas.Bool.Decides.{nat_tests}
use Rattle.meaning.specs.Table.{Table, Row, row_at, yes_row, no_row, is_row, isnot_row, any_row, all_row, go_row, stop_row}
use Rattle.meaning.proofs.Tests.{Is}
use Rattle.loops.specs.Closing.{refers_to}
use Rattle.truths.specs.Spots.{spot_at, near, near_at, HoldsAt, at_yes, at_is, at_isnot, at_left, at_right, at_both, at_go, at_stop}
use Rattle.truths.specs.Search.{AtNear, Says, Rests, by_name, by_look}
use Rattle.truths.specs.declared.spots.Spot.{Spot}

left_is : (a b j : ℕ) → a ≡ j → Is (eqb a j || eqb b j)
left_is a b j e = grind (arith, nat_tests)

right_is : (a b j : ℕ) → b ≡ j → Is (eqb a j || eqb b j)
right_is a b j e = grind (arith, nat_tests)

near_more : (P Q : ℕ → Type 0) → ((q : ℕ) → P q → Q q) → (o : Option ℕ) → AtNear P o → AtNear Q o
near_more P Q f None h = h
near_more P Q f (Some q) h = f q h

module _ (T U : ℕ → ℕ → Type 0) where
  pub says_more : ((q i : ℕ) → T q i → U q i) → (s : Spot) (r : Row) (p : ℕ) → Says s T r p → Says s U r p
  says_more f s yes_row p h = h
  says_more f s no_row p h = h
  says_more f s (is_row n) p h = h
  says_more f s (isnot_row n) p h = h
  says_more f s (any_row i j) p h = ⊎_elim (λ t. inl (f p i t)) (λ t. inr (f p j t)) h
  says_more f s (all_row i j) p h = (f p i h.0, f p j h.1)
  says_more f s (go_row d i) p h = near_more (λ q. T q i) (λ q. U q i) (λ q t. f q i t) (near s d) h
  says_more f s (stop_row d) p h = h

module _ (spots : List Spot) (T U : ℕ → ℕ → Type 0) (p j : ℕ) (new : (q i : ℕ) → U q i → T q i ⊎ ((q ≡ p) × (i ≡ j))) where
  named : (r : Row) (q a : ℕ) → (a ≡ j → Is (refers_to j r)) → U q a → T q a ⊎ Rests spots r q p j
  named r q a f u = ⊎_elim (λ t. inl t) (λ x. inr (by_name x.0 (f x.1))) (new q a u)

  pub says_new : (r : Row) (q : ℕ) → Says (spot_at spots q) U r q → Says (spot_at spots q) T r q ⊎ Rests spots r q p j
  says_new yes_row q h = inl h
  says_new no_row q h = inl h
  says_new (is_row n) q h = inl h
  says_new (isnot_row n) q h = inl h
  says_new (any_row a b) q h =
      ⊎_elim
      (λ u. ⊎_elim (λ t. inl (inl t)) (λ x. inr x) (named (any_row a b) q a (left_is a b j) u))
      (λ u. ⊎_elim (λ t. inl (inr t)) (λ x. inr x) (named (any_row a b) q b (right_is a b j) u))
      h
  says_new (all_row a b) q h =
      ⊎_elim
      (λ s. ⊎_elim (λ t. inl (s, t)) (λ x. inr x) (named (all_row a b) q b (right_is a b j) h.1))
      (λ x. inr x)
      (named (all_row a b) q a (left_is a b j) h.0)
  says_new (go_row d a) q h = look (near_at spots d q) refl h
    where
      look : (o : Option ℕ) → near_at spots d q ≡ o → AtNear (λ n. U n a) o → AtNear (λ n. T n a) o ⊎ Rests spots (go_row d a) q p j
      look None e h = absurd h
      look (Some n) e h = ⊎_elim (λ t. inl t) (λ x. inr (by_look (ap (λ (z : ℕ). go_row d z) x.1) (e ∙ ap Some x.0))) (new n a h)
  says_new (stop_row d) q h = inl h

module _ (rows : Table) (spots : List Spot) (T : ℕ → ℕ → Type 0) (true-there : (q i : ℕ) → T q i → HoldsAt rows spots (row_at rows i) q) where
  pub says_holds : (r : Row) (p : ℕ) → Says (spot_at spots p) T r p → HoldsAt rows spots r p
  says_holds yes_row p h = at_yes
  says_holds no_row p h = absurd h
  says_holds (is_row n) p h = at_is h
  says_holds (isnot_row n) p h = at_isnot h
  says_holds (any_row i j) p h = ⊎_elim (λ t. at_left (true-there p i t)) (λ t. at_right (true-there p j t)) h
  says_holds (all_row i j) p h = at_both (true-there p i h.0) (true-there p j h.1)
  says_holds (go_row d i) p h = look (near_at spots d p) refl h
    where
      look : (o : Option ℕ) → near_at spots d p ≡ o → AtNear (λ q. T q i) o → HoldsAt rows spots (go_row d i) p
      look None e h = absurd h
      look (Some q) e h = at_go e (true-there q i h)
  says_holds (stop_row d) p h = at_stop h
