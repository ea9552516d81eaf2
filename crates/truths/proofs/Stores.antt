-- The spots as memory: a neighbour stored for a line changes that alone, and so does a name.
use Rattle.std.proofs.Common.{ℕ, ◌<◌, List, Some, ◌⊎◌, inl, inr, ⊎_elim, ◌≡◌, refl, ap, ◌∙◌, length, set, arith}
use Rattle.std.proofs.Math.Decide.{ℕ_discrete}
use Rattle.std.proofs.lemmas.List.{get_or-set_same, get_or-set_other}
use Rattle.std.proofs.lemmas.Grind.{elements}
use Rattle.meaning.specs.Table.{first, next, Dir, down, up}
use Rattle.truths.specs.Spots.{alone, spot_at, near, near_at}
use Rattle.truths.specs.Placing.{with_near, with_name, joined}
use Rattle.truths.specs.declared.spots.Spot.{Spot}

-- a spot with another neighbour, or another name
turned : (e d : Dir) (v : ℕ) (s : Spot) → ((d ≡ e) × (near (with_near e v s) d ≡ Some v)) ⊎ ((d ≡ e → ⊥) × (near (with_near e v s) d ≡ near s d))
turned (down first) (down first) v s = inl (refl, refl)
turned (down first) (down next) v s = inr (λ e. cc, refl)
turned (down first) (up first) v s = inr (λ e. cc, refl)
turned (down first) (up next) v s = inr (λ e. cc, refl)
turned (down next) (down first) v s = inr (λ e. cc, refl)
turned (down next) (down next) v s = inl (refl, refl)
turned (down next) (up first) v s = inr (λ e. cc, refl)
turned (down next) (up next) v s = inr (λ e. cc, refl)
turned (up first) (down first) v s = inr (λ e. cc, refl)
turned (up first) (down next) v s = inr (λ e. cc, refl)
turned (up first) (up first) v s = inl (refl, refl)
turned (up first) (up next) v s = inr (λ e. cc, refl)
turned (up next) (down first) v s = inr (λ e. cc, refl)
turned (up next) (down next) v s = inr (λ e. cc, refl)
turned (up next) (up first) v s = inr (λ e. cc, refl)
turned (up next) (up next) v s = inl (refl, refl)

name_stays : (e : Dir) (v : ℕ) (s : Spot) → (with_near e v s).name ≡ s.name
name_stays (down first) v s = refl
name_stays (down next) v s = refl
name_stays (up first) v s = refl
name_stays (up next) v s = refl

near_stays : (d : Dir) (n : ℕ) (s : Spot) → near (with_name n s) d ≡ near s d
near_stays (down first) n s = refl
near_stays (down next) n s = refl
near_stays (up first) n s = refl
near_stays (up next) n s = refl

-- what stands where after a neighbour is stored
pub data Stored (old : List Spot) (e : Dir) (a v : ℕ) (new : List Spot) : Dir → ℕ → Type 0 where
  here : near_at new e a ≡ Some v → Stored old e a v new e a
  elsewhere : {d : Dir} {p : ℕ} → (d ≡ e → p ≡ a → ⊥) → near_at new d p ≡ near_at old d p → Stored old e a v new d p

module _ (spots : List Spot) (e : Dir) (a v : ℕ) (inside : a < length spots) where
  same : spot_at (joined e a v spots) a ≡ with_near e v (spot_at spots a)
  same = get_or-set_same spots a (with_near e v (spot_at spots a)) alone inside

  other : (p : ℕ) → (p ≡ a → ⊥) → spot_at (joined e a v spots) p ≡ spot_at spots p
  other p n = get_or-set_other spots a p (with_near e v (spot_at spots a)) alone n

  pub store : (d : Dir) (p : ℕ) → Stored spots e a v (joined e a v spots) d p
  store d p = at (ℕ_discrete p a)
    where
      at : Dec (p ≡ a) → Stored spots e a v (joined e a v spots) d p
      at (yes q) = rw q (⊎_elim
          (λ (x : (d ≡ e) × (near (with_near e v (spot_at spots a)) d ≡ Some v)). rw x.0 (here (ap (λ s. near s e) same ∙ rw x.0 at x.1)))
          (λ (x : (d ≡ e → ⊥) × (near (with_near e v (spot_at spots a)) d ≡ near (spot_at spots a) d)). elsewhere (λ f g. x.0 f) (ap (λ s. near s d) same ∙ x.1))
          (turned e d v (spot_at spots a)))
      at (no n) = elsewhere (λ f g. n g) (ap (λ s. near s d) (other p n))

  pub names_stay : (p : ℕ) → (spot_at (joined e a v spots) p).name ≡ (spot_at spots p).name
  names_stay p = grind (arith, elements, name_stays e v (spot_at spots a))

-- a name
module _ (spots : List Spot) (a n : ℕ) (inside : a < length spots) where
  pub named : (spot_at (set spots a (with_name n (spot_at spots a))) a).name ≡ n
  named = grind (arith, elements)

  pub named_other : (p : ℕ) → (p ≡ a → ⊥) → (spot_at (set spots a (with_name n (spot_at spots a))) p).name ≡ (spot_at spots p).name
  named_other p m = grind (arith, elements, m)

  pub nears_stay : (d : Dir) (p : ℕ) → near_at (set spots a (with_name n (spot_at spots a))) d p ≡ near_at spots d p
  nears_stay d p = grind (arith, elements, near_stays d n (spot_at spots a))
