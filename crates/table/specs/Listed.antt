-- One thing more in a list that has room for n.
use Rattle.std.specs.Prelude.{ℕ, ◌+◌, ◌<◌, ◌≤◌, List, [], ◌∷◌, ◌++◌, ◌≡◌, take}

pub record More {A : Type 0} (n : ℕ) (items : List A) (len : ℕ) (item : A) (items' : List A) (len' : ℕ) : Type 0 where
  pub more : len < n → (take len' items' ≡ take len items ++ (item ∷ [])) × (len' ≡ len + 1)
  pub full : n ≤ len → (items' ≡ items) × (len' ≡ len)
