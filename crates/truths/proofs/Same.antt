-- A list of one thing has it everywhere, and beyond its end where it is the default.
use Rattle.std.proofs.Common.{ℕ, zero, suc, ◌≡◌, refl, get_or, replicate}

pub all_same : {X : Type 0} (n k : ℕ) (x : X) → get_or (replicate n x) k x ≡ x
all_same zero k x = refl
all_same (suc n) zero x = refl
all_same (suc n) (suc k) x = all_same n k x
