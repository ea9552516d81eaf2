-- A test of each number below m, as `all` makes it.
use Prim.Native.Nat.{ℕ, ◌<◌}
use native.Mathlib.Omega.{arith}
use mathlib.Core.Bool.{Bool, true, false}
use mathlib.Core.Path.{◌≡◌, subst}
use lib.ListN.{get_or, length}
use Rattle.std.specs.Bool.{MatchBool}
use Rattle.std.specs.List.{range_with_len, AllWithin, HoldsAt}
use Rattle.std.proofs.lemmas.List.FromFn.{length-range_with_len, get_or-range_with_len}
use Rattle.table.specs.Decides.{Decides}
use Rattle.table.proofs.Decides.{always, never}

module _ (P : ℕ → Type 0) (m : ℕ) where
  pub every : (r : Bool) → MatchBool r (AllWithin P (range_with_len 0 m) 0 (length (range_with_len 0 m))) ((k : ℕ) × (k < length (range_with_len 0 m)) × HoldsAt (λ j. P j → ⊥) (range_with_len 0 m) k) → Decides r ((j : ℕ) → j < m → P j)
  every true h = always (λ j l. let e : get_or (range_with_len 0 m) j 0 ≡ j = omega (arith, get_or-range_with_len 0 m j 0 l) in subst P e (h j 0 (omega arith) (omega (arith, length-range_with_len 0 m))))
  every false h = never (λ f.
      let k = h.0 in
      let l : k < m = omega (arith, h.1, length-range_with_len 0 m) in
      let e : get_or (range_with_len 0 m) k 0 ≡ k = omega (arith, get_or-range_with_len 0 m k 0 l) in
      subst (λ (j : ℕ). P j → ⊥) e (h.2 0) (f k l))
