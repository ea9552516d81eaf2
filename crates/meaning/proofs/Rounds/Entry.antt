-- Every code within k rounds is entered by one of them; and where a round enters nothing, no later one enters anything.
use Prim.Native.Nat.{ℕ, zero, suc, ◌<◌, ◌≤◌}
use native.Mathlib.Omega.{arith}
use Rattle.meaning.specs.Loop.{LoopFree}
use Rattle.meaning.specs.Marked.{Smallest, Within, Enters}
use Rattle.meaning.specs.Table.{Table, InRange}
use Rattle.meaning.proofs.Rounds.Heights.{settled}
use Rattle.meaning.proofs.Rounds.Smallest.{smallest_from, smallest_within, within_smallest, enters_smallest}
use Rattle.meaning.proofs.Search.Levels.{within_dec}

module _ {rows : Table} (range : InRange rows) (free : LoopFree rows) where
  pub entry : (j c : ℕ) → Within rows j c → (k : ℕ) × (k ≤ j) × Smallest rows c k
  entry zero c w = absurd w
  entry (suc j) c w = at (within_dec range free j c) (entry j c)
    where
      at : Dec (Within rows j c) → (Within rows j c → (k : ℕ) × (k ≤ j) × Smallest rows c k) → (k : ℕ) × (k ≤ suc j) × Smallest rows c k
      at (yes h) f = let x = f h in (x.0, omega (arith, x.1), x.2)
      at (no h) f = (suc j, omega arith, smallest_from w h)

  -- all that is ever entered is entered by round k
  pub last_round : (k : ℕ) → ((c : ℕ) → Enters rows (suc k) c → ⊥) → (j c : ℕ) → Within rows j c → Within rows k c
  last_round k h = settled rows k (λ c w. at c w (within_dec range free k c))
    where
      at : (c : ℕ) → Within rows (suc k) c → Dec (Within rows k c) → Within rows k c
      at c w (yes v) = v
      at c w (no v) = absurd (h c (w, v))

  pub ended : (k : ℕ) → ((c : ℕ) → Enters rows (suc k) c → ⊥) → (j c : ℕ) → k < j → Enters rows j c → ⊥
  ended k h j c l e =
      let x = (enters_smallest j c).0 e in
      omega (arith, within_smallest k x (last_round k h j c (smallest_within j x (omega arith))))
