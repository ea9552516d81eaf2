-- The height of a code's smallest marked tree is the round that enters it. These are the facts with which all later files speak of rounds.
use Prim.Native.Nat.{ℕ, zero, suc, ◌<◌, ◌≤◌}
use native.Mathlib.Omega.{arith}
use native.Mathlib.Decide.{dec_lt}
use mathlib.Core.Logic.{◌↔◌}
use mathlib.Core.Option.{some}
use mathlib.Core.Path.{◌≡◌}
use Rattle.meaning.specs.Code.{codes, Proper}
use Rattle.meaning.specs.Marked.{Marked, Smallest, Within, Enters}
use Rattle.meaning.specs.Table.{Table}
use Rattle.meaning.specs.Tree.{Tree, height}
use Rattle.meaning.proofs.Rounds.Heights.{enter, grow}

module _ {rows : Table} where
  pub smallest_unique : {c k l : ℕ} → Smallest rows c k → Smallest rows c l → k ≡ l
  smallest_unique x y = omega (arith, x.least y.tree y.marked, y.least x.tree x.marked, x.high, y.high)

  pub smallest_from : {k c : ℕ} → Within rows (suc k) c → (Within rows k c → ⊥) → Smallest rows c (suc k)
  smallest_from {k} {c} w n =
      let x = grow rows (suc k) c w in
      let least : (t : Tree) → Marked rows t (some c) → suc k ≤ height t = λ t h. over t h (dec_lt k (height t)) in
      record { tree = x.tree; marked = x.marked; high = omega (arith, x.low, least x.tree x.marked); least = least }
    where
      over : (t : Tree) → Marked rows t (some c) → Dec (k < height t) → suc k ≤ height t
      over t h (yes l) = l
      over t h (no l) = absurd (n (enter rows k c h (omega arith)))

  pub smallest_within : {k c : ℕ} (j : ℕ) → Smallest rows c k → k ≤ j → Within rows j c
  smallest_within {c = c} j x l = enter rows j c x.marked (omega (arith, x.high))

  pub within_smallest : {k c : ℕ} (j : ℕ) → Smallest rows c k → Within rows j c → k ≤ j
  within_smallest {c = c} j x w = let y = grow rows j c w in omega (arith, x.least y.tree y.marked, y.low)

  pub within_code : (k c : ℕ) → Within rows k c → (c < codes rows) × Proper rows c
  within_code zero c w = absurd w
  within_code (suc k) c w = (w.1, w.0)

  pub smallest_code : {c k : ℕ} → Smallest rows c k → (c < codes rows) × Proper rows c
  smallest_code {c} {k} x = within_code k c (smallest_within k x (omega arith))

  pub smallest_pos : {c k : ℕ} → Smallest rows c k → 0 < k
  smallest_pos {k = zero} x = absurd (smallest_within 0 x (omega arith))
  smallest_pos {k = suc k} x = omega arith

  pub first_smallest : (k c : ℕ) → Within rows k c → ((j : ℕ) → j < k → Within rows j c → ⊥) → Smallest rows c k
  first_smallest zero c w b = absurd w
  first_smallest (suc k) c w b = smallest_from w (b k (omega arith))

  pub enters_smallest : (k c : ℕ) → Enters rows k c ↔ Smallest rows c k
  enters_smallest zero c = (λ e. absurd e, λ x. absurd (omega (arith, smallest_pos x)))
  enters_smallest (suc k) c = (
    λ e. smallest_from e.0 e.1,
    λ x. (smallest_within (suc k) x (omega arith), λ w. omega (arith, within_smallest k x w)),
  )
