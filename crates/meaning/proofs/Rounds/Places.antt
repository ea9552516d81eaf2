-- What the round slice and the neighbour slices hold is settled, and what it says of a code.
use Prim.Native.Nat.{ℕ, ◌<◌, ◌≤◌}
use native.Mathlib.Omega.{arith}
use mathlib.Core.List.{List}
use mathlib.Core.Logic.{◌≢◌}
use mathlib.Core.Path.{◌≡◌, refl, sym}
use Rattle.meaning.specs.Code.{codes}
use Rattle.meaning.specs.Marked.{Smallest}
use Rattle.meaning.specs.Outcome.{absent, RoundIs, entered, not_entered, Earlier, NeighbourIs, smallest, no_child, left_out, SameBelow}
use Rattle.meaning.specs.Table.{Side, Table}
use Rattle.meaning.proofs.Rounds.Smallest.{smallest_unique}

earlier : (rows : Table) (round round' : List ℕ) → SameBelow (codes rows) round round' → (c u : ℕ) → c < codes rows → Earlier rows round' c u → Earlier rows round c u
earlier rows round round' f c u l e = (e.0, omega (arith, f u e.0), omega (arith, f u e.0, f c l))

module _ {rows : Table} where
  pub round_unique : {last c a b : ℕ} → RoundIs rows last c a → RoundIs rows last c b → a ≡ b
  round_unique (entered x h) (entered y g) = smallest_unique x y
  round_unique (entered {k} x h) (not_entered f) = absurd (omega (arith, f k x))
  round_unique (not_entered f) (entered {k} x h) = absurd (omega (arith, f k x))
  round_unique (not_entered f) (not_entered g) = refl

  pub was_entered : {last c k : ℕ} → RoundIs rows last c k → 0 < k → Smallest rows c k × (k ≤ last)
  was_entered (entered x h) p = (x, h)
  was_entered (not_entered f) p = absurd (omega arith)

  pub round_le : {last c k : ℕ} → RoundIs rows last c k → k ≤ last
  round_le (entered x h) = h
  round_le (not_entered f) = omega arith

  -- a neighbour that is there is a code of an earlier round
  pub neighbour_earlier : {round : List ℕ} {s : Side} {c u : ℕ} → NeighbourIs rows round s c u → u ≢ absent → Earlier rows round c u
  neighbour_earlier (smallest e t l) h = e
  neighbour_earlier (no_child k) h = absurd (h refl)
  neighbour_earlier (left_out k) h = absurd (h refl)

  pub neighbour_unique : {round round' : List ℕ} {s : Side} {c a b : ℕ} → SameBelow (codes rows) round round' → c < codes rows
      → NeighbourIs rows round s c a → NeighbourIs rows round' s c b → a ≡ b
  neighbour_unique {round} {round'} {c = c} {a = a} {b = b} f l (smallest e t h) (smallest e' t' h') =
      omega (arith, h b (earlier rows round round' f c b l e') t', h' a (earlier rows round' round (λ u k. sym (f u k)) c a l e) t)
  neighbour_unique f l (smallest e t h) (no_child k) = absurd (k t.flag_down)
  neighbour_unique {c = c} f l (smallest e t h) (left_out k) = absurd (omega (arith, e.2, f c l))
  neighbour_unique f l (no_child k) (smallest e t h) = absurd (k t.flag_down)
  neighbour_unique f l (no_child k) (no_child k') = refl
  neighbour_unique f l (no_child k) (left_out k') = refl
  neighbour_unique {c = c} f l (left_out k) (smallest e t h) = absurd (omega (arith, e.2, f c l))
  neighbour_unique f l (left_out k) (no_child k') = refl
  neighbour_unique f l (left_out k) (left_out k') = refl
