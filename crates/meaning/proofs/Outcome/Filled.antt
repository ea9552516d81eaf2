-- Slices that hold what they should exist, for every last round.
use Prim.Native.Nat.{ℕ, zero, suc, ◌<◌}
use native.Mathlib.Omega.{arith}
use native.Mathlib.Decide.{dec_lt}
use mathlib.Core.List.{List, [], ◌∷◌}
use mathlib.Core.Path.{◌≡◌, refl, ap}
use lib.ListN.{get_or, length}
use Rattle.meaning.specs.Code.{codes}
use Rattle.meaning.specs.Loop.{LoopFree}
use Rattle.meaning.specs.Marked.{Smallest, Within}
use Rattle.meaning.specs.Outcome.{Slices, absent, RoundIs, entered, not_entered, NeighbourIs, left_out, Met, UsedIs, met, not_met, Searched}
use Rattle.meaning.specs.Table.{Side, first, next, Table, InRange}
use Rattle.meaning.proofs.Sides.{sides}
use Rattle.meaning.proofs.Outcome.Met.{used_for}
use Rattle.meaning.proofs.Outcome.Neighbours.{neighbour_is}
use Rattle.meaning.proofs.Outcome.Unique.{carry}
use Rattle.meaning.proofs.Rounds.Entry.{entry}
use Rattle.meaning.proofs.Rounds.Smallest.{smallest_within}
use Rattle.meaning.proofs.Search.Levels.{within_dec}
use Rattle.meaning.proofs.Search.Model.{neighbour_b}
use Rattle.meaning.proofs.Search.Truth.{m}

-- A list of what was found for each place.
pub choose : (R : ℕ → ℕ → Type 0) (n : ℕ) → ((c : ℕ) → c < n → (v : ℕ) × R c v) → (l : List ℕ) × ((c : ℕ) → c < n → R c (get_or l c 0)) × (length l ≡ n)
choose R zero f = ([], λ c h. absurd (omega arith), refl)
choose R (suc n) f =
    let x = f 0 (omega arith) in
    let y = choose (λ c v. R (suc c) v) n (λ c h. f (suc c) (omega arith)) in
    (x.0 ∷ y.0, λ c h. at x.0 x.1 y.0 y.1 c h, ap suc y.2)
  where
    at : (v : ℕ) → R 0 v → (l : List ℕ) → ((c : ℕ) → c < n → R (suc c) (get_or l c 0)) → (c : ℕ) → c < suc n → R c (get_or (v ∷ l) c 0)
    at v r l g zero h = r
    at v r l g (suc c) h = g c (omega arith)

module _ {rows : Table} (range : InRange rows) (free : LoopFree rows) (last : ℕ) where
  round_for : (c : ℕ) → (v : ℕ) × RoundIs rows last c v
  round_for c = at (within_dec range free last c)
    where
      over : (k : ℕ) → Smallest rows c k → (Within rows last c → ⊥) → Dec (last < k) → last < k
      over k x n (yes h) = h
      over k x n (no h) = absurd (n (smallest_within last x (omega arith)))

      at : Dec (Within rows last c) → (v : ℕ) × RoundIs rows last c v
      at (yes w) = let x = entry range free last c w in (x.0, entered x.2 x.1)
      at (no w) = (0, not_entered (λ k x. over k x w (dec_lt last k)))

  neighbour_for : (round : List ℕ) → ((c : ℕ) → c < codes rows → RoundIs rows last c (get_or round c 0)) → (s : Side) (c : ℕ) → c < codes rows → (v : ℕ) × NeighbourIs rows round s c v
  neighbour_for round R s c l = at (get_or round c 0) refl
    where
      at : (k : ℕ) → get_or round c 0 ≡ k → (v : ℕ) × NeighbourIs rows round s c v
      at zero e = (absent, left_out e)
      at (suc k) e = (neighbour_b rows (m rows) k s c, neighbour_is range free round R s k c l e)

  -- the first three slices, with any fourth
  pub filled : (r : List ℕ) × (f : List ℕ) × (n : List ℕ) × ((u : List ℕ) → Searched rows last (record { round = r; firsts = f; nexts = n; used = u }))
  filled =
      let r = choose (λ c v. RoundIs rows last c v) (codes rows) (λ c l. round_for c) in
      let on : (s : Side) → (f : List ℕ) × ((c : ℕ) → c < codes rows → NeighbourIs rows r.0 s c (get_or f c 0)) × (length f ≡ codes rows) = λ s. choose (λ c v. NeighbourIs rows r.0 s c v) (codes rows) (neighbour_for r.0 r.1 s) in
      let f = on first in
      let n = on next in
      (r.0, f.0, n.0, λ u. record { rounds = r.1; neighbours = sides _ f.1 n.1 })

  -- and the fourth, with what is met from the top
  pub used : (top : ℕ) → top < codes rows → (x : Slices) × Searched rows last x × ((c : ℕ) → c < codes rows → UsedIs x top c (get_or x.used c 0))
  used top l =
      let y = filled in
      let old : Slices = record { round = y.0; firsts = y.1; nexts = y.2; used = [] } in
      let u = choose (λ c v. UsedIs old top c v) (codes rows) (used_for {x = old} (y.3 []) l) in
      let new : Slices = record { round = y.0; firsts = y.1; nexts = y.2; used = u.0 } in
      (new, y.3 u.0, λ c k. on old new (λ q. (carry {x = old} {y = new} (y.3 []) (y.3 u.0) l q).1) (λ q. (carry {x = new} {y = old} (y.3 u.0) (y.3 []) l q).1) (u.1 c k))
    where
      on : {c v : ℕ} (x y : Slices) → (Met x top c → Met y top c) → (Met y top c → Met x top c) → UsedIs x top c v → UsedIs y top c v
      on x y f g (met k) = met (f k)
      on x y f g (not_met k) = not_met (λ q. k (g q))

  -- the fourth with nothing in it
  pub unused : (x : Slices) × Searched rows last x × ((c : ℕ) → c < codes rows → get_or x.used c 0 ≡ 0)
  unused =
      let y = filled in
      let u = choose (λ c v. v ≡ 0) (codes rows) (λ c l. (0, refl)) in
      (record { round = y.0; firsts = y.1; nexts = y.2; used = u.0 }, y.3 u.0, u.1)
