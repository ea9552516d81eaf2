-- Whether a code is met from the top is decided: what leads to a code is of a later round, and there are only so many rounds.
use Prim.Native.Nat.{ℕ, zero, suc, ◌+◌, ◌<◌}
use native.Mathlib.Omega.{arith}
use native.Mathlib.Decide.{ℕ_discrete}
use mathlib.Core.Logic.Dec
use mathlib.Core.Logic.{◌⊎◌, inl, inr, ◌≢◌}
use mathlib.Core.Path.{◌≡◌, refl, sym, ◌∙◌, subst}
use lib.ListN.{get_or}
use Rattle.meaning.specs.Code.{codes}
use Rattle.meaning.specs.Outcome.{Slices, recorded, absent, NeighbourIs, Met, at_top, onward, UsedIs, met, not_met, Searched}
use Rattle.meaning.specs.Table.{Side, first, next, Table}
use Rattle.meaning.proofs.Outcome.Unique.{carry}
use Rattle.meaning.proofs.Rounds.Places.{round_le, neighbour_earlier}
use Rattle.meaning.proofs.Tests.{or_dec}

pub some_dec : (P : ℕ → Type 0) (n : ℕ) → ((j : ℕ) → j < n → Dec (P j)) → Dec ((j : ℕ) × (j < n) × P j)
some_dec P zero d = no (λ x. omega (arith, x.1))
some_dec P (suc n) d = Dec.of_iff (to, from) (or_dec (d n (omega arith)) (some_dec P n (λ j l. d j (omega arith))))
  where
    to : P n ⊎ ((j : ℕ) × (j < n) × P j) → (j : ℕ) × (j < suc n) × P j
    to (inl p) = (n, omega arith, p)
    to (inr x) = (x.0, omega (arith, x.1), x.2)

    from : (j : ℕ) × (j < suc n) × P j → P n ⊎ ((j : ℕ) × (j < n) × P j)
    from x = on x.0 x.1 x.2 (ℕ_discrete x.0 n)
      where
        on : (j : ℕ) → j < suc n → P j → Dec (j ≡ n) → P n ⊎ ((j : ℕ) × (j < n) × P j)
        on j l p (yes e) = inl (subst P e p)
        on j l p (no e) = inr (j, omega arith, p)

pub side_dec : (P : Side → Type 0) → ((s : Side) → Dec (P s)) → Dec ((s : Side) × P s)
side_dec P d = Dec.of_iff (to, from) (or_dec (d first) (d next))
  where
    to : P first ⊎ P next → (s : Side) × P s
    to (inl p) = (first, p)
    to (inr p) = (next, p)

    on : (s : Side) → P s → P first ⊎ P next
    on first p = inl p
    on next p = inr p

    from : (s : Side) × P s → P first ⊎ P next
    from x = on x.0 x.1

-- d, which is met, leads to c
record Leads (x : Slices) (top c d : ℕ) : Type 0 where
  side : Side
  here : get_or (recorded x side) d 0 ≡ c
  from : Met x top d

module _ {x : Slices} {top : ℕ} where
  met_from : {c : ℕ} → Met x top c → (c ≡ top) ⊎ ((c ≢ absent) × (d : ℕ) × Leads x top c d)
  met_from at_top = inl refl
  met_from (onward {c = d} s m h) = inr (h, d, record { side = s; here = refl; from = m })

  met_to : (c d : ℕ) → c ≢ absent → Leads x top c d → Met x top c
  met_to c d h l = subst (λ (z : ℕ). Met x top z) l.here (onward l.side l.from (λ k. h (sym l.here ∙ k)))

module _ {rows : Table} {last : ℕ} {x : Slices} (f : Searched rows last x) {top : ℕ} (lt : top < codes rows) where
  leads_later : (c d : ℕ) (s : Side) → d < codes rows → c ≢ absent → get_or (recorded x s) d 0 ≡ c → get_or x.round c 0 < get_or x.round d 0
  leads_later c d s l h e = (neighbour_earlier (subst (λ (z : ℕ). NeighbourIs rows x.round s d z) e (f.neighbours s d l)) h).2

  met_dec : (n c : ℕ) → c < codes rows → last < get_or x.round c 0 + n → Dec (Met x top c)
  met_dec zero c l h = absurd (omega (arith, round_le (f.rounds c l)))
  met_dec (suc n) c l h = at (ℕ_discrete c top) (ℕ_discrete c absent) (λ d b k. met_dec n d b (omega arith))
    where
      Later : Type 0
      Later = (d : ℕ) → d < codes rows → get_or x.round c 0 < get_or x.round d 0 → Dec (Met x top d)

      by : (d : ℕ) → d < codes rows → c ≢ absent → Later → (s : Side) → Dec (get_or (recorded x s) d 0 ≡ c) → Dec ((get_or (recorded x s) d 0 ≡ c) × Met x top d)
      by d b w ih s (no k) = no (λ z. k z.0)
      by d b w ih s (yes k) = Dec.of_iff (λ m. (k, m), λ z. z.1) (ih d b (leads_later c d s b w k))

      leads_dec : (d : ℕ) → d < codes rows → c ≢ absent → Later → Dec (Leads x top c d)
      leads_dec d b w ih =
          Dec.of_iff (λ z. record { side = z.0; here = z.1.0; from = z.1.1 }, λ z. (z.side, (z.here, z.from)))
          (side_dec (λ s. (get_or (recorded x s) d 0 ≡ c) × Met x top d) (λ s. by d b w ih s (ℕ_discrete (get_or (recorded x s) d 0) c)))

      back : c ≢ top → (c ≡ top) ⊎ ((c ≢ absent) × (d : ℕ) × Leads x top c d) → (c ≢ absent) × (d : ℕ) × (d < codes rows) × Leads x top c d
      back n (inl e) = absurd (n e)
      back n (inr z) = (z.0, z.1, (carry f f lt z.2.from).0, z.2)

      at : Dec (c ≡ top) → Dec (c ≡ absent) → Later → Dec (Met x top c)
      at (yes e) d ih = yes (rw e at_top)
      at (no e) (yes g) ih = no (λ m. (back e (met_from m)).0 g)
      at (no e) (no g) ih =
          Dec.of_iff (λ z. met_to c z.0 g z.2, λ m. let z = back e (met_from m) in (z.1, z.2, z.3))
          (some_dec (Leads x top c) (codes rows) (λ d b. leads_dec d b g ih))

  pub used_for : (c : ℕ) → c < codes rows → (v : ℕ) × UsedIs x top c v
  used_for c l = at (met_dec (suc last) c l (omega arith))
    where
      at : Dec (Met x top c) → (v : ℕ) × UsedIs x top c v
      at (yes k) = (1, met k)
      at (no k) = (0, not_met k)
