-- The computed tests of a code agree with what a proper code, a code that takes another, and a good code are.
use Prim.Native.Nat.{ℕ, ◌<◌}
use mathlib.Core.Bool.{Bool, not, ◌&&◌, ◌||◌}
use mathlib.Core.Logic.Dec
use mathlib.Core.Logic.Iff
use mathlib.Core.Logic.{◌↔◌, ◌⊎◌, inl, inr}
use mathlib.Core.Path.{◌≡◌, refl}
use lib.ListN.{length}
use Rattle.meaning.specs.Code.{HasFlag, HasBit, TrueIn, Proper, Takes, Good}
use Rattle.meaning.specs.Loop.{LoopFree}
use Rattle.meaning.specs.Table.{Side, first, next, Dir, down, up, Table, row_at, asked, go_row, InRange}
use Rattle.meaning.proofs.Codes.Names.{flag_dec}
use Rattle.meaning.proofs.Search.Model.{flag_b, bit_b, eval, all_rows, on_go, same_side, link_b, link_go, takes_b, proper_b, good_b}
use Rattle.meaning.proofs.Search.Rows.{every_go}
use Rattle.meaning.proofs.Tests.{Is, false≢true, or_iff, and_iff, not_iff, implies, implies_iff, same_iff, guard_iff, bar_iff, is_dec, iff_both}
use Rattle.meaning.proofs.Search.Truth.{m, flag_iff, bit_iff, truth_iff}

pub side_refl : (s : Side) → Is (same_side s s)
side_refl first = refl
side_refl next = refl

pub side_eq : (s z : Side) → Is (same_side s z) → s ≡ z
side_eq first first h = refl
side_eq first next h = false≢true h
side_eq next first h = false≢true h
side_eq next next h = refl

module _ (rows : Table) where
  pub proper_iff : (c : ℕ) → Is (proper_b rows (m rows) c) ↔ Proper rows c
  proper_iff c = (
    λ h. let x = f.0 h in record {
      one_parent = λ p q. (not_iff (a && b)).0 x.0 ((and_iff a b).1 ((flag_iff rows c (up first)).1 p, (flag_iff rows c (up next)).1 q));
      flagged = λ i j d e k. (flag_iff rows c d).0 ((implies_iff (bit_b rows c i) (flag_b (m rows) c d)).0 (g.0 x.1 i j d e) ((bit_iff rows c i).1 k));
    },
    λ p. f.1 (
      (not_iff (a && b)).1 (λ h. let x = (and_iff a b).0 h in p.one_parent ((flag_iff rows c (up first)).0 x.0) ((flag_iff rows c (up next)).0 x.1)),
      g.1 (λ i j d e. (implies_iff (bit_b rows c i) (flag_b (m rows) c d)).1 (λ k. (flag_iff rows c d).1 (p.flagged i j d e ((bit_iff rows c i).0 k)))),
    ),
  )
    where
      a : Bool
      a = flag_b (m rows) c (up first)

      b : Bool
      b = flag_b (m rows) c (up next)

      test : ℕ → Dir → ℕ → Bool
      test i d j = implies (bit_b rows c i) (flag_b (m rows) c d)

      f : Is (proper_b rows (m rows) c) ↔ (Is (not (a && b)) × Is (all_rows (λ i r. on_go (test i) r) 0 rows))
      f = and_iff (not (a && b)) (all_rows (λ i r. on_go (test i) r) 0 rows)

      g : Is (all_rows (λ i r. on_go (test i) r) 0 rows) ↔ ((i j : ℕ) (d : Dir) → row_at rows i ≡ go_row d j → Is (test i d j))
      g = every_go rows test

module _ {rows : Table} (range : InRange rows) (free : LoopFree rows) where
  link_iff : (t u i j : ℕ) {d : Dir} → row_at rows i ≡ go_row d j → Is (link_b rows (m rows) t u i j) ↔ (HasBit rows t i ↔ TrueIn rows u j)
  link_iff t u i j e = Iff.trans (same_iff (bit_b rows t i) (eval rows (m rows) u (length rows) j)) (iff_both (bit_iff rows t i) (truth_iff range free u j (range.looked i e)))

  pub takes_iff : (s : Side) (t u : ℕ) → HasFlag rows t (down s) → Is (takes_b rows (m rows) s t u) ↔ Takes rows s t u
  takes_iff s t u a = (
    λ h. let x = f.0 h in record {
      flag_down = a;
      flag_up = (flag_iff rows u (up s)).0 x.0;
      forth = λ i j e. (link_iff t u i j e).0 ((implies_iff (same_side s s) (link_b rows (m rows) t u i j)).0 (g.0 x.1 i j (down s) e) (side_refl s));
      back = λ i j e. (link_iff u t i j e).0 ((implies_iff (same_side s s) (link_b rows (m rows) u t i j)).0 (g.0 x.1 i j (up s) e) (side_refl s));
    },
    λ x. f.1 ((flag_iff rows u (up s)).1 x.flag_up, g.1 (λ i j d. on x i j d)),
  )
    where
      test : ℕ → Dir → ℕ → Bool
      test = link_go rows (m rows) s t u

      f : Is (takes_b rows (m rows) s t u) ↔ (Is (flag_b (m rows) u (up s)) × Is (all_rows (λ i r. on_go (test i) r) 0 rows))
      f = guard_iff (flag_b (m rows) u (up s)) (all_rows (λ i r. on_go (test i) r) 0 rows)

      g : Is (all_rows (λ i r. on_go (test i) r) 0 rows) ↔ ((i j : ℕ) (d : Dir) → row_at rows i ≡ go_row d j → Is (test i d j))
      g = every_go rows test

      on : Takes rows s t u → (i j : ℕ) (d : Dir) → row_at rows i ≡ go_row d j → Is (test i d j)
      on x i j (down z) e = (implies_iff (same_side s z) (link_b rows (m rows) t u i j)).1 (λ k. (link_iff t u i j e).1 (x.forth i j (rw (side_eq s z k) e)))
      on x i j (up z) e = (implies_iff (same_side s z) (link_b rows (m rows) u t i j)).1 (λ k. (link_iff u t i j e).1 (x.back i j (rw (side_eq s z k) e)))

  pub takes_dec : (s : Side) (t u : ℕ) → Dec (Takes rows s t u)
  takes_dec s t u = at (flag_dec rows t (down s))
    where
      at : Dec (HasFlag rows t (down s)) → Dec (Takes rows s t u)
      at (yes f) = Dec.of_iff (takes_iff s t u f) (is_dec (takes_b rows (m rows) s t u))
      at (no f) = no (λ x. f x.flag_down)

  pub good_iff : 0 < length rows → (c : ℕ) → Is (good_b rows (m rows) c) ↔ Good rows c
  good_iff l c = (
    λ h. let x = f.0 h in record { no_parent = λ s k. x.0 ((or_iff a b).1 (side s k)); true_here = e.0 x.1 },
    λ h. f.1 (λ k. none_of h ((or_iff a b).0 k), e.1 h.true_here),
  )
    where
      a : Bool
      a = flag_b (m rows) c (up first)

      b : Bool
      b = flag_b (m rows) c (up next)

      e : Is (eval rows (m rows) c (length rows) (asked rows)) ↔ TrueIn rows c (asked rows)
      e = truth_iff range free c (asked rows) l

      f : Is (good_b rows (m rows) c) ↔ ((Is (a || b) → ⊥) × Is (eval rows (m rows) c (length rows) (asked rows)))
      f = bar_iff (a || b) (eval rows (m rows) c (length rows) (asked rows))

      side : (s : Side) → HasFlag rows c (up s) → Is a ⊎ Is b
      side first k = inl ((flag_iff rows c (up first)).1 k)
      side next k = inr ((flag_iff rows c (up next)).1 k)

      none_of : Good rows c → Is a ⊎ Is b → ⊥
      none_of h (inl k) = h.no_parent first ((flag_iff rows c (up first)).0 k)
      none_of h (inr k) = h.no_parent next ((flag_iff rows c (up next)).0 k)

  pub good_dec : 0 < length rows → (c : ℕ) → Dec (Good rows c)
  good_dec l c = Dec.of_iff (good_iff l c) (is_dec (good_b rows (m rows) c))
