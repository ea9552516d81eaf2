-- The codes that the computed search has after k rounds are those within k rounds; so whether a code is within k rounds is decided.
use Prim.Native.Nat.{ℕ, zero, suc, ◌<◌}
use mathlib.Core.Bool.{true, false}
use mathlib.Core.List.Memᴰ
use mathlib.Core.List.{List, [], Memᴰ}
use mathlib.Core.Logic.Dec
use mathlib.Core.Logic.{◌↔◌, ◌⊎◌, inl, inr}
use Rattle.meaning.specs.Code.{codes, HasFlag, Proper, Takes}
use Rattle.meaning.specs.Loop.{LoopFree}
use Rattle.meaning.specs.Marked.{Within}
use Rattle.meaning.specs.Table.{Side, first, next, down, Table, InRange}
use Rattle.meaning.proofs.Sides.{sides}
use Rattle.meaning.proofs.Search.Agrees.{proper_iff, takes_iff}
use Rattle.meaning.proofs.Search.Lists.{exists_to, exists_from, Asc, asc_nil, keep_to, keep_new, keep_asc, mem_dec}
use Rattle.meaning.proofs.Search.Model.{flag_b, takes_b, proper_b, exists, kid_b, ok_b, level}
use Rattle.meaning.proofs.Tests.{Is, implies_iff, guard_iff}
use Rattle.meaning.proofs.Search.Truth.{m, flag_iff}

abbrev pub lv : Table → ℕ → List ℕ
lv rows k = level rows (m rows) (codes rows) k

pub lv_asc : (rows : Table) (k : ℕ) → Asc 0 (lv rows k)
lv_asc rows zero = asc_nil
lv_asc rows (suc k) = keep_asc (ok_b rows (m rows) (lv rows k)) (codes rows) [] asc_nil

module _ {rows : Table} (range : InRange rows) (free : LoopFree rows) where
  kid_iff : (s : Side) (k c : ℕ) (l : List ℕ) → ((u : ℕ) → Memᴰ u l ↔ Within rows k u)
      → Is (kid_b rows (m rows) l c s) ↔ (HasFlag rows c (down s) → (u : ℕ) × Within rows k u × Takes rows s c u)
  kid_iff s k c l ih =
      let f = implies_iff (flag_b (m rows) c (down s)) (exists (takes_b rows (m rows) s c) l) in (
        λ h a. let x = exists_to (takes_b rows (m rows) s c) l (f.0 h ((flag_iff rows c (down s)).1 a)) in (x.0, (ih x.0).0 x.1, (takes_iff range free s c x.0 a).0 x.2),
        λ h. f.1 (λ a. let x = h ((flag_iff rows c (down s)).0 a) in exists_from (takes_b rows (m rows) s c) ((ih x.0).1 x.1) ((takes_iff range free s c x.0 x.2.flag_down).1 x.2)),
      )

  ok_iff : (k c : ℕ) (l : List ℕ) → ((u : ℕ) → Memᴰ u l ↔ Within rows k u)
      → Is (ok_b rows (m rows) l c) ↔ (Proper rows c × ((s : Side) → HasFlag rows c (down s) → (u : ℕ) × Within rows k u × Takes rows s c u))
  ok_iff k c l ih =
      let A = kid_b rows (m rows) l c first in
      let B = kid_b rows (m rows) l c next in
      let f = guard_iff (proper_b rows (m rows) c) (elim A [ true ↦ B | false ↦ false ]) in
      let g = guard_iff A B in (
        λ h. let x = f.0 h in let y = g.0 x.1 in
            ((proper_iff rows c).0 x.0, sides _ ((kid_iff first k c l ih).0 y.0) ((kid_iff next k c l ih).0 y.1)),
        λ h. f.1 ((proper_iff rows c).1 h.0, g.1 ((kid_iff first k c l ih).1 (h.1 first), (kid_iff next k c l ih).1 (h.1 next))),
      )

  pub level_iff : (k c : ℕ) → Memᴰ c (lv rows k) ↔ Within rows k c
  level_iff zero c = (λ h. Memᴰ.not-nil h, λ h. absurd h)
  level_iff (suc k) c =
      let l = lv rows k in
      let f = ok_iff k c l (λ u. level_iff k u) in (
        λ h. let x = in_kept l (keep_to (ok_b rows (m rows) l) (codes rows) c [] h) in let y = f.0 x.1 in (y.0, x.0, y.1),
        λ h. keep_new (ok_b rows (m rows) l) (codes rows) c [] h.1 (f.1 (h.0, h.2)),
      )
    where
      in_kept : (l : List ℕ) → ((c < codes rows) × Is (ok_b rows (m rows) l c)) ⊎ Memᴰ c [] → (c < codes rows) × Is (ok_b rows (m rows) l c)
      in_kept l (inl x) = x
      in_kept l (inr h) = absurd (Memᴰ.not-nil h)

  pub within_dec : (k c : ℕ) → Dec (Within rows k c)
  within_dec k c = Dec.of_iff (level_iff k c) (mem_dec c (lv rows k))
