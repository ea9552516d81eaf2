-- The neighbour that belongs into the slices, by computing: the smallest code of an earlier round that is taken.
use Prim.Native.Nat.{ℕ, suc, ◌<◌, ◌≤◌}
use native.Mathlib.Omega.{arith}
use mathlib.Core.Bool.{Bool, true, false}
use mathlib.Core.List.{List}
use mathlib.Core.Option.{Option, none, some}
use mathlib.Core.Path.{◌≡◌, refl, sym, ◌∙◌, subst}
use lib.ListN.{get_or}
use Rattle.meaning.specs.Code.{codes, HasFlag}
use Rattle.meaning.specs.Loop.{LoopFree}
use Rattle.meaning.specs.Marked.{Smallest, Within}
use Rattle.meaning.specs.Outcome.{absent, RoundIs, entered, NeighbourIs, smallest, no_child}
use Rattle.meaning.specs.Table.{Side, down, Table, InRange}
use Rattle.meaning.proofs.Rounds.Entry.{entry}
use Rattle.meaning.proofs.Rounds.Places.{round_unique, was_entered}
use Rattle.meaning.proofs.Rounds.Smallest.{smallest_within, smallest_pos, within_code}
use Rattle.meaning.proofs.Search.Agrees.{takes_iff}
use Rattle.meaning.proofs.Search.Levels.{lv, lv_asc, level_iff}
use Rattle.meaning.proofs.Search.Lists.{least_none, least_some}
use Rattle.meaning.proofs.Search.Model.{flag_b, takes_b, least, neighbour_b}
use Rattle.meaning.proofs.Tests.{false≢true}
use Rattle.meaning.proofs.Search.Truth.{m, flag_iff}

module _ {rows : Table} (range : InRange rows) (free : LoopFree rows) {last : ℕ} (round : List ℕ) (R : (c : ℕ) → c < codes rows → RoundIs rows last c (get_or round c 0)) where
  pub neighbour_is : (s : Side) (k c : ℕ) → c < codes rows → get_or round c 0 ≡ suc k → NeighbourIs rows round s c (neighbour_b rows (m rows) k s c)
  neighbour_is s k c l e = at (flag_b (m rows) c (down s)) refl
    where
      now : Smallest rows c (suc k) × (suc k ≤ last)
      now = was_entered (subst (λ (z : ℕ). RoundIs rows last c z) e (R c l)) (omega arith)

      on : HasFlag rows c (down s) → (o : Option ℕ) → least (takes_b rows (m rows) s c) (lv rows k) ≡ o → NeighbourIs rows round s c (elim o [ none ↦ absent | some u ↦ u ])
      on f none q =
          let w : Within rows (suc k) c = smallest_within (suc k) now.0 (omega arith) in
          let y = w.2 s f in
          absurd (least_none (takes_b rows (m rows) s c) ((level_iff range free k y.0).1 y.1) q ((takes_iff range free s c y.0 f).1 y.2))
      on f (some u) q =
          let y = least_some (takes_b rows (m rows) s c) 0 u (lv rows k) (lv_asc rows k) q in
          let w = (level_iff range free k u).0 y.0 in
          let b = (within_code k u w).0 in
          let z = entry range free k u w in
          let i : get_or round u 0 ≡ z.0 = round_unique (R u b) (entered z.2 (omega (arith, z.1, now.1))) in
          smallest
          (b, omega (arith, smallest_pos z.2), omega (arith, z.1))
          ((takes_iff range free s c u f).0 y.1)
          (λ v d t. y.2 v ((level_iff range free k v).1 (smallest_within k (was_entered (R v d.0) d.1).0 (omega (arith, d.2)))) ((takes_iff range free s c v f).1 t))

      at : (b : Bool) → flag_b (m rows) c (down s) ≡ b → NeighbourIs rows round s c (elim b [ false ↦ absent | true ↦ elim (least (takes_b rows (m rows) s c) (lv rows k)) [ none ↦ absent | some u ↦ u ] ])
      at false q = no_child (λ f. false≢true (sym q ∙ (flag_iff rows c (down s)).1 f))
      at true q = on ((flag_iff rows c (down s)).0 q) (least (takes_b rows (m rows) s c) (lv rows k)) refl
