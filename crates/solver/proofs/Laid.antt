-- The memory that an outcome leaves: its first places as the outcome has them, and the rest as they were lent.
use Prim.Native.Nat.{ℕ, zero, suc, ◌<◌, ◌≤◌}
use native.Mathlib.Omega.{arith}
use native.Mathlib.Decide.{ℕ_discrete}
use mathlib.Core.List.{List}
use mathlib.Core.Path.{◌≡◌, sym, ◌∙◌}
use lib.ListN.{get_or, length, set}
use lib.Seq.{get_or-set_same, get_or-set_other}
use Rattle.meaning.proofs.Sides.{sides}
use Rattle.meaning.specs.Table.{first, next}
use Rattle.meaning.specs.Outcome.{Slices, SameBelow, SamePlaces}
use Rattle.rounds.specs.Kept.{lent, Kept, KeptAll}
use Rattle.rounds.proofs.Places.{kept_same, kept_then, kept_store, all_kept}
use Rattle.solver.specs.Solved.{Room}

-- x laid over the first i of c places
record Laid (c i : ℕ) (x old : List ℕ) : Type 0 where
  slice : List ℕ
  below : SameBelow i x slice
  kept : Kept c old slice

lay : (c i : ℕ) (x old : List ℕ) → i ≤ c → c ≤ length old → Laid c i x old
lay c zero x old l m = record { slice = old; below = λ j h. absurd (omega arith); kept = kept_same }
lay c (suc i) x old l m = on (lay c i x old (omega arith) m)
  where
    on : Laid c i x old → Laid c (suc i) x old
    on y = record {
      slice = set y.slice i (get_or x i 0);
      below = λ j h. at j h (ℕ_discrete j i);
      kept = kept_then y.kept (kept_store y.slice i (get_or x i 0) l);
    }
      where
        at : (j : ℕ) → j < suc i → Dec (j ≡ i) → get_or x j 0 ≡ get_or (set y.slice i (get_or x i 0)) j 0
        at j h (yes e) = rw e (sym (get_or-set_same y.slice i (get_or x i 0) 0 (omega (arith, y.kept.same_length))))
        at j h (no e) = y.below j (omega arith) ∙ sym (get_or-set_other y.slice i j (get_or x i 0) 0 e)

-- all four
pub record LaidAll (c : ℕ) (x old : Slices) : Type 0 where
  pub slices : Slices
  pub same : SamePlaces c x slices
  pub kept : KeptAll c old slices

pub lay_all : (c : ℕ) (x old : Slices) → Room c old → LaidAll c x old
lay_all c x old m =
    let r = lay c c x.round old.round (omega arith) m.in_round in
    let f = lay c c x.firsts old.firsts (omega arith) (m.in_recorded first) in
    let n = lay c c x.nexts old.nexts (omega arith) (m.in_recorded next) in
    let u = lay c c x.used old.used (omega arith) m.in_used in
    record {
      slices = lent r.slice f.slice n.slice u.slice;
      same = record { same_round = r.below; same_neighbours = sides _ f.below n.below; same_used = u.below };
      kept = all_kept r.kept f.kept n.kept u.kept;
    }
