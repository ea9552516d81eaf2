-- The references of `any` and `all` rows lead on fewer times than there are rows. It is what bounds a recursion that follows them.
use Prim.Native.Nat.{ℕ, ◌<◌}
use mathlib.Core.Path.{subst}
use lib.ListN.{length}
use Rattle.meaning.specs.Loop.{LoopFree, starts, Joined, by_flat, by_join}
use Rattle.meaning.specs.Table.{Table, Refers, InRange}
use Rattle.meaning.proofs.Loops.Joined.{joined_stretch}
use Rattle.meaning.proofs.Solution.Finite.{numbers, in_numbers, numbers_length, Reach, here, step, Shallow, finite_depth}

-- `flat rows j i`: row i refers to row j
abbrev pub flat : Table → ℕ → ℕ → Type 0
flat rows j i = Refers rows i j

reach_joined : {rows : Table} {i j k : ℕ} → Refers rows i j → Reach (flat rows) j k → Joined rows i k
reach_joined r here = by_flat r
reach_joined r (step s h) = by_join (by_flat r) (reach_joined s h)

pub shallow : {rows : Table} → InRange rows → LoopFree rows → (i : ℕ) → i < length rows → Shallow (flat rows) (length rows) i
shallow {rows} range free i l =
    subst (λ (n : ℕ). Shallow (flat rows) n i) (numbers_length (length rows))
    (finite_depth (flat rows) (λ z. z < length rows) (λ x y r v. range.referred r) (λ x y v r h. free x (starts ((joined_stretch rows x x).0 (reach_joined r h))))
    (numbers (length rows)) (λ z h. in_numbers (length rows) z h) i l)
