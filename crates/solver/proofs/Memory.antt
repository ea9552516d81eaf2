-- Slices that agree in their first places, and are as they were beyond, are the same to their ends.
use Prim.Native.Nat.{ℕ, ◌<◌}
use native.Mathlib.Omega.{arith}
use native.Mathlib.Decide.{dec_lt}
use mathlib.Core.List.{List}
use mathlib.Core.Path.{◌≡◌, sym, ◌∙◌}
use lib.ListN.{get_or}
use lib.Seq.{ext_get_or}
use Rattle.meaning.specs.Table.{first, next}
use Rattle.meaning.specs.Outcome.{Slices, SameBelow, SamePlaces}
use Rattle.rounds.specs.Kept.{lent, Kept, KeptAll}

same_slice : {n : ℕ} {old a b : List ℕ} → SameBelow n a b → Kept n old a → Kept n old b → a ≡ b
same_slice {n} {old} {a} {b} s p q = ext_get_or 0 a b (p.same_length ∙ sym q.same_length) (λ i l. at i (dec_lt i n))
  where
    at : (i : ℕ) → Dec (i < n) → get_or a i 0 ≡ get_or b i 0
    at i (yes l) = s i l
    at i (no l) = p.beyond i (omega arith) ∙ sym (q.beyond i (omega arith))

pub same_slices : {n : ℕ} {old x y : Slices} → SamePlaces n x y → KeptAll n old x → KeptAll n old y → x ≡ y
same_slices s p q =
    let r = same_slice s.same_round p.kept_round q.kept_round in
    let f = same_slice (s.same_neighbours first) p.kept_first q.kept_first in
    let n = same_slice (s.same_neighbours next) p.kept_next q.kept_next in
    let u = same_slice s.same_used p.kept_used q.kept_used in
    λ i. lent (r i) (f i) (n i) (u i)
