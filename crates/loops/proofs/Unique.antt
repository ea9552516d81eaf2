-- A table is judged in one way only.
use Prim.Native.Nat.{ℕ, ◌≤◌}
use native.Mathlib.Omega.{arith}
use mathlib.Core.Path.{◌≡◌, refl, ap}
use lib.ListN.{length}
use Rattle.meaning.specs.Loop.{LoopFree, SmallestOnLoop, OnLoop}
use Rattle.meaning.specs.Table.{Table, InRange}
use Rattle.loops.specs.Judged.{Checked, Missing, Looping, Names, referring, looking, SmallestMissing, Judged, fine, missing, looping, large}
use Rattle.loops.proofs.Search.{least_same}

module _ {rows : Table} where
  unlike_missing : {A : Type 0} {i : ℕ} → InRange rows → SmallestMissing rows i → A
  unlike_missing {i = i} range s = at s.missing.1 s.missing.2
    where
      at : {A : Type 0} {j : ℕ} → Names rows i j → length rows ≤ j → A
      at (referring r) h = absurd (omega (arith, range.referred r))
      at (looking e) h = absurd (omega (arith, range.looked i e))

  unlike_loop : {A : Type 0} {i : ℕ} → LoopFree rows → SmallestOnLoop rows i → A
  unlike_loop {i = i} free s = absurd (free i s.on_loop)

  same_missing : (i k : ℕ) → SmallestMissing rows i → SmallestMissing rows k → i ≡ k
  same_missing i k a b =
      least_same (λ z. (j : ℕ) × Names rows z j × (length rows ≤ j)) i k
      a.missing
      (λ j h m. absurd (omega (arith, a.none_before j h m.0 m.1, m.2)))
      b.missing
      (λ j h m. absurd (omega (arith, b.none_before j h m.0 m.1, m.2)))

  same_loop : (i k : ℕ) → SmallestOnLoop rows i → SmallestOnLoop rows k → i ≡ k
  same_loop i k a b = least_same (OnLoop rows) i k a.on_loop a.none_before b.on_loop b.none_before

  pub judged_unique : {a b : Checked} → Judged rows a → Judged rows b → a ≡ b
  judged_unique (fine r f s) (fine q g t) = refl
  judged_unique (fine r f s) (missing m) = unlike_missing r m
  judged_unique (fine r f s) (looping q l) = unlike_loop f l
  judged_unique (fine r f s) (large q g t) = absurd (omega arith)
  judged_unique (missing m) (fine r f s) = unlike_missing r m
  judged_unique (missing {i} m) (missing {i = k} n) = ap Missing (same_missing i k m n)
  judged_unique (missing m) (looping r l) = unlike_missing r m
  judged_unique (missing m) (large r f s) = unlike_missing r m
  judged_unique (looping r l) (fine q f s) = unlike_loop f l
  judged_unique (looping r l) (missing m) = unlike_missing r m
  judged_unique (looping {i} r l) (looping {i = k} q m) = ap Looping (same_loop i k l m)
  judged_unique (looping r l) (large q f s) = unlike_loop f l
  judged_unique (large r f s) (fine q g t) = absurd (omega arith)
  judged_unique (large r f s) (missing m) = unlike_missing r m
  judged_unique (large r f s) (looping q l) = unlike_loop f l
  judged_unique (large r f s) (large q g t) = refl
