-- Refusal 5: the test of a row finds a row that it names and that isn't there, and the first row found is the smallest.
use Prim.Native.Nat.{ℕ, ◌<◌, ◌≤◌}
use mathlib.Core.Bool.{Bool, true, false, ◌||◌}
use mathlib.Core.Logic.{inl, inr, ⊎_elim}
use mathlib.Core.Path.{◌≡◌, refl, sym, ◌∙◌}
use borrow.Author.Tests.{leb-true, leb-false}
use lib.Dec.{leb}
use lib.ListN.{length}
use Rattle.std.specs.Prelude.{Some, None}
use Rattle.std.proofs.lemmas.List.Quantifiers.{position-Some}
use Rattle.meaning.specs.Table.{Table, Row, row_at, yes_row, no_row, is_row, isnot_row, any_row, all_row, go_row, stop_row, any_left, any_right, all_left, all_right, InRange}
use Rattle.meaning.proofs.Tests.{Is, false≢true, or_iff}
use Rattle.counts.proofs.Looks.{go_look, look_inside}
use Rattle.counts.proofs.Rank.{refers_there}
use Rattle.loops.specs.Judged.{Names, referring, looking, SmallestMissing}
use Rattle.loops.specs.Missing.{misses, first_missing}
use Rattle.loops.proofs.Search.{position_none}

module _ (rows : Table) where
  -- a name of row i beyond the last row
  Beyond : ℕ → Type 0
  Beyond i = (j : ℕ) × Names rows i j × (length rows ≤ j)

  either_beyond_lem : (i a b : ℕ) → Names rows i a → Names rows i b → Is (leb (length rows) a || leb (length rows) b) → Beyond i
  unfolding Beyond
  either_beyond_lem i a b p q h =
      ⊎_elim
      (λ (e : Is (leb (length rows) a)). (a, p, leb-true (length rows) a e))
      (λ (e : Is (leb (length rows) b)). (b, q, leb-true (length rows) b e))
      ((or_iff (leb (length rows) a) (leb (length rows) b)).0 h)

  misses_to : (i : ℕ) (r : Row) → row_at rows i ≡ r → Is (misses (length rows) r) → Beyond i
  unfolding Beyond
  misses_to i yes_row e h = false≢true h
  misses_to i no_row e h = false≢true h
  misses_to i (is_row n) e h = false≢true h
  misses_to i (isnot_row n) e h = false≢true h
  misses_to i (any_row a b) e h = either_beyond_lem i a b (referring (any_left e)) (referring (any_right e)) h
  misses_to i (all_row a b) e h = either_beyond_lem i a b (referring (all_left e)) (referring (all_right e)) h
  misses_to i (go_row d a) e h = (a, looking e, leb-true (length rows) a h)
  misses_to i (stop_row d) e h = false≢true h

  abbrev misses_at : ℕ → Bool
  misses_at i = misses (length rows) (row_at rows i)

  misses_from : (i j : ℕ) → Names rows i j → Is (leb (length rows) j) → Is (misses_at i)
  misses_from i j (referring (any_left {k = k} e)) h = rw e ((or_iff (leb (length rows) j) (leb (length rows) k)).1 (inl h))
  misses_from i j (referring (any_right {j = k} e)) h = rw e ((or_iff (leb (length rows) k) (leb (length rows) j)).1 (inr h))
  misses_from i j (referring (all_left {k = k} e)) h = rw e ((or_iff (leb (length rows) j) (leb (length rows) k)).1 (inl h))
  misses_from i j (referring (all_right {j = k} e)) h = rw e ((or_iff (leb (length rows) k) (leb (length rows) j)).1 (inr h))
  misses_from i j (looking e) h = rw e h

  not_missed : (i j : ℕ) → misses_at i ≡ false → Names rows i j → j < length rows
  not_missed i j e n = at (leb (length rows) j) refl
    where
      at : (b : Bool) → leb (length rows) j ≡ b → j < length rows
      at true q = false≢true (sym e ∙ misses_from i j n q)
      at false q = leb-false (length rows) j q

  pub missing_found : (i : ℕ) → first_missing rows ≡ Some i → SmallestMissing rows i
  unfolding Beyond
  missing_found i e =
      let x = position-Some (misses (length rows)) rows i no_row e in
      record { missing = misses_to i (row_at rows i) refl x.1; none_before = λ k l j n. not_missed k j (x.2 k l) n }

  pub none_missing : first_missing rows ≡ None → InRange rows
  none_missing e = record {
    referred = λ {i} {j} r. not_missed i j (position_none (misses (length rows)) rows e i no_row (refers_there i r)) (referring r);
    looked = λ i {j} f. not_missed i j (position_none (misses (length rows)) rows e i no_row (look_inside rows i (go_look rows i f))) (looking f);
  }
