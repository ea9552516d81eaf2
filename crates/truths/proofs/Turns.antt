-- A turn of each loop: the next line, the next row of a line, and the next row where it rests on a cell.
use Rattle.std.proofs.Common.{ℕ, Bool, true, false, ◌+◌, ◌<◌, ◌≤◌, List, Some, None, ◌⊎◌, inl, inr, ⊎_elim, ◌≡◌, length, arith}
use Rattle.std.proofs.Math.Nat.{eq-or-lt_of_le}
use Rattle.meaning.specs.Table.{Dir, converse, Table, row_at, go_row}
use Rattle.truths.specs.Spots.{near_at, Laid}
use Rattle.truths.specs.Search.{Rests, by_name, by_look, RestsAt, Handled, OnLine, Only, Resting}
use Rattle.truths.specs.declared.cell.Cell.{Cell}
use Rattle.truths.specs.declared.found.Found.{Found}
use Rattle.truths.specs.declared.spots.Spot.{Spot}
use Rattle.truths.proofs.Handled.{handled_then, handled_as}

at_or_below : (i k : ℕ) → i < k + 1 → (i ≡ k) ⊎ (i < k)
at_or_below i k h = eq-or-lt_of_le (let g : i ≤ k = omega arith in g)

-- the lines before n, and the rows of a line before the n-th
abbrev pub LinesBelow : ℕ → ℕ → ℕ → Type 0
LinesBelow n p i = p < n

abbrev pub RowsBelow : ℕ → ℕ → ℕ → ℕ → Type 0
RowsBelow line n p i = (p ≡ line) × (i < n)

-- the rows before the n-th, where they rest on c
abbrev pub RestingBelow : Table → List Spot → Cell → ℕ → ℕ → ℕ → Type 0
RestingBelow rows spots c n p i = (i < n) × Resting rows spots c p i

module _ {rows : Table} {spots : List Spot} {s t : Found} where
  pub line_more : {u : Found} {n : ℕ} → Handled rows spots (LinesBelow n) s t → Handled rows spots (OnLine n) t u → Handled rows spots (LinesBelow (n + 1)) s u
  line_more {n = n} a b = handled_then a b (λ p i h. ⊎_elim (λ e. inr e) (λ l. inl l) (at_or_below p n h))

  module _ {c : Cell} where
    pub rested_more : {u : Found} {n q : ℕ} → RestsAt spots (row_at rows n) c (Some q) → Handled rows spots (RestingBelow rows spots c n) s t → Handled rows spots (Only (record { line = q; row = n })) t u
        → Handled rows spots (RestingBelow rows spots c (n + 1)) s u
    rested_more {n = n} {q = q} at a b = handled_then a b (λ p i h. ⊎_elim (λ e. inr (only p i e h.1, e)) (λ l. inl (l, h.1)) (at_or_below i n h.0))
      where
        only : (p i : ℕ) → i ≡ n → Resting rows spots c p i → p ≡ q
        only p i e r = cc (at.only p (rw e at r))

    pub rested_not : {n : ℕ} → RestsAt spots (row_at rows n) c None → Handled rows spots (RestingBelow rows spots c n) s t → Handled rows spots (RestingBelow rows spots c (n + 1)) s t
    rested_not {n = n} at a = handled_as a (λ p i l m h. ⊎_elim (λ e. absurd (not p i e h.1)) (λ g. (g, h.1)) (at_or_below i n h.0))
      where
        not : (p i : ℕ) → i ≡ n → Resting rows spots c p i → ⊥
        not p i e r = cc (at.only p (rw e at r))

    pub rested_all : {n : ℕ} → length rows ≤ n → Handled rows spots (RestingBelow rows spots c n) s t → Handled rows spots (Resting rows spots c) s t
    rested_all h a = handled_as a (λ p i l m r. (omega arith, r))

-- where a `go` row rests on a cell: its direction leads back from there
pub rests_back : (spots : List Spot) → Laid spots → (d : Dir) (c : Cell) → RestsAt spots (go_row d c.row) c (near_at spots (converse d) c.line)
rests_back spots laid d c = record { only = only }
  where
    only : (k : ℕ) → Rests spots (go_row d c.row) k c.line c.row → near_at spots (converse d) c.line ≡ Some k
    only k (by_name e r) = absurd (let z : ◌≡◌ {A = Bool} false true = r in cc)
    only k (by_look {d = e} r n) = let same : d ≡ e = cc in rw same (laid.back e k c.line n)
