-- Every cell taken from the queue is handed on, so at the queue's end nothing more is true by what is found; and then all that is true is found.
use Rattle.std.proofs.Common.{ℕ, ◌+◌, ◌<◌, ◌≤◌, Bool, List, ◌⊎◌, inl, inr, ⊎_elim, ◌≡◌, refl, sym, ◌∙◌, length, get_or, arith}
use Rattle.std.proofs.Math.Logic.{∥∥₁_elim, ∥∥₁_map}
use Rattle.std.proofs.Props.{props}
use Rattle.std.proofs.Math.Decide.{ℕ_discrete}
use Rattle.meaning.specs.Table.{Table, Row, row_at, row_limit, InRange, any_left, any_right, all_left, all_right}
use Rattle.truths.specs.Spots.{spot_at, Laid, HoldsAt, at_yes, at_is, at_isnot, at_left, at_right, at_both, at_go, at_stop}
use Rattle.truths.specs.Found.{FoundAt, Taken, no_cell}
use Rattle.truths.specs.Search.{Says, AllTrue, Handled, AnyCell, Resting, Settled}
use Rattle.truths.specs.declared.cell.Cell.{Cell}
use Rattle.truths.specs.declared.found.Found.{Found}
use Rattle.truths.specs.declared.spots.Spot.{Spot}
use Rattle.truths.proofs.Says.{says_more, says_new}

found_prop : (truth : List (List Bool)) (p i : ℕ) → IsProp (FoundAt truth p i)
found_prop truth p i = Prim.hlevel props

-- what is true by T is found
pub record ClosedBy (rows : Table) (spots : List Spot) (T : ℕ → ℕ → Type 0) (truth : List (List Bool)) : Type 0 where
  pub closed : (p i : ℕ) → p < length spots → i < length rows → Says (spot_at spots p) T (row_at rows i) p → FoundAt truth p i

module _ {rows : Table} {spots : List Spot} where
  -- nothing is taken at first
  pub all_seeded : {s t : Found} → Handled rows spots AnyCell s t → ClosedBy rows spots (Taken t.queue.items 0) t.truth
  all_seeded {s} {t} h = record {
    closed = λ p i l m x. h.settled p i tt (l, m, says_more (Taken t.queue.items 0) (FoundAt s.truth) none (spot_at spots p) (row_at rows i) p x);
  }
    where
      none : (p i : ℕ) → Taken t.queue.items 0 p i → FoundAt s.truth p i
      none p i y = ∥∥₁_elim y (found_prop s.truth p i) (λ k. absurd (omega (arith, k.1)))

  module _ (s t : Found) (head : ℕ) (left : head < s.queue.len) (c : Cell) (this : get_or s.queue.items head no_cell ≡ c) (handed : Handled rows spots (Resting rows spots c) s t) where
    taken_found : (p i : ℕ) → Taken t.queue.items (head + 1) p i → FoundAt s.truth p i
    taken_found p i x = ∥∥₁_elim x (found_prop s.truth p i) (λ k.
        let l : k.0 < s.queue.len = omega (arith, k.1) in
        let e = sym (handed.grown.kept k.0 l) ∙ k.2 in
        rw e at (s.queued.entered k.0 l))

    taken_before : (p i : ℕ) → (p ≡ c.line → i ≡ c.row → ⊥) → Taken t.queue.items (head + 1) p i → Taken s.queue.items head p i
    taken_before p i other x = ∥∥₁_map x (λ k.
        let l : k.0 < s.queue.len = omega (arith, k.1) in
        let e : get_or s.queue.items k.0 no_cell ≡ record { line = p; row = i } = sym (handed.grown.kept k.0 l) ∙ k.2 in
        (k.0, grind (arith, this, other), e))

    taken_new : (p i : ℕ) → Taken t.queue.items (head + 1) p i → Taken s.queue.items head p i ⊎ ((p ≡ c.line) × (i ≡ c.row))
    taken_new p i x = at (ℕ_discrete p c.line) (ℕ_discrete i c.row)
      where
        at : Dec (p ≡ c.line) → Dec (i ≡ c.row) → Taken s.queue.items head p i ⊎ ((p ≡ c.line) × (i ≡ c.row))
        at (yes a) (yes b) = inr (a, b)
        at (yes a) (no b) = inl (taken_before p i (λ e f. b f) x)
        at (no a) b = inl (taken_before p i (λ e f. a e) x)

    pub handed_on : ClosedBy rows spots (Taken s.queue.items head) s.truth → ClosedBy rows spots (Taken t.queue.items (head + 1)) t.truth
    handed_on done = record {
      closed = λ p i l m x. ⊎_elim
          (λ y. handed.grown.still p i (done.closed p i l m y))
          (λ y. handed.settled p i y (l, m, says_more (Taken t.queue.items (head + 1)) (FoundAt s.truth) taken_found (spot_at spots p) (row_at rows i) p x))
          (says_new spots (Taken s.queue.items head) (Taken t.queue.items (head + 1)) c.line c.row taken_new (row_at rows i) p x);
    }

  module _ (s : Found) (head : ℕ) (few : length rows ≤ row_limit) (laid : Laid spots) (range : InRange rows) (right : AllTrue rows spots s.truth) (done : s.queue.len ≤ head) (c : ClosedBy rows spots (Taken s.queue.items head) s.truth) where
    found_taken : (p i : ℕ) → FoundAt s.truth p i → Taken s.queue.items head p i
    found_taken p i f = ∥∥₁_map (s.queued.queued p i f) (λ k. (k.0, omega (arith, k.1), k.2))

    says_found : (p i : ℕ) → p < length spots → i < length rows → Says (spot_at spots p) (FoundAt s.truth) (row_at rows i) p → FoundAt s.truth p i
    says_found p i l m x = c.closed p i l m (says_more (FoundAt s.truth) (Taken s.queue.items head) found_taken (spot_at spots p) (row_at rows i) p x)

    holds_says : {r : Row} {p : ℕ} → HoldsAt rows spots r p → (i : ℕ) → row_at rows i ≡ r → p < length spots → Says (spot_at spots p) (FoundAt s.truth) r p
    holds_says at_yes i e l = tt
    holds_says (at_is h) i e l = h
    holds_says (at_isnot h) i e l = h
    holds_says {p = p} (at_left {i = a} h) i e l = inl (says_found p a l (range.referred (any_left e)) (holds_says h a refl l))
    holds_says {p = p} (at_right {j = b} h) i e l = inr (says_found p b l (range.referred (any_right e)) (holds_says h b refl l))
    holds_says {p = p} (at_both {i = a} {j = b} h g) i e l = (says_found p a l (range.referred (all_left e)) (holds_says h a refl l), says_found p b l (range.referred (all_right e)) (holds_says g b refl l))
    holds_says {p = p} (at_go {q = q} {i = a} {d = d} n h) i e l =
        let m = laid.inside d p q n in
        rw n (says_found q a m (range.looked i e) (holds_says h a refl m))
    holds_says (at_stop h) i e l = h

    pub all_settled : Settled rows spots s.truth
    all_settled = record {
      decides = λ p i l m. record {
        sound = λ e. right p i e;
        complete = λ h. says_found p i l m (holds_says h i refl l);
      };
    }
