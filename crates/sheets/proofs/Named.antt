-- What the count says: a line is named never, by one field, or by two fields of one line or of two.
use Prim.Native.Nat.{ℕ, zero, suc, ◌+◌, ◌<◌, ◌≤◌}
use native.Mathlib.Decide.{dec_lt}
use native.Mathlib.Omega.{arith}
use mathlib.Core.Bool.{Bool, true, false, cond}
use mathlib.Core.List.{List, [], ◌∷◌}
use mathlib.Core.Path.{◌≡◌, refl, ap}
use borrow.Author.Tests.{eqb-true, eq-eqb}
use lib.Dec.{eqb}
use lib.ListN.{length}
use Rattle.meaning.specs.Table.{Side, first, next}
use Rattle.sheets.specs.Lines.{Link, link, line_at}
use Rattle.sheets.specs.Links.{Names}
use Rattle.sheets.specs.Counting.{names_by, names_in, times_named}
use Rattle.sheets.specs.declared.Line.{Line}
use Rattle.std.specs.Prelude.{None, Some}

-- two fields name line j: both of one line, or one of each of two
pub data Twice (lines : List Line) (j : ℕ) : Type 0 where
  in_one : (k : ℕ) → 2 ≤ names_in j (line_at lines k) → Twice lines j
  in_two : (k m : ℕ) → (k ≡ m → ⊥) → 1 ≤ names_in j (line_at lines k) → 1 ≤ names_in j (line_at lines m) → Twice lines j

later : {l : Line} {lines : List Line} {j : ℕ} → Twice lines j → Twice (l ∷ lines) j
later (in_one k h) = in_one (suc k) h
later (in_two k m d g h) = in_two (suc k) (suc m) (λ e. d (omega arith)) g h

-- a line that names another is there
pub names_inside : (lines : List Line) (i : ℕ) {s : Side} {j : ℕ} → Names lines i s j → i < length lines
names_inside [] i {s = first} n = let e = n.names in cc
names_inside [] i {s = next} n = let e = n.names in cc
names_inside (l ∷ lines) zero n = omega arith
names_inside (l ∷ lines) (suc i) {s} {j} n =
    let m : Names lines i s j = record { names = n.names } in
    omega (arith, names_inside lines i m)

module _ (j : ℕ) where
  -- a field
  field_one : (l : Link) → l ≡ Some j → names_by j l ≡ 1
  field_one l e = rw (e, eq-eqb j j refl)

  field_to : (l : Link) → 1 ≤ names_by j l → l ≡ Some j
  field_to None h = absurd (omega arith)
  field_to (Some k) h = at (eqb k j) refl h
    where
      at : (b : Bool) → eqb k j ≡ b → 1 ≤ cond b 1 0 → Some k ≡ Some j
      at true e h = ap Some (eqb-true k j e)
      at false e h = absurd (omega arith)

  field_most : (l : Link) → names_by j l ≤ 1
  field_most None = omega arith
  field_most (Some k) = at (eqb k j)
    where
      at : (b : Bool) → cond b 1 0 ≤ 1
      at true = omega arith
      at false = omega arith

  -- a line
  side_counts : (l : Line) (s : Side) → link s l ≡ Some j → 1 ≤ names_in j l
  side_counts l first e = omega (arith, field_one l.first e)
  side_counts l next e = omega (arith, field_one l.next e)

  sides_count : (l : Line) → ((s : Side) → link s l ≡ Some j) → 2 ≤ names_in j l
  sides_count l f = omega (arith, field_one l.first (f first), field_one l.next (f next))

  some_side : (l : Line) → 1 ≤ names_in j l → (s : Side) × (link s l ≡ Some j)
  some_side l h = at (dec_lt 0 (names_by j l.first))
    where
      at : Dec (0 < names_by j l.first) → (s : Side) × (link s l ≡ Some j)
      at (yes g) = (first, field_to l.first g)
      at (no g) = (next, field_to l.next (omega arith))

  both_sides : (l : Line) → 2 ≤ names_in j l → (s : Side) → link s l ≡ Some j
  both_sides l h first = field_to l.first (omega (arith, field_most l.next))
  both_sides l h next = field_to l.next (omega (arith, field_most l.first))

  -- all lines: a part is at most the whole
  one_counts : (lines : List Line) (k : ℕ) → names_in j (line_at lines k) ≤ times_named j lines
  unfolding times_named
  one_counts [] k = omega arith
  one_counts (l ∷ lines) zero = omega arith
  one_counts (l ∷ lines) (suc k) = omega (arith, one_counts lines k)

  two_count : (lines : List Line) (k m : ℕ) → (k ≡ m → ⊥) → names_in j (line_at lines k) + names_in j (line_at lines m) ≤ times_named j lines
  unfolding times_named
  two_count [] k m d = omega arith
  two_count (l ∷ lines) zero zero d = absurd (d refl)
  two_count (l ∷ lines) zero (suc m) d = omega (arith, one_counts lines m)
  two_count (l ∷ lines) (suc k) zero d = omega (arith, one_counts lines k)
  two_count (l ∷ lines) (suc k) (suc m) d = omega (arith, two_count lines k m (λ e. d (ap suc e)))

  -- and the whole is made of parts
  pub some_line : (lines : List Line) → 1 ≤ times_named j lines → (k : ℕ) × (1 ≤ names_in j (line_at lines k))
  unfolding times_named
  some_line [] h = absurd (omega arith)
  some_line (l ∷ lines) h = at (dec_lt 0 (names_in j l)) (some_line lines)
    where
      at : Dec (0 < names_in j l) → (1 ≤ times_named j lines → (k : ℕ) × (1 ≤ names_in j (line_at lines k))) → (k : ℕ) × (1 ≤ names_in j (line_at (l ∷ lines) k))
      at (yes g) ih = (0, g)
      at (no g) ih = let x = ih (omega arith) in (suc x.0, x.1)

  pub two_fields : (lines : List Line) → 2 ≤ times_named j lines → Twice lines j
  unfolding times_named
  two_fields [] h = absurd (omega arith)
  two_fields (l ∷ lines) h = at (dec_lt 0 (names_in j l)) (dec_lt 1 (names_in j l)) (two_fields lines)
    where
      at : Dec (0 < names_in j l) → Dec (1 < names_in j l) → (2 ≤ times_named j lines → Twice lines j) → Twice (l ∷ lines) j
      at d (yes g) ih = in_one 0 g
      at (yes f) (no g) ih = let x = some_line lines (omega arith) in in_two 0 (suc x.0) (λ e. omega arith) f x.1
      at (no f) (no g) ih = later (ih (omega arith))

  -- the same of `Names`
  module _ {lines : List Line} where
    counted : {k : ℕ} {s : Side} → Names lines k s j → 1 ≤ names_in j (line_at lines k)
    counted {k} {s} n = side_counts (line_at lines k) s n.names

    pub named : (k : ℕ) → 1 ≤ names_in j (line_at lines k) → (s : Side) × Names lines k s j
    named k h = let x = some_side (line_at lines k) h in (x.0, record { names = x.1 })

    pub named_by_both : (k : ℕ) → 2 ≤ names_in j (line_at lines k) → (s : Side) → Names lines k s j
    named_by_both k h s = record { names = both_sides (line_at lines k) h s }

    pub count_one : {k : ℕ} {s : Side} → Names lines k s j → 1 ≤ times_named j lines
    count_one {k} n = omega (arith, counted n, one_counts lines k)

    pub count_two : {k m : ℕ} {s r : Side} → Names lines k s j → Names lines m r j → (k ≡ m → ⊥) → 2 ≤ times_named j lines
    count_two {k} {m} a b d = omega (arith, counted a, counted b, two_count lines k m d)

    pub count_both : (k : ℕ) → ((s : Side) → Names lines k s j) → 2 ≤ times_named j lines
    count_both k f = omega (arith, sides_count (line_at lines k) (λ s. (f s).names), one_counts lines k)
