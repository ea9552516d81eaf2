-- Whether a line is faulty can be told, and so every list of lines has a smallest faulty line or none.
use Prim.Native.Nat.{ℕ, zero, suc, ◌<◌, ◌≤◌}
use native.Mathlib.Decide.{dec_lt}
use native.Mathlib.Nat.{eq-or-lt_of_le}
use native.Mathlib.Omega.{arith}
use mathlib.Core.Bool.{Bool, true, false, cond, not, ◌||◌}
use mathlib.Core.List.{List}
use mathlib.Core.Logic.{◌⊎◌, inl, inr, ⊎_elim}
use mathlib.Core.Path.{◌≡◌, refl}
use borrow.Author.Tests.{leb-true, le-leb, ltb-true, ltb-false, lt-ltb}
use lib.Dec.{eqb, leb, ltb}
use lib.ListN.{length}
use Rattle.meaning.specs.Table.{Side, first, next}
use Rattle.table.specs.Decides.{Decides}
use Rattle.table.proofs.Decides.{never, refuted, negated, same_as, is_number, either, both}
use Rattle.sheets.specs.Lines.{Link, link, line_at}
use Rattle.sheets.specs.Links.{Faulty, not_greater, not_there, never_named, named_by_two, named_twice, FaultFree, SmallestFaulty}
use Rattle.sheets.specs.Counting.{wrong, wrong_in, times_named, misnamed_at, faulty_at}
use Rattle.sheets.specs.declared.Line.{Line}
use Rattle.std.specs.Prelude.{Option, None, Some, MatchOption}
use Rattle.sheets.proofs.Named.{Twice, in_one, in_two, names_inside, some_line, two_fields, named, named_by_both, count_one, count_two, count_both}

abbrev wrong_at : List Line → ℕ → Side → Bool
wrong_at lines i s = wrong i (length lines) (link s (line_at lines i))

pub faulty_inside : {lines : List Line} {i : ℕ} → Faulty lines i → i < length lines
faulty_inside {lines} {i} (not_greater n h) = names_inside lines i n
faulty_inside {lines} {i} (not_there n h) = names_inside lines i n
faulty_inside (never_named p h f) = h
faulty_inside (named_by_two p h a b d) = h
faulty_inside (named_twice p h f) = h

module _ (lines : List Line) (i : ℕ) where
  Wrong : Link → Type 0
  Wrong l = (j : ℕ) × (l ≡ Some j) × ((j ≤ i) ⊎ (length lines ≤ j))

  WrongSide : Side → Type 0
  WrongSide s = Wrong (link s (line_at lines i))

  at_most : (a b : ℕ) → Decides (leb a b) (a ≤ b)
  at_most a b = record { sound = leb-true a b; complete = le-leb a b }

  wrong_told : (l : Link) → Decides (wrong i (length lines) l) (Wrong l)
  unfolding Wrong
  wrong_told None = never (λ w. let e = w.1 in cc)
  wrong_told (Some j) =
      same_as (λ h. (j, refl, h), λ w. let e : w.0 ≡ j = (let f = w.1 in cc) in rw e at w.2)
      (either (leb j i) (leb (length lines) j) (at_most j i) (at_most (length lines) j))

  Misnamed : Type 0
  Misnamed = (0 < i) × (times_named i lines ≡ 1 → ⊥)

  misnamed_told : Decides (misnamed_at lines i) Misnamed
  unfolding Misnamed
  misnamed_told =
      both (ltb 0 i) (not (eqb (times_named i lines) 1)) (record { sound = ltb-true 0 i; complete = lt-ltb 0 i })
      (negated (eqb (times_named i lines) 1) (is_number (times_named i lines) 1))

  wrong_side : (s : Side) → WrongSide s → Faulty lines i
  unfolding WrongSide Wrong
  wrong_side s (j, e, inl h) = not_greater {s = s} (record { names = e }) h
  wrong_side s (j, e, inr h) = not_there {s = s} (record { names = e }) h

  misnamed_fault : i < length lines → Misnamed → Faulty lines i
  unfolding Misnamed
  misnamed_fault inside (p, h) = at (times_named i lines) refl
    where
      two : Twice lines i → Faulty lines i
      two (in_one k g) = named_twice p inside {k = k} (named_by_both i k g)
      two (in_two k m d f g) = named_by_two p inside (named i k f).1 (named i m g).1 d

      at : (n : ℕ) → times_named i lines ≡ n → Faulty lines i
      at zero e = never_named p inside (λ k s n. omega (arith, count_one i n))
      at (suc zero) e = absurd (h e)
      at (suc (suc n)) e = two (two_fields i lines (omega arith))

  Fault : Type 0
  Fault = (WrongSide first ⊎ WrongSide next) ⊎ Misnamed

  fault : i < length lines → Fault → Faulty lines i
  unfolding Fault
  fault inside (inl (inl w)) = wrong_side first w
  fault inside (inl (inr w)) = wrong_side next w
  fault inside (inr m) = misnamed_fault inside m

  some_fault : (s : Side) → WrongSide s → Fault
  unfolding Fault
  some_fault first w = inl (inl w)
  some_fault next w = inl (inr w)

  fault_of : Faulty lines i → Fault
  unfolding Fault WrongSide Wrong Misnamed
  fault_of (not_greater {s = s} {j = j} n h) = some_fault s (j, n.names, inl h)
  fault_of (not_there {s = s} {j = j} n h) = some_fault s (j, n.names, inr h)
  fault_of (never_named p h f) = inr (p, λ e. let x = some_line i lines (omega arith) in let y = named i x.0 x.1 in f x.0 y.0 y.1)
  fault_of (named_by_two p h a b d) = inr (p, λ e. omega (arith, count_two i a b d))
  fault_of (named_twice p h {k = k} f) = inr (p, λ e. omega (arith, count_both i k f))

  told_inside : i < length lines → Decides (wrong_in i (length lines) (line_at lines i) || misnamed_at lines i) (Faulty lines i)
  unfolding Fault WrongSide
  told_inside inside =
      same_as (fault inside, fault_of)
      (either (wrong_in i (length lines) (line_at lines i)) (misnamed_at lines i)
      (either (wrong_at lines i first) (wrong_at lines i next) (wrong_told (link first (line_at lines i))) (wrong_told (link next (line_at lines i))))
      misnamed_told)

  pub told : Decides (faulty_at lines i) (Faulty lines i)
  told = at (ltb i (length lines)) refl
    where
      at : (b : Bool) → ltb i (length lines) ≡ b → Decides (cond b (wrong_in i (length lines) (line_at lines i) || misnamed_at lines i) false) (Faulty lines i)
      at true e = told_inside (ltb-true i (length lines) e)
      at false e = never (λ f. omega (arith, faulty_inside f, ltb-false i (length lines) e))

module _ {lines : List Line} where
  pub smallest_unique : {i j : ℕ} → SmallestFaulty lines i → SmallestFaulty lines j → i ≡ j
  smallest_unique {i} {j} a b = at (dec_lt i j) (dec_lt j i)
    where
      at : Dec (i < j) → Dec (j < i) → i ≡ j
      at (yes h) d = absurd (b.none_before i h a.faulty)
      at (no h) (yes g) = absurd (a.none_before j g b.faulty)
      at (no h) (no g) = omega arith

pub told_by : {lines : List Line} {i : ℕ} {b : Bool} → b ≡ faulty_at lines i → Decides b (Faulty lines i)
told_by {lines} {i} e = rw e (told lines i)

-- what a search finds that has passed the first n lines
module _ (lines : List Line) where
  abbrev Passed : ℕ → Type 0
  Passed n = (k : ℕ) → 0 ≤ k → k < n → faulty_at lines k ≡ false

  abbrev First : ℕ → Option ℕ → Type 0
  First n r = MatchOption r (Passed n) (λ i. (0 ≤ i) × (i < n) × (faulty_at lines i ≡ true) × Passed i)

  pub first_found : (r : Option ℕ) → First (length lines) r → MatchOption r (FaultFree lines) (SmallestFaulty lines)
  first_found None f = λ k g. refuted (told lines k) (f k (omega arith) (faulty_inside g)) g
  first_found (Some i) (l, h, e, f) = record { faulty = (told lines i).sound e; none_before = λ k h. refuted (told lines k) (f k (omega arith) h) }

  first_of : (n : ℕ) → (r : Option ℕ) × First n r
  first_of zero = (None, λ k l h. absurd (omega arith))
  first_of (suc n) = at (first_of n).0 (first_of n).1 (faulty_at lines n) refl
    where
      at : (r : Option ℕ) → First n r → (b : Bool) → faulty_at lines n ≡ b → (r : Option ℕ) × First (suc n) r
      at (Some i) (l, h, e, f) b q = (Some i, (l, omega arith, e, f))
      at None f true q = (Some n, (omega arith, omega arith, q, f))
      at None f false q = (None, λ k l h. ⊎_elim (λ (e : k ≡ n). rw e q) (λ (g : k < n). f k l g) (eq-or-lt_of_le (omega arith)))

  pub smallest_or_none : (r : Option ℕ) × MatchOption r (FaultFree lines) (SmallestFaulty lines)
  smallest_or_none = let x = first_of (length lines) in (x.0, first_found x.0 x.1)
