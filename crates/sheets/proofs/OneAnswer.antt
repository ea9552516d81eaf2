-- Each text has one answer: 9, 10 or its lines; and what a refusal says is small.
use Prim.Native.Nat.{ℕ, ◌≤◌}
use native.Mathlib.Omega.{arith}
use mathlib.Core.List.{List}
use mathlib.Core.Logic.{◌⊎◌, inl, inr}
use mathlib.Core.Path.{◌≡◌, refl, sym, subst}
use Rattle.std.specs.Prelude.{Option, Some, None, MatchOption}
use Rattle.sheets.specs.Lines.{line_limit}
use Rattle.sheets.specs.Links.{FaultFree, SmallestFaulty, Loads, unread, faulty, fine, OneAnswer}
use Rattle.sheets.specs.Reading.{Reading, lines_read, refused, Reads}
use Rattle.sheets.specs.declared.Line.{Line}
use Rattle.sheets.proofs.Accepted.{few_lines, small as small-reading}
use Rattle.sheets.proofs.Theorems.{one_reading}
use Rattle.sheets.proofs.Faults.{faulty_inside, smallest_or_none, smallest_unique}

module _ (text : List ℕ) where
  same_lines : {l m : List Line} → Reads text (lines_read l) → Reads text (lines_read m) → l ≡ m
  same_lines x y = let e = (one_reading text).unique x y in cc

  not_both : {A : Type 0} {l : List Line} {n p : ℕ} → Reads text (lines_read l) → Reads text (refused n p) → A
  not_both x y = let e = (one_reading text).unique x y in cc

  unique : {a b : Reading} → Loads text a → Loads text b → a ≡ b
  unique (unread x) (unread y) = (one_reading text).unique x y
  unique (unread x) (faulty y s) = not_both y x
  unique (unread x) (fine y f) = not_both y x
  unique (faulty x s) (unread y) = not_both x y
  unique (faulty {i = i} x s) (faulty {i = j} y t) =
      let e : i ≡ j = smallest_unique s (subst (λ (l : List Line). SmallestFaulty l j) (sym (same_lines x y)) t) in
      rw e
  unique (faulty {i = i} x s) (fine y f) = absurd (subst FaultFree (sym (same_lines x y)) f i s.faulty)
  unique (fine x f) (unread y) = not_both x y
  unique (fine x f) (faulty {i = i} y s) = absurd (subst FaultFree (same_lines x y) f i s.faulty)
  unique (fine x f) (fine y g) = (one_reading text).unique x y

  some : (a : Reading) → Reads text a → (b : Reading) × Loads text b
  some (refused n p) x = (refused n p, unread x)
  some (lines_read l) x = at (smallest_or_none l).0 (smallest_or_none l).1
    where
      at : (r : Option ℕ) → MatchOption r (FaultFree l) (SmallestFaulty l) → (b : Reading) × Loads text b
      at (Some i) s = (refused 10 i, faulty x s)
      at None f = (lines_read l, fine x f)

  pub one_answer : OneAnswer text
  one_answer =
      let x = one_reading text in
      let y = some x.reading x.reads in
      record { answer = y.0; loads = y.1; unique = unique }

pub small : {text : List ℕ} {n p : ℕ} → Loads text (refused n p) → ((n ≡ 9) ⊎ (n ≡ 10)) × (p ≤ line_limit)
small (unread x) = let s = small-reading x in (inl s.0, s.1)
small (faulty x s) = (inr refl, omega (arith, few_lines x, faulty_inside s.faulty))
