-- A sheet has exactly one list of verdicts for a table.
use Prim.Native.Nat.{ℕ, ◌<◌}
use native.Mathlib.Omega.{arith}
use mathlib.Core.List.{List}
use mathlib.Core.Path.{◌≡◌, refl, ap, sym, subst, ◌∙◌}
use lib.ListN.{get_or, length}
use lib.Seq.{ext_get_or}
use Rattle.meaning.specs.Loop.{LoopFree}
use Rattle.meaning.specs.Table.{Table, InRange}
use Rattle.meaning.specs.Tree.{Tree, Place}
use Rattle.meaning.specs.Truth.{TrueAt}
use Rattle.meaning.proofs.Outcome.Filled.{choose}
use Rattle.meaning.proofs.Theorems.{one_solution}
use Rattle.sheets.specs.Tree.{At, SheetTree}
use Rattle.sheets.specs.declared.Line.{Line}
use Rattle.judge.specs.Output.{verdict_lines}
use Rattle.judge.specs.Verdicts.{DigitIs, is_true, is_false, Verdicts}

-- a digit is one
one_digit : {rows : Table} {t : Tree} {p : Place} {a b : ℕ} → DigitIs rows t p a → DigitIs rows t p b → a ≡ b
one_digit (is_true x) (is_true y) = refl
one_digit (is_true x) (is_false y) = absurd (y x)
one_digit (is_false x) (is_true y) = absurd (x y)
one_digit (is_false x) (is_false y) = refl

module _ (rows : Table) (lines : List Line) (t : Tree) (s : SheetTree lines t) where
  -- the digits of some verdicts are those of the sheet's tree
  of_tree : {bytes : List ℕ} (v : Verdicts rows lines bytes) (i : ℕ) (p : Place) → At lines i p → DigitIs rows t p (get_or v.digits i 0)
  of_tree v i p a = subst (λ (u : Tree). DigitIs rows u p (get_or v.digits i 0)) (s.only v.tree v.of_sheet.is_tree) (v.digit i p a)

  pub one_verdict : {bytes others : List ℕ} → Verdicts rows lines bytes → Verdicts rows lines others → bytes ≡ others
  one_verdict v w = v.bytes_are ∙ ap (verdict_lines 0) same ∙ sym w.bytes_are
    where
      same : v.digits ≡ w.digits
      same = ext_get_or 0 v.digits w.digits (v.many ∙ sym w.many) at
        where
          at : (i : ℕ) → i < length v.digits → get_or v.digits i 0 ≡ get_or w.digits i 0
          at i h =
              let l : i < length lines = omega (arith, v.many) in
              let p = s.place_of i l in
              one_digit (of_tree v i p.0 p.1) (of_tree w i p.0 p.1)

  -- digits that are right at every line are verdicts
  pub verdicts_of : (ds : List ℕ) → length ds ≡ length lines → ((i : ℕ) (p : Place) → At lines i p → DigitIs rows t p (get_or ds i 0)) → Verdicts rows lines (verdict_lines 0 ds)
  verdicts_of ds e f = record { tree = t; of_sheet = s; digits = ds; many = e; digit = f; bytes_are = refl }

  abbrev RightAt : ℕ → ℕ → Type 0
  RightAt i b = (p : Place) → At lines i p → DigitIs rows t p b

  -- a table in range and without a loop has verdicts on every sheet
  pub some_verdicts : 0 < length rows → InRange rows → LoopFree rows → (bytes : List ℕ) × Verdicts rows lines bytes
  some_verdicts h range free = let l = choose RightAt (length lines) at in (verdict_lines 0 l.0, verdicts_of l.0 l.2 (λ i p a. l.1 i (s.inside a).0 p a))
    where
      digit : (p : Place) → Dec (TrueAt rows t 0 p) → (b : ℕ) × DigitIs rows t p b
      digit p (yes x) = (1, is_true x)
      digit p (no x) = (0, is_false x)

      at : (i : ℕ) → i < length lines → (b : ℕ) × RightAt i b
      at i l =
          let p = s.place_of i l in
          let d = digit p.0 ((one_solution range free).decided t 0 p.0 h (s.inside p.1).1) in
          (d.0, λ q a. subst (λ (z : Place). DigitIs rows t z d.0) (s.one_place p.1 a) d.1)
