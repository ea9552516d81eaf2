-- First and next unfold to one tree from each code.
use Prim.Native.Nat.{ℕ}
use mathlib.Core.Path.{◌≡◌, refl}
use Rattle.meaning.specs.Table.{Table}
use Rattle.meaning.specs.Tree.{Tree}
use Rattle.meaning.specs.Outcome.{Slices, Unfolds, nowhere, there}

pub unfolds_unique : {rows : Table} {x : Slices} {c : ℕ} {t u : Tree} → Unfolds rows x c t → Unfolds rows x c u → t ≡ u
unfolds_unique nowhere nowhere = refl
unfolds_unique nowhere (there h a b) = absurd (h refl)
unfolds_unique (there h a b) nowhere = absurd (h refl)
unfolds_unique (there h a b) (there k d e) = let v = unfolds_unique a d in let w = unfolds_unique b e in cc
