-- Only joined pairs are found: at first, and with one that a rule gives.
use Prim.Native.Nat.{ℕ, ◌<◌}
use mathlib.Core.Bool.{Bool, false}
use mathlib.Core.List.{List, []}
use mathlib.Core.Path.{sym, ◌∙◌}
use lib.ListN.{length, get_or, replicate}
use Rattle.meaning.specs.Loop.{Joined}
use Rattle.meaning.specs.Table.{Table, InRange}
use Rattle.meaning.proofs.Tests.{Is, false≢true}
use Rattle.loops.specs.Closing.{with_pair, given, Sound}
use Rattle.loops.proofs.Exists.{marks_of}
use Rattle.loops.proofs.Given.{given_sound}
use Rattle.loops.proofs.Marking.{marked_none, marked_new}

pub sound_none : (rows : Table) (w v : ℕ) → Sound rows (replicate w (replicate v false))
sound_none rows w v = record { sound = λ i j e. false≢true (sym (marked_none w v i j) ∙ e) }

pub sound_more : (rows : Table) (m : List (List Bool)) → InRange rows → Sound rows m → (i j : ℕ) → i < length m → j < length (get_or m i []) → Is (given rows m i j) → Sound rows (with_pair m i j)
sound_more rows m range s i j low inside g =
    let marks = marks_of rows range m s in
    record { sound = λ k l e. ∣ marked_new m i j low inside (λ (a b : ℕ). Joined rows a b) (given_sound rows m marks i j g) (λ a b f. marks.sound a b f) k l e ∣₁ }
