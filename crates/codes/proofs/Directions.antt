-- Directions by number: each has a number of its own.
use Prim.Native.Nat.{ℕ, zero, suc}
use native.Mathlib.Omega.{arith}
use mathlib.Core.Path.{◌≡◌, refl, sym, ap, ◌∙◌}
use Rattle.meaning.specs.Table.{Dir, first, next, down, up}
use Rattle.table.specs.Rows.{dir_of}
use Rattle.table.specs.Written.{Direction}

number : Dir → ℕ
number (down first) = 1
number (down next) = 2
number (up first) = 3
number (up next) = 4

number_of : (d : ℕ) → Direction d → number (dir_of d) ≡ d
unfolding number
number_of zero h = absurd (omega arith)
number_of (suc zero) h = refl
number_of (suc (suc zero)) h = refl
number_of (suc (suc (suc zero))) h = refl
number_of (suc (suc (suc (suc zero)))) h = refl
number_of (suc (suc (suc (suc (suc d))))) h = absurd (omega arith)

pub same_dir_lem : (d e : ℕ) → Direction d → Direction e → dir_of d ≡ dir_of e → d ≡ e
same_dir_lem d e h k q = sym (number_of d h) ∙ ap number q ∙ number_of e k
