-- 65,535, which the slices hold where there is no neighbour, is no proper code: within the limits it is a code only if there are 65,536 of them,
-- and then it has every flag.
use Prim.Native.Nat.{ℕ, zero, suc, ◌+◌, ◌*◌, ◌^◌, ◌/◌, ◌%◌, ◌-◌, ◌<◌, ◌≤◌}
use native.Mathlib.Omega.{arith}
use mathlib.Core.Logic.{◌≢◌}
use mathlib.Core.Path.{◌≡◌, ◌∙◌, ap}
use lib.Arith.{digits_div}
use lib.Pow.{pow_pos}
use Rattle.meaning.specs.Code.{codes, HasFlag, Proper}
use Rattle.meaning.specs.Outcome.{absent}
use Rattle.meaning.specs.Table.{Table, names, looks, size, size_limit}
use Rattle.meaning.proofs.Codes.Names.{names_pos}

all_flags : (n w c : ℕ) → 0 < w → 0 < n → c ≡ absent → c < n * 16 * w → n * w ≤ size_limit → c / w % 16 ≡ 15
all_flags zero w c k h e l r = absurd (omega arith)
all_flags (suc n) w c k h e l r =
    let s : w - 1 < w = omega arith in
    let whole : c ≡ (n * 16 + 15) * w + (w - 1) = omega arith in
    let q : c / w ≡ n * 16 + 15 = ap (λ (z : ℕ). z / w) whole ∙ digits_div (n * 16 + 15) s in
    omega arith

pub never : (rows : Table) → size rows ≤ size_limit → (c : ℕ) → c < codes rows → Proper rows c → c ≢ absent
unfolding codes HasFlag
never rows room c l p e =
    let q : c / 2 ^ looks rows % 16 ≡ 15 = all_flags (names rows) (2 ^ looks rows) c (pow_pos (looks rows)) (names_pos rows) e l room in
    p.one_parent (omega arith) (omega arith)
