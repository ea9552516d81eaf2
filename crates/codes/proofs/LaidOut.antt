-- An accepted table is laid out by its bit places and its look rows.
use Prim.Native.Nat.{ℕ, zero, suc, ◌*◌, ◌^◌, ◌<◌, ◌≤◌}
use native.Mathlib.Omega.{arith}
use native.Mathlib.Decide.{dec_lt}
use mathlib.Core.List.{List}
use mathlib.Core.Path.{◌≡◌}
use lib.ListN.{length}
use lib.Pow.{pow_mono}
use Rattle.meaning.specs.Outcome.{Accepted}
use Rattle.meaning.specs.Table.{Table, names, looks, size, size_limit}
use Rattle.meaning.proofs.Codes.Names.{names_pos}
use Rattle.table.specs.Rows.{table_in}
use Rattle.table.specs.declared.Row.{Row}
use Rattle.counts.specs.Counts.{Places, LookRows}
use Rattle.codes.specs.Layout.{Width, Laid, Looking}

-- a power is at most the product of it and a number that is not 0
factor_le : (n w k : ℕ) → 0 < n → n * w ≤ k → w ≤ k
factor_le zero w k h l = absurd (omega arith)
factor_le (suc n) w k h l = omega arith

pub few_looks : (rows : Table) → size rows ≤ size_limit → looks rows ≤ 12
few_looks rows room = at (dec_lt 12 (looks rows))
  where
    at : Dec (12 < looks rows) → looks rows ≤ 12
    at (yes h) =
        let p : 2 ^ 13 ≤ 2 ^ looks rows = pow_mono h in
        absurd (omega (arith, factor_le (names rows) (2 ^ looks rows) size_limit (names_pos rows) room))
    at (no h) = omega arith

module _ {rows : List Row} {m : ℕ} (a : Accepted (table_in rows)) (e : m ≡ looks (table_in rows)) where
  width : Width rows m
  width = let w = few_looks (table_in rows) a.room in record { is_m = e; small = omega arith }

  pub looking : {look : List ℕ} → m ≤ length look → LookRows (table_in rows) look → Looking rows look m
  looking f found = record { width = width; enough = f; found = found }

  pub laid : {places : List ℕ} → length rows ≤ length places → Places (table_in rows) places → Laid rows places m
  laid p places = record { width = width; range = a.in_range; enough = p; placed = places }
