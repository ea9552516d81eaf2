-- Laws of the scan for a neighbour: which codes it drops and which it takes, and what it has found when it ends.
use Prim.Native.Nat.{ℕ, ◌<◌, ◌≤◌}
use native.Mathlib.Omega.{arith}
use native.Mathlib.Decide.{dec_lt}
use mathlib.Core.List.{List}
use mathlib.Core.Path.{◌≡◌, refl}
use lib.ListN.{get_or}
use Rattle.std.specs.Prelude.{Some, None}
use Rattle.codes.specs.Fits.{FitsRow}
use Rattle.codes.specs.Layout.{Looking}
use Rattle.codes.proofs.Takes.{flag_is, takes_rows}
use Rattle.meaning.specs.Code.{codes, HasFlag}
use Rattle.meaning.specs.Table.{Side, down, up, Table}
use Rattle.meaning.specs.Outcome.{Accepted}
use Rattle.table.specs.Rows.{table_in}
use Rattle.table.specs.declared.Row.{Row}
use Rattle.rounds.specs.Round.{Candidate, Taken, Least}

-- nothing below u, and u itself or nothing at all
module _ {P : ℕ → Type 0} where
  pub not_less : {u : ℕ} → ((w : ℕ) → w < u → P w → ⊥) → (w : ℕ) → P w → u ≤ w
  not_less {u} f w q = at (dec_lt w u)
    where
      at : Dec (w < u) → u ≤ w
      at (yes l) = absurd (f w l q)
      at (no l) = omega arith

  pub least_at : {u : ℕ} → ((w : ℕ) → w < u → P w → ⊥) → P u → Least P (Some u)
  least_at f p = (p, not_less f)

  pub least_none : {u c : ℕ} → ((w : ℕ) → w < u → P w → ⊥) → ((w : ℕ) → P w → w < c) → c ≤ u → Least P None
  least_none f b l w p = f w (omega (arith, b w p)) p

-- 16 × 4,096 codes at the most
pub few_codes : {rows : Table} {c : ℕ} → Accepted rows → c ≡ codes rows → c ≤ 65536
unfolding codes
few_codes a e = omega (arith, a.room)

module _ {rows : List Row} {look : List ℕ} {m : ℕ} (g : Looking rows look m) {round : List ℕ} {k t : ℕ} {s : Side} where
  -- the codes that are dropped are not taken
  pub no_candidate : (u : ℕ) → (Candidate round m k s u → ⊥) → Taken (table_in rows) round k s t u → ⊥
  no_candidate u n w = n (record { entered = w.entered; before = w.before; flagged = (flag_is g u (up s) refl).complete w.takes.flag_up })

  pub no_fit : (u j : ℕ) → j < m → (FitsRow (table_in rows) s t u (get_or look j 0) → ⊥) → Taken (table_in rows) round k s t u → ⊥
  no_fit u j l n w = n (((takes_rows g s t u).0 w.takes).2 j l)

  -- the code that is left is taken
  pub taken : (u : ℕ) → u < codes (table_in rows) → Candidate round m k s u → HasFlag (table_in rows) t (down s)
      → ((j : ℕ) → j < m → FitsRow (table_in rows) s t u (get_or look j 0)) → Taken (table_in rows) round k s t u
  taken u l a f fits = record {
    is_code = l;
    entered = a.entered;
    before = a.before;
    takes = (takes_rows g s t u).1 (f, (flag_is g u (up s) refl).sound a.flagged, fits);
  }
