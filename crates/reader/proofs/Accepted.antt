-- What a caller of `read_text` has of its answer: the rows of an accepted text, and the sizes of a refusal's numbers.
use mathlib.Core.Path.{◌≡◌, refl, sym, subst}
use mathlib.Core.List.{List, []}
use Prim.Native.Nat.{ℕ, zero, suc, ◌<◌, ◌≤◌}
use native.Mathlib.Omega.{arith}
use lib.ListN.{length, get_or}
use Rattle.meaning.specs.Table.{row_limit}
use Rattle.table.specs.declared.Row.{Row}
use Rattle.std.specs.Prelude.{Ok, Err}
use Rattle.table.specs.declared.Table.{Table}
use Rattle.table.specs.declared.refusal.Refusal.{Refusal}
use Rattle.table.specs.Refusals.{number_of, place_of}
use Rattle.table.specs.Rows.{rows_of}
use Rattle.table.specs.Written.{Writable, Exists}
use Rattle.reader.specs.Reading.{Reading, rows_read, refused, Sound, none, more, After, Reads, empty, malformed, too_many, not_there, read, Answers}

pub record Accepted (text : List ℕ) (rows : List Row) : Type 0 where
  pub after : After text rows []
  pub some : 1 ≤ length rows
  pub few : length rows ≤ row_limit

clash : {A : Type 0} {rows : List Row} {n p : ℕ} → refused n p ≡ rows_read rows → A
clash e = absurd (let z : ◌≡◌ {A = ℕ} 0 1 = cc in omega arith)

rows_are : {text : List ℕ} {a : Reading} → Reads text a → (rows : List Row) → a ≡ rows_read rows → Accepted text rows
rows_are (empty e) rows q = clash q
rows_are (malformed r s a h b m) rows q = clash q
rows_are (too_many r s a h b) rows q = clash q
rows_are (not_there r x end a h w n) rows q = clash q
rows_are {text} (read r a l h) rows q =
    let e : r ≡ rows = cc in
    subst (λ (x : List Row). Accepted text x) e (record { after = a; some = l; few = h })

pub accepted : (text : List ℕ) (t : Table) → Answers text (Ok t) → Accepted text (rows_of t)
accepted text t a = rows_are a.reads (rows_of t) refl

-- each row of an accepted text
pub exists_at : {rows : List Row} (d : Row) → Sound rows → (i : ℕ) → i < length rows → Exists (get_or rows i d)
exists_at d none i h = absurd (omega arith)
exists_at d (more w x s) zero h = x
exists_at d (more w x s) (suc i) h = exists_at d s i (omega arith)

pub writable_at : {rows : List Row} (d : Row) → Sound rows → (i : ℕ) → i < length rows → Writable (get_or rows i d)
writable_at d none i h = absurd (omega arith)
writable_at d (more w x s) zero h = w
writable_at d (more w x s) (suc i) h = writable_at d s i (omega arith)

-- a refusal's numbers
pub record Small (number place : ℕ) : Type 0 where
  pub number_small : number ≤ 4
  pub place_small : place ≤ row_limit

same : {m k n p : ℕ} → refused m k ≡ refused n p → (m ≡ n) × (k ≡ p)
same e = (cc, cc)

small_of : {text : List ℕ} {a : Reading} → Reads text a → (n p : ℕ) → a ≡ refused n p → Small n p
small_of (empty e) n p q = let f = same q in record { number_small = omega arith; place_small = omega arith }
small_of (malformed r s a h b m) n p q = let f = same q in record { number_small = omega arith; place_small = omega arith }
small_of (too_many r s a h b) n p q = let f = same q in record { number_small = omega arith; place_small = omega arith }
small_of (not_there r x end a h w m) n p q = let f = same q in record { number_small = omega arith; place_small = omega arith }
small_of (read r a l h) n p q = clash (sym q)

pub small : (text : List ℕ) (r : Refusal) → Answers text (Err r) → Small (number_of r) (place_of r)
small text r a = small_of a.reads (number_of r) (place_of r) refl
