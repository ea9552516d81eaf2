-- The two lists of bits, before the first row and with one row more.
use Prim.Native.Nat.{ℕ, zero, suc, ◌+◌, ◌<◌}
use native.Mathlib.Omega.{arith}
use native.Mathlib.Nat.{eq-or-lt_of_le}
use mathlib.Core.Bool.{true, false}
use mathlib.Core.List.{List, [], ◌∷◌, ◌++◌}
use mathlib.Core.Logic.{⊎_elim}
use mathlib.Core.Path.{◌≡◌, refl}
use lib.ListN.{length, get_or, take, set, replicate, length-append, get_or-append}
use lib.Seq.{take-append-le, take-append_seam, get_or-append_seam, get_or-set_same, get_or-set_other}
use Rattle.meaning.specs.Table.{Table, Row, no_row, looks, look}
use Rattle.table.specs.Rows.{meant, table_in}
use Rattle.table.specs.declared.Row as T
use Rattle.counts.specs.Counts.{is_look, Places, LookRow, LookRows}
use Rattle.counts.proofs.Laws.{look_is, looks_snoc, rows_passed, table_next}

pub zeros : (n i : ℕ) → ◌≡◌ {A = ℕ} (get_or (replicate n 0) i 0) 0
zeros zero i = refl
zeros (suc n) zero = refl
zeros (suc n) (suc i) = zeros n i

pub places_none : (n : ℕ) → Places [] (replicate n 0)
places_none n = record { place = λ i h. absurd (omega arith); rest = λ i h. zeros n i }

pub found_none : (n : ℕ) → LookRows [] (replicate n 0)
unfolding looks
found_none n = record { row = λ j h. absurd (omega arith); rest = λ j h. zeros n j }

module _ (rows : Table) (r : Row) where
  long : length (rows ++ (r ∷ [])) ≡ length rows + 1
  long = length-append rows (r ∷ [])

  pub places_more : (l : List ℕ) → Places rows l → length rows < length l → Places (rows ++ (r ∷ [])) (set l (length rows) (looks rows))
  places_more l p h = record {
    place = λ i g. ⊎_elim
        (λ (e : i ≡ length rows). rw (e, get_or-set_same l (length rows) (looks rows) 0 h, take-append_seam rows (r ∷ [])))
        (λ (b : i < length rows). rw (get_or-set_other l (length rows) i (looks rows) 0 (omega arith), take-append-le i rows (r ∷ []) (omega arith)) (p.place i b))
        (eq-or-lt_of_le (omega (arith, long)));
    rest = λ i g. rw (get_or-set_other l (length rows) i (looks rows) 0 (omega (arith, long))) (p.rest i (omega (arith, long)));
  }

  -- the look row of a place stays it
  kept : {j i : ℕ} → LookRow rows j i → LookRow (rows ++ (r ∷ [])) j i
  kept {j} {i} a = record {
    there = omega (arith, long, a.there);
    looking = rw (get_or-append rows (r ∷ []) no_row i a.there) a.looking;
    place = rw (take-append-le i rows (r ∷ []) (omega (arith, a.there))) a.place;
  }

  last : look r ≡ 1 → LookRow (rows ++ (r ∷ [])) (looks rows) (length rows)
  last e = record {
    there = omega (arith, long);
    looking = rw (get_or-append_seam rows r [] no_row) e;
    place = rw (take-append_seam rows (r ∷ []));
  }

  pub found_skip : (l : List ℕ) → LookRows rows l → look r ≡ 0 → LookRows (rows ++ (r ∷ [])) l
  found_skip l f e =
      let m : looks (rows ++ (r ∷ [])) ≡ looks rows = omega (arith, looks_snoc rows r) in
      record { row = λ j h. kept (f.row j (omega arith)); rest = λ j h. f.rest j (omega arith) }

  pub found_more : (l : List ℕ) → LookRows rows l → look r ≡ 1 → looks rows < length l → LookRows (rows ++ (r ∷ [])) (set l (looks rows) (length rows))
  found_more l f e h =
      let m : looks (rows ++ (r ∷ [])) ≡ looks rows + 1 = omega (arith, looks_snoc rows r) in
      record {
        row = λ j g. ⊎_elim
            (λ (q : j ≡ looks rows). rw (q, get_or-set_same l (looks rows) (length rows) 0 h) (last e))
            (λ (b : j < looks rows). rw (get_or-set_other l (looks rows) j (length rows) 0 (omega arith)) (kept (f.row j b)))
            (eq-or-lt_of_le (omega arith));
        rest = λ j g. rw (get_or-set_other l (looks rows) j (length rows) 0 (omega arith)) (f.rest j (omega arith));
      }

-- the same as a loop passes the rows
module _ (rows : List T.Row) (d : T.Row) (l : List ℕ) (i m : ℕ) (inside : i < length rows) (counted : m ≡ looks (take i (table_in rows))) where
  passed : length (take i (table_in rows)) ≡ i
  passed = rows_passed rows i (omega arith)

  pub places_next : Places (take i (table_in rows)) l → i < length l → Places (take (i + 1) (table_in rows)) (set l i m)
  places_next p h =
      let g : length (take i (table_in rows)) < length l = omega (arith, passed) in
      rw (table_next rows d i inside, counted) (rw passed at (places_more (take i (table_in rows)) (meant (get_or rows i d)) l p g))

  pub found_next : LookRows (take i (table_in rows)) l → true ≡ is_look (get_or rows i d) → m < length l → LookRows (take (i + 1) (table_in rows)) (set l m i)
  found_next f e h =
      let g : looks (take i (table_in rows)) < length l = omega arith in
      let one = look_is (get_or rows i d) in
      rw (table_next rows d i inside, counted) (rw passed at (found_more (take i (table_in rows)) (meant (get_or rows i d)) l f (rw (← e) at one) g))

  pub found_not : LookRows (take i (table_in rows)) l → false ≡ is_look (get_or rows i d) → LookRows (take (i + 1) (table_in rows)) l
  found_not f e =
      let none = look_is (get_or rows i d) in
      rw (table_next rows d i inside) (found_skip (take i (table_in rows)) (meant (get_or rows i d)) l f (rw (← e) at none))
