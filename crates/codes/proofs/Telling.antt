-- What is told of a row's truth, kind by kind.
use Prim.Native.Nat.{ℕ, ◌<◌}
use native.Mathlib.Omega.{arith}
use mathlib.Core.Bool.{Bool, true, false, not}
use mathlib.Core.List.{List}
use mathlib.Core.Path.{◌≡◌, refl, ap, ◌∙◌}
use lib.Dec.{eqb}
use lib.ListN.{get_or, take, length, length-map}
use Rattle.meaning.specs.Code.{name_in}
use Rattle.meaning.specs.Table.{row_at, looks, any_left, any_right, all_left, all_right}
use Rattle.table.specs.Decides.{Decides}
use Rattle.table.specs.Rows.{dir_of, meant, table_in}
use Rattle.table.specs.declared.Row.{Row}
use Rattle.table.specs.declared.Row.TheVariants.{Yes, No, Is, Isnot, Any, All, Go, Stop}
use Rattle.counts.proofs.Laws.{row_at-table_in}
use Rattle.counts.proofs.Looks.{looks_at}
use Rattle.table.proofs.Decides.{always, never, negated, is_number, either_left, either_right, both_left, both_right}
use Rattle.codes.specs.Layout.{Laid}
use Rattle.codes.specs.Parts.{name_by, flag_by, bit_by}
use Rattle.codes.specs.Truths.{true_by, Follows}
use Rattle.codes.proofs.Apart.{name_is, flag_decides, bit_decides}
use Rattle.codes.proofs.Settled.{SaysIn, settled}

module _ {rows : List Row} {places : List ℕ} {m : ℕ} (l : Laid rows places m) {row : ℕ} (h : row < length rows) where
  -- the row that was read is the table's
  there : (d : Row) {r : Row} → get_or rows row d ≡ r → row_at (table_in rows) row ≡ meant r
  there d e = row_at-table_in rows d row h ∙ ap meant e

  -- its place is that of its bit, if it is a look row
  place : get_or places row 0 ≡ looks (take row (table_in rows))
  place = l.placed.place row (simp length-map h)

  pub place_small : get_or places row 0 < 64
  place_small = let w = l.width in let s : row < length (table_in rows) = simp length-map h in omega (arith, place, looks_at (table_in rows) row)

  named : (code n : ℕ) → Decides (eqb (name_by m code) n) (name_in (table_in rows) code ≡ n)
  named code n = rw (name_is (table_in rows) code m l.width.is_m) (is_number (name_in (table_in rows) code) n)

  module _ (code : ℕ) (truths : List Bool) (d : Row) where
    known : {r : Row} {b : Bool} → get_or rows row d ≡ r → Decides b (SaysIn (table_in rows) code row (meant r)) → Follows (table_in rows) code truths row b
    known e p = record { decides = λ w. settled (table_in rows) code row (there d e) p }

    pub tells_yes : get_or rows row d ≡ Yes → Follows (table_in rows) code truths row true
    tells_yes e = known e (always tt)

    pub tells_no : get_or rows row d ≡ No → Follows (table_in rows) code truths row false
    tells_no e = known e (never (λ h. h))

    pub tells_is : {n : ℕ} → get_or rows row d ≡ Is n → Follows (table_in rows) code truths row (eqb (name_by m code) n)
    tells_is {n} e = known e (named code n)

    pub tells_isnot : {n : ℕ} → get_or rows row d ≡ Isnot n → Follows (table_in rows) code truths row (not (eqb (name_by m code) n))
    tells_isnot {n} e = known e (negated _ (named code n))

    -- the second row that is named is looked at only where the first leaves it open
    module _ {i j n : ℕ} {x : Bool} (at : n ≡ i) (p : x ≡ true_by truths n) where
      pub tells_any_first : get_or rows row d ≡ Any i j → x ≡ true → Follows (table_in rows) code truths row x
      tells_any_first e q = let s = there d e in record { decides = λ w. settled _ _ _ s (either_left (rw (p, at) (w _ (any_left s))) q) }

      pub tells_all_first : get_or rows row d ≡ All i j → x ≡ false → Follows (table_in rows) code truths row x
      tells_all_first e q = let s = there d e in record { decides = λ w. settled _ _ _ s (both_left (rw (p, at) (w _ (all_left s))) q) }

      module _ {k : ℕ} {y : Bool} (to : k ≡ j) (r : y ≡ true_by truths k) where
        pub tells_any_second : get_or rows row d ≡ Any i j → x ≡ false → Follows (table_in rows) code truths row y
        tells_any_second e q =
            let s = there d e in
            record { decides = λ w. settled _ _ _ s (either_right (rw (p, at) (w _ (any_left s))) q (rw (r, to) (w _ (any_right s)))) }

        pub tells_all_second : get_or rows row d ≡ All i j → x ≡ true → Follows (table_in rows) code truths row y
        tells_all_second e q =
            let s = there d e in
            record { decides = λ w. settled _ _ _ s (both_right (rw (p, at) (w _ (all_left s))) q (rw (r, to) (w _ (all_right s)))) }

    pub tells_go : {w i n : ℕ} {b : Bool} → get_or rows row d ≡ Go w i → n ≡ get_or places row 0 → b ≡ bit_by code n → Follows (table_in rows) code truths row b
    tells_go e at p = known e (bit_decides _ _ _ _ (at ∙ place) p)

    pub tells_stop : {w : ℕ} → get_or rows row d ≡ Stop w → Follows (table_in rows) code truths row (not (flag_by m code (dir_of w)))
    tells_stop {w} e = known e (negated _ (flag_decides (table_in rows) code m l.width.is_m (dir_of w) refl))
