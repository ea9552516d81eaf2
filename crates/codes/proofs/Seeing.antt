-- The truths that are packed are those that are asked for.
use Prim.Native.Nat.{ℕ, suc, ◌<◌, ◌≤◌}
use native.Mathlib.Omega.{arith}
use native.Mathlib.Nat.{zero-add}
use borrow.Author.Tests.{lt-ltb, le-ltb}
use mathlib.Core.Bool.{Bool}
use mathlib.Core.List.{List}
use mathlib.Core.Path.{◌≡◌, refl, sym, ap, ◌∙◌}
use lib.ListN.{get_or, length, length-map}
use Rattle.meaning.specs.Code.{TrueIn}
use Rattle.meaning.specs.Table.{Dir, row_at, asked, go_row}
use Rattle.table.specs.Decides.{Decides}
use Rattle.table.specs.Rows.{meant, table_in}
use Rattle.table.specs.declared.Row.{Row}
use Rattle.table.specs.declared.Row.TheVariants.{Yes, No, Is, Isnot, Any, All, Go, Stop}
use Rattle.counts.proofs.Laws.{row_at-table_in}
use Rattle.codes.specs.Layout.{Laid, Looking}
use Rattle.codes.specs.Parts.{bit_by}
use Rattle.codes.specs.Sights.{Sees, goal, subject, sight_by}
use Rattle.codes.specs.Truths.{true_by, AllWorked}
use Rattle.codes.proofs.Looking.{look_inside}
use Rattle.codes.proofs.Packing.{packed_bit, packed_small}

goal_is : (r : Row) {d : Dir} {i : ℕ} → meant r ≡ go_row d i → goal r ≡ i
goal_is Yes e = absurd (let z : ◌≡◌ {A = ℕ} 0 1 = cc in omega arith)
goal_is No e = absurd (let z : ◌≡◌ {A = ℕ} 0 1 = cc in omega arith)
goal_is (Is n) e = absurd (let z : ◌≡◌ {A = ℕ} 0 1 = cc in omega arith)
goal_is (Isnot n) e = absurd (let z : ◌≡◌ {A = ℕ} 0 1 = cc in omega arith)
goal_is (Any j k) e = absurd (let z : ◌≡◌ {A = ℕ} 0 1 = cc in omega arith)
goal_is (All j k) e = absurd (let z : ◌≡◌ {A = ℕ} 0 1 = cc in omega arith)
goal_is (Go d i) e = cc
goal_is (Stop d) e = absurd (let z : ◌≡◌ {A = ℕ} 0 1 = cc in omega arith)

module _ {rows : List Row} {places look : List ℕ} {m : ℕ} (l : Laid rows places m) (s : 0 < length rows) (k : Looking rows look m) where
  subject_named : (j i : ℕ) (d : Dir) → j < m → row_at (table_in rows) (get_or look j 0) ≡ go_row d i → subject rows look m j ≡ i
  subject_named j i d h e =
      rw (lt-ltb j m h)
      (goal_is (get_or rows (get_or look j 0) No) (sym (row_at-table_in rows No (get_or look j 0) (look_inside k j h).1) ∙ e))

  subject-asked : subject rows look m m ≡ asked (table_in rows)
  subject-asked = rw (le-ltb m m (omega arith))

  module _ {code : ℕ} {truths : List Bool} (w : AllWorked (table_in rows) code truths) where
    test : ℕ → Bool
    test j = true_by truths (subject rows look m j)

    -- bit j is the truth of its subject
    bit_is : (j i : ℕ) → j ≤ m → i < length (table_in rows) → subject rows look m j ≡ i → Decides (bit_by (sight_by rows look m truths) j) (TrueIn (table_in rows) code i)
    unfolding test
    bit_is j i h there e =
        let b : bit_by (sight_by rows look m truths) j ≡ true_by truths i = packed_bit test (suc m) 0 j (omega arith) ∙ ap test (zero-add j) ∙ ap (true_by truths) e in
        rw b (w.each i there)

    pub sees : Sees (table_in rows) look m code (sight_by rows look m truths)
    sees = record {
      named = λ j i d h e. bit_is j i (omega arith) (l.range.looked (get_or look j 0) e) (subject_named j i d h e);
      question = bit_is m (asked (table_in rows)) (omega arith) (simp length-map s) subject-asked;
    }

  pub sight_small : (truths : List Bool) → sight_by rows look m truths < 8192
  sight_small truths = packed_small _ (suc m) 0 (sight_by rows look m truths) (omega (arith, l.width.small)) refl
