-- One pass through the rows: when a row has its turn, the rows that it names have had theirs.
use Prim.Native.Nat.{ℕ, ◌+◌, ◌<◌, ◌≤◌}
use native.Mathlib.Decide.{ℕ_discrete}
use native.Mathlib.Omega.{arith}
use mathlib.Core.Bool.{Bool, false}
use mathlib.Core.List.{List}
use mathlib.Core.Logic.{∥∥₁_elim}
use mathlib.Core.Path.{◌≡◌, sym, ◌∙◌, ap}
use lib.ListN.{get_or, length, set, take, length-map}
use lib.Seq.{length-take-le, get_or-set_same, get_or-set_other}
use Rattle.std.proofs.Props.{props}
use Rattle.meaning.specs.Table.{Table, InRange}
use Rattle.table.specs.declared.Row.{Row}
use Rattle.counts.specs.Order.{Ordered}
use Rattle.codes.specs.Layout.{InOrder}
use Rattle.codes.specs.Truths.{Worked, Follows}

-- the rows of the first k places are worked out
pub record Passed (rows : Table) (order : List ℕ) (code k : ℕ) (truths : List Bool) : Type 0 where
  pub worked : (o : Ordered rows order) (i : ℕ) → i < length rows → o.place i < k → Worked rows code truths i

module _ {rows : Table} {order : List ℕ} {code : ℕ} where
  pub passed_none : {truths : List Bool} → Passed rows order code 0 truths
  passed_none = record { worked = λ o i h l. absurd (omega arith) }

  module _ (k : ℕ) {truths : List Bool} (p : Passed rows order code k truths) where
    pub passed_all : (o : Ordered rows order) → length rows ≤ k → (i : ℕ) → i < length rows → Worked rows code truths i
    passed_all o l i h = p.worked o i h (omega (arith, o.there i h))

    pub passed_more : InRange rows → (b : Bool) → get_or order k 0 < length truths
        → Follows rows code truths (get_or order k 0) b → Passed rows order code (k + 1) (set truths (get_or order k 0) b)
    passed_more range b inside f = record { worked = λ o i h l. at o i h l (ℕ_discrete i (get_or order k 0)) }
      where
        at : (o : Ordered rows order) (i : ℕ) → i < length rows → o.place i < k + 1 → Dec (i ≡ get_or order k 0) → Worked rows code (set truths (get_or order k 0) b) i
        at o i h l (yes q) =
            rw (q, get_or-set_same truths (get_or order k 0) b false inside)
            (f.decides (λ j r. p.worked o j (range.referred r) (omega (arith, o.before (get_or order k 0) j r, ap o.place q))))
        at o i h l (no n) =
            rw (get_or-set_other truths (get_or order k 0) i b false n)
            (p.worked o i h (later (ℕ_discrete (o.place i) k)))
          where
            later : Dec (o.place i ≡ k) → o.place i < k
            later (yes z) = absurd (n (sym (o.stands i h) ∙ ap (λ (y : ℕ). get_or order y 0) z))
            later (no z) = omega arith

-- a step is a row's
pub step_inside : {rows : List Row} {order : List ℕ} → ∥ InOrder rows order ∥₁ → (k : ℕ) → k < length rows → get_or order k 0 < length rows
step_inside {rows} m k h =
    ∥∥₁_elim m (Prim.hlevel props)
    (λ o. simp length-map at (o.ordered.rows_only k (simp length-map h)))

-- there are at most 48 rows
pub few_rows : {rows : List Row} {order : List ℕ} → ∥ InOrder rows order ∥₁ → length rows ≤ 48
few_rows m = ∥∥₁_elim m (Prim.hlevel props) (λ o. o.few)

pub some_row : {rows : List Row} {order : List ℕ} → ∥ InOrder rows order ∥₁ → 0 < length rows
some_row m = ∥∥₁_elim m (Prim.hlevel props) (λ o. o.some)

-- there is a step for each row
pub steps_long : {rows : List Row} {order : List ℕ} → ∥ InOrder rows order ∥₁ → length (take (length rows) order) ≡ length rows
steps_long {rows} {order} m = ∥∥₁_elim m (Prim.hlevel props) (λ o. length-take-le (length rows) order o.enough)
