-- The search for truths: what a row says by what is found so far, on which truths that rests, and what each step comes to. Only contracts inside
-- this crate cite it: what all of it comes to is in Decided.
use Rattle.std.specs.Prelude.{ℕ, ◌<◌, Bool, true, List, ◌⊎◌, ◌≡◌, Option, Some, None, length}
use Rattle.meaning.specs.Table.{Dir, Table, Row, row_at, yes_row, no_row, is_row, isnot_row, any_row, all_row, go_row, stop_row}
use Rattle.table.specs.Decides.{Decides}
use Rattle.loops.specs.Closing.{refers_to}
use Rattle.truths.specs.Spots.{spot_at, near, near_at, HoldsAt}
use Rattle.truths.specs.Cells.{found}
use Rattle.truths.specs.Found.{FoundAt, Grown}
use Rattle.truths.specs.declared.cell.Cell.{Cell}
use Rattle.truths.specs.declared.found.Found.{Found}
use Rattle.truths.specs.declared.spots.Spot.{Spot}

-- What is true at a neighbour, if there is one.
abbrev pub AtNear : (ℕ → Type 0) → Option ℕ → Type 0
AtNear True None = ⊥
AtNear True (Some q) = True q

-- What makes a row true at line p, of which the spot tells, where `True` tells which rows are true at which lines.
abbrev pub Says : Spot → (ℕ → ℕ → Type 0) → Row → ℕ → Type 0
Says spot True yes_row p = Unit {0}
Says spot True no_row p = ⊥
Says spot True (is_row n) p = spot.name ≡ n
Says spot True (isnot_row n) p = spot.name ≡ n → ⊥
Says spot True (any_row i j) p = True p i ⊎ True p j
Says spot True (all_row i j) p = True p i × True p j
Says spot True (go_row d i) p = AtNear (λ q. True q i) (near spot d)
Says spot True (stop_row d) p = near spot d ≡ None

-- Row i is there and line p is, and the row says so.
abbrev pub SaidAt : Table → List Spot → List (List Bool) → ℕ → ℕ → Type 0
SaidAt rows spots truth p i = (p < length spots) × (i < length rows) × Says (spot_at spots p) (FoundAt truth) (row_at rows i) p

-- What a row says at line q rests on row j at line p.
pub data Rests (spots : List Spot) (r : Row) (q p j : ℕ) : Type 0 where
  by_name : q ≡ p → refers_to j r ≡ true → Rests spots r q p j
  by_look : {d : Dir} → r ≡ go_row d j → near_at spots d q ≡ Some p → Rests spots r q p j

-- The one line at which a row rests on a cell, if there is one.
pub record RestsAt (spots : List Spot) (r : Row) (c : Cell) (q : Option ℕ) : Type 0 where
  pub only : (k : ℕ) → Rests spots r k c.line c.row → q ≡ Some k

-- Nothing but what is true is found.
abbrev pub AllTrue : Table → List Spot → List (List Bool) → Type 0
AllTrue rows spots truth = (p i : ℕ) → FoundAt truth p i → HoldsAt rows spots (row_at rows i) p

-- Each cell of a kind is found where what was found made its row true.
pub record Handled (rows : Table) (spots : List Spot) (Kind : ℕ → ℕ → Type 0) (s t : Found) : Type 0 where
  pub grown : Grown s.truth s.queue.items s.queue.len t.truth t.queue.items t.queue.len
  pub right : AllTrue rows spots s.truth → AllTrue rows spots t.truth
  pub settled : (p i : ℕ) → Kind p i → SaidAt rows spots s.truth p i → FoundAt t.truth p i

-- All cells, those of a line, the cell c alone, and those that rest on c.
abbrev pub AnyCell : ℕ → ℕ → Type 0
AnyCell p i = Unit {0}

abbrev pub OnLine : ℕ → ℕ → ℕ → Type 0
OnLine line p i = p ≡ line

abbrev pub Only : Cell → ℕ → ℕ → Type 0
Only c p i = (p ≡ c.line) × (i ≡ c.row)

abbrev pub Resting : Table → List Spot → Cell → ℕ → ℕ → Type 0
Resting rows spots c p i = Rests spots (row_at rows i) p c.line c.row

-- At the end every row is settled at every line.
pub record Settled (rows : Table) (spots : List Spot) (truth : List (List Bool)) : Type 0 where
  pub decides : (p i : ℕ) → p < length spots → i < length rows → Decides (found truth p i) (HoldsAt rows spots (row_at rows i) p)
