-- 01, section 5 and demands 2 and 3: what is answered for an accepted table with room, and what each place of the four slices holds. It
-- speaks of marked trees and of truth, and has no word of how the answer is searched.
use Rattle.std.specs.Prelude.{ℕ, ◌*◌, ◌<◌, ◌≤◌, List, ◌≢◌, ◌≡◌, get_or, length}
use Rattle.meaning.specs.Table.{Side, first, next, down, Table, InRange, size, row_limit, size_limit}
use Rattle.meaning.specs.Tree.{Tree, nothing, node, height}
use Rattle.meaning.specs.Truth.{Satisfies}
use Rattle.meaning.specs.Loop.{LoopFree}
use Rattle.meaning.specs.Code.{codes, name_in, HasFlag, Takes, Good}
use Rattle.meaning.specs.Marked.{Smallest}

-- A table that refusals 3, 5, 6 and 7 let pass.
pub record Accepted (rows : Table) : Type 0 where
  pub some_row : 0 < length rows
  pub few_rows : length rows ≤ row_limit
  pub in_range : InRange rows
  pub loop_free : LoopFree rows
  pub room : size rows ≤ size_limit

-- The four lent slices.
pub record Slices : Type 0 where
  pub round : List ℕ
  pub firsts : List ℕ
  pub nexts : List ℕ
  pub used : List ℕ

-- `first` or `next`, by the side.
abbrev pub recorded : Slices → Side → List ℕ
recorded x first = x.firsts
recorded x next = x.nexts

-- What stands where there is no neighbour: this is never a proper code.
abbrev pub absent : ℕ
absent = 65535

-- What the round slice holds for code c, where `last` is the height or the rounds reported: the height of its smallest marked tree; 0 where
-- there is none, or where it is above the height reported.
pub data RoundIs (rows : Table) (last c : ℕ) : ℕ → Type 0 where
  entered : {k : ℕ} → Smallest rows c k → k ≤ last → RoundIs rows last c k
  not_entered : ((k : ℕ) → Smallest rows c k → last < k) → RoundIs rows last c 0

-- Code u is of an earlier round than code c.
abbrev pub Earlier : Table → List ℕ → ℕ → ℕ → Type 0
Earlier rows round c u = (u < codes rows) × (0 < get_or round u 0) × (get_or round u 0 < get_or round c 0)

-- What the slice of side s holds for code c: the smallest code of an earlier round that it takes, or none.
pub data NeighbourIs (rows : Table) (round : List ℕ) (s : Side) (c : ℕ) : ℕ → Type 0 where
  smallest : {u : ℕ} → Earlier rows round c u → Takes rows s c u → ((w : ℕ) → Earlier rows round c w → Takes rows s c w → u ≤ w) → NeighbourIs rows round s c u
  no_child : (HasFlag rows c (down s) → ⊥) → NeighbourIs rows round s c absent
  left_out : get_or round c 0 ≡ 0 → NeighbourIs rows round s c absent

-- The codes met from the top through first and next.
pub data Met (x : Slices) (top : ℕ) : ℕ → Type 0 where
  at_top : Met x top top
  onward : {c : ℕ} (s : Side) → Met x top c → get_or (recorded x s) c 0 ≢ absent → Met x top (get_or (recorded x s) c 0)

-- What the used slice holds for code c.
pub data UsedIs (x : Slices) (top c : ℕ) : ℕ → Type 0 where
  met : Met x top c → UsedIs x top c 1
  not_met : (Met x top c → ⊥) → UsedIs x top c 0

-- The tree that first and next unfold from a code.
pub data Unfolds (rows : Table) (x : Slices) : ℕ → Tree → Type 0 where
  nowhere : Unfolds rows x absent nothing
  there : {c : ℕ} {a b : Tree} → c ≢ absent → Unfolds rows x (get_or x.firsts c 0) a → Unfolds rows x (get_or x.nexts c 0) b
      → Unfolds rows x c (node (name_in rows c) a b)

-- Round, first and next are the same with both verdicts.
pub record Searched (rows : Table) (last : ℕ) (x : Slices) : Type 0 where
  pub rounds : (c : ℕ) → c < codes rows → RoundIs rows last c (get_or x.round c 0)
  pub neighbours : (s : Side) (c : ℕ) → c < codes rows → NeighbourIs rows x.round s c (get_or (recorded x s) c 0)

-- Demand 3's bound on a height and on a count of rounds.
abbrev pub Bounded : Table → ℕ → Type 0
Bounded rows k = k ≤ 12 * size rows

-- SAT: the shown tree is one that satisfies, of the height reported, and none is lower; the top is the smallest good code of that round.
pub record Sat (rows : Table) (h top : ℕ) (x : Slices) : Type 0 where
  pub searched : Searched rows h x
  pub bounded : Bounded rows h
  pub shown : Tree
  pub unfolds : Unfolds rows x top shown
  pub satisfies : Satisfies rows shown
  pub high : height shown ≡ h
  pub least : (t : Tree) → Satisfies rows t → h ≤ height t
  pub is_code : top < codes rows
  pub good : Good rows top
  pub in_round : get_or x.round top 0 ≡ h
  pub smallest_good : (c : ℕ) → c < codes rows → Good rows c → get_or x.round c 0 ≡ h → top ≤ c
  pub used_is : (c : ℕ) → c < codes rows → UsedIs x top c (get_or x.used c 0)

-- UNSAT: no tree of any size satisfies; the rounds are those that entered a code.
pub record Unsat (rows : Table) (r : ℕ) (x : Slices) : Type 0 where
  pub searched : Searched rows r x
  pub bounded : Bounded rows r
  pub none_satisfies : (t : Tree) → Satisfies rows t → ⊥
  pub each_round : (k : ℕ) → 0 < k → k ≤ r → (c : ℕ) × (c < codes rows) × Smallest rows c k
  pub no_round_more : (c k : ℕ) → Smallest rows c k → k ≤ r
  pub unused : (c : ℕ) → c < codes rows → get_or x.used c 0 ≡ 0

-- The verdict with its numbers.
pub data Verdict : Type 0 where
  sat : (height top : ℕ) → Verdict
  unsat : (rounds : ℕ) → Verdict

-- The outcome of an accepted table.
pub data Outcome (rows : Table) : Verdict → Slices → Type 0 where
  is_sat : {h top : ℕ} {x : Slices} → Sat rows h top x → Outcome rows (sat h top) x
  is_unsat : {r : ℕ} {x : Slices} → Unsat rows r x → Outcome rows (unsat r) x

-- Two slices hold the same in their first C places.
abbrev pub SameBelow : ℕ → List ℕ → List ℕ → Type 0
SameBelow n a b = (c : ℕ) → c < n → get_or a c 0 ≡ get_or b c 0

pub record SamePlaces (n : ℕ) (x y : Slices) : Type 0 where
  pub same_round : SameBelow n x.round y.round
  pub same_neighbours : (s : Side) → SameBelow n (recorded x s) (recorded y s)
  pub same_used : SameBelow n x.used y.used
