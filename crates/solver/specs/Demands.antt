-- The three demands as they are asked for, each a consequence of `Solved`.
use Rattle.std.specs.Prelude.{ℕ, ◌<◌, ◌≤◌, List, ◌⊎◌, ◌↔◌, ◌≡◌, get_or}
use Rattle.meaning.specs.Table.{Table}
use Rattle.meaning.specs.Tree.{Tree, height}
use Rattle.meaning.specs.Truth.{Satisfies}
use Rattle.meaning.specs.Code.{codes}
use Rattle.meaning.specs.Marked.{Smallest}
use Rattle.meaning.specs.Outcome.{Slices, Unfolds, Bounded}
use Rattle.table.specs.declared.Row.{Row}
use Rattle.reader.specs.Reading.{rows_read, refused}
use Rattle.intake.specs.Loading.{Loads, table}
use Rattle.solver.specs.Solved.{Room, Solved}
use Rattle.solver.specs.declared.Answer.{Answer}

-- 01's table of refusals: number n is due at place p.
pub data Due (text : List ℕ) (old : Slices) : ℕ → ℕ → Type 0 where
  by_text : {n p : ℕ} → Loads text (refused n p) → Due text old n p
  by_room : {rows : List Row} → Loads text (rows_read rows) → (Room (codes (table rows)) old → ⊥) → Due text old 8 0

-- Demand 1: SAT, UNSAT or one of eight refusals, each exactly in its stated case; a refusal leaves lent memory as it was.
pub record Demand1 (text : List ℕ) (old new : Slices) (a : Answer) : Type 0 where
  pub ends : (a.verdict ≡ 0) ⊎ ((a.verdict ≡ 1) ⊎ (a.verdict ≡ 2))
  pub exactly : (n p : ℕ) → Due text old n p ↔ ((a.verdict ≡ 0) × (a.refusal ≡ n) × (a.place ≡ p))
  pub numbered : a.verdict ≡ 0 → (0 < a.refusal) × (a.refusal ≤ 8)
  pub others : a.verdict ≡ 0 → (a.height ≡ 0) × (a.top ≡ 0)
  pub untouched : a.verdict ≡ 0 → new ≡ old

-- Demands 2 and 3 speak of a text that gives an accepted table, with room.
module _ (rows : Table) (new : Slices) (a : Answer) where
  -- Demand 2: SAT exactly if some finite tree satisfies, the shown tree is one, and UNSAT exactly if there is none of any size.
  pub record Demand2 : Type 0 where
    pub sat_exactly : (a.verdict ≡ 1) ↔ ((t : Tree) × Satisfies rows t)
    pub shown : a.verdict ≡ 1 → (t : Tree) × Unfolds rows new a.top t × Satisfies rows t
    pub unsat_exactly : (a.verdict ≡ 2) ↔ ((t : Tree) → Satisfies rows t → ⊥)

  -- Demand 3: the height is that of the shown tree and the least of all; round k enters exactly the codes whose smallest marked tree has
  -- height k (with SAT none beyond the height); UNSAT's rounds are those that entered a code; neither number exceeds 12 × N × 2^m.
  pub record Demand3 : Type 0 where
    pub of_shown : (t : Tree) → a.verdict ≡ 1 → Unfolds rows new a.top t → height t ≡ a.height
    pub least : (t : Tree) → a.verdict ≡ 1 → Satisfies rows t → a.height ≤ height t
    pub rounds : (c k : ℕ) → c < codes rows → 0 < k → (get_or new.round c 0 ≡ k) ↔ (Smallest rows c k × (k ≤ a.height))
    pub counted : (k : ℕ) → a.verdict ≡ 2 → 0 < k → (k ≤ a.height) ↔ ((c : ℕ) × Smallest rows c k)
    pub bounded : Bounded rows a.height

pub record Demands (text : List ℕ) (old new : Slices) (a : Answer) : Type 0 where
  pub first : Demand1 text old new a
  pub second : (rows : List Row) → Loads text (rows_read rows) → Room (codes (table rows)) old → Demand2 (table rows) new a
  pub third : (rows : List Row) → Loads text (rows_read rows) → Room (codes (table rows)) old → Demand3 (table rows) new a

-- The outcome is one: two answers to the same text with the same memory lent have the same numbers and leave every place of every slice the
-- same, to the slices' ends; and each text with each memory has one.
pub record SameNumbers (a b : Answer) : Type 0 where
  pub same_verdict : a.verdict ≡ b.verdict
  pub same_height : a.height ≡ b.height
  pub same_top : a.top ≡ b.top
  pub same_refusal : a.refusal ≡ b.refusal
  pub same_place : a.place ≡ b.place

pub record OneOutcome (text : List ℕ) (old : Slices) : Type 0 where
  pub some_answer : (new : Slices) × (a : Answer) × Solved text old new a
  pub same_answer : (x y : Slices) (a b : Answer) → Solved text old x a → Solved text old y b → SameNumbers a b
  pub same_memory : (x y : Slices) (a b : Answer) → Solved text old x a → Solved text old y b → x ≡ y
