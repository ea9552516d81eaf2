-- 01, section 3: loops.
use Rattle.std.specs.Prelude.{ℕ, ◌<◌, List, [], ◌∷◌, ◌++◌, ◌≡◌}
use Rattle.meaning.specs.Table.{Dir, converse, Table, row_at, go_row, Refers}

-- A stretch cancels when it is empty, or a d, a cancelling stretch and the converse of d, or two cancelling stretches joined.
pub data Cancels : List Dir → Type 0 where
  empty : Cancels []
  wrapped : {w : List Dir} (d : Dir) → Cancels w → Cancels (d ∷ (w ++ (converse d ∷ [])))
  joined : {v w : List Dir} → Cancels v → Cancels w → Cancels (v ++ w)

-- The step from `any` or `all` to a referenced row has no direction, the step of `go` has its d.
pub data Step (rows : Table) : ℕ → List Dir → ℕ → Type 0 where
  referring : {i j : ℕ} → Refers rows i j → Step rows i [] j
  looking : {i j : ℕ} {d : Dir} → row_at rows i ≡ go_row d j → Step rows i (d ∷ []) j

-- A walk of at least one step, with its directions.
pub data Walk (rows : Table) : ℕ → List Dir → ℕ → Type 0 where
  one : {i j : ℕ} {w : List Dir} → Step rows i w j → Walk rows i w j
  more : {i j k : ℕ} {v w : List Dir} → Step rows i v j → Walk rows j w k → Walk rows i (v ++ w) k

-- A walk of at least one step whose directions cancel.
pub record Stretch (rows : Table) (i j : ℕ) : Type 0 where
  pub word : List Dir
  pub walk : Walk rows i word j
  pub cancels : Cancels word

-- A loop that starts at row i is such a walk from i back to itself.
abbrev pub Loop : Table → ℕ → Type 0
Loop rows i = Stretch rows i i

-- Row k is on a loop: the loop starts there or comes by.
pub data OnLoop (rows : Table) (k : ℕ) : Type 0 where
  starts : Loop rows k → OnLoop rows k
  comes_by : {i : ℕ} {v w : List Dir} → Walk rows i v k → Walk rows k w i → Cancels (v ++ w) → OnLoop rows k

-- Every row is tested, used or not.
abbrev pub LoopFree : Table → Type 0
LoopFree rows = (i : ℕ) → OnLoop rows i → ⊥

-- Refusal 6's place: the smallest row on a loop.
pub record SmallestOnLoop (rows : Table) (i : ℕ) : Type 0 where
  pub on_loop : OnLoop rows i
  pub none_before : (j : ℕ) → j < i → OnLoop rows j → ⊥

-- The pairs of rows that a program can find one from another, with no word of directions in hand.
pub data Joined (rows : Table) : ℕ → ℕ → Type 0 where
  by_flat : {i j : ℕ} → Refers rows i j → Joined rows i j
  by_turn : {i j : ℕ} (k : ℕ) (d : Dir) → row_at rows i ≡ go_row d k → row_at rows k ≡ go_row (converse d) j → Joined rows i j
  by_wrap : {i j : ℕ} (k l : ℕ) (d : Dir) → row_at rows i ≡ go_row d k → Joined rows k l → row_at rows l ≡ go_row (converse d) j → Joined rows i j
  by_join : {i j k : ℕ} → Joined rows i k → Joined rows k j → Joined rows i j
