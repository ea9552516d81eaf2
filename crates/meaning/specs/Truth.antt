-- 01, section 3: when a row is true at a node.
use Rattle.std.specs.Prelude.{ℕ, ◌<◌, [], ◌⊎◌, ◌↔◌, ◌≡◌, length}
use Rattle.std.proofs.Math.Option.{none, some}
use Rattle.meaning.specs.Table.{Dir, Table, Row, row_at, asked, yes_row, no_row, is_row, isnot_row, any_row, all_row, go_row, stop_row, counted}
use Rattle.meaning.specs.Tree.{Tree, Place, Node, below, name_of, neighbour}

-- The node at p has the name n, names counted as in section 2. All that a row can ask of a node itself is asked here.
abbrev pub Labelled : Table → Tree → Place → ℕ → Type 0
Labelled rows t p n = counted rows (name_of (below t p)) ≡ n

-- `Holds rows t r p`: the row r, one of `rows`, is true at the node p of the tree t. What no constructor gives is not true: this is the
-- least solution of all rows together.
pub data Holds (rows : Table) (t : Tree) : Row → Place → Type 0 where
  by_yes : {p : Place} → Holds rows t yes_row p
  by_is : {p : Place} {n : ℕ} → Labelled rows t p n → Holds rows t (is_row n) p
  by_isnot : {p : Place} {n : ℕ} → (Labelled rows t p n → ⊥) → Holds rows t (isnot_row n) p
  by_left : {p : Place} {i j : ℕ} → Holds rows t (row_at rows i) p → Holds rows t (any_row i j) p
  by_right : {p : Place} {i j : ℕ} → Holds rows t (row_at rows j) p → Holds rows t (any_row i j) p
  by_both : {p : Place} {i j : ℕ} → Holds rows t (row_at rows i) p → Holds rows t (row_at rows j) p → Holds rows t (all_row i j) p
  by_go : {p q : Place} {d : Dir} {i : ℕ} → neighbour t d p ≡ some q → Holds rows t (row_at rows i) q → Holds rows t (go_row d i) p
  by_stop : {p : Place} {d : Dir} → neighbour t d p ≡ none → Holds rows t (stop_row d) p

-- Row number i is true at p.
abbrev pub TrueAt : Table → Tree → ℕ → Place → Type 0
TrueAt rows t i p = Holds rows t (row_at rows i) p

-- A finite tree whose top makes the asked row true: what SAT shows, and UNSAT denies.
pub record Satisfies (rows : Table) (t : Tree) : Type 0 where
  pub some_node : Node t
  pub true_at_top : TrueAt rows t (asked rows) []

-- What a row says at a node, where `T i p` is taken for `row i is true at p`.
abbrev pub Says : Table → Tree → (ℕ → Place → Type 0) → Row → Place → Type 0
Says rows t T yes_row p = Unit {0}
Says rows t T no_row p = ⊥
Says rows t T (is_row n) p = Labelled rows t p n
Says rows t T (isnot_row n) p = Labelled rows t p n → ⊥
Says rows t T (any_row i j) p = T i p ⊎ T j p
Says rows t T (all_row i j) p = T i p × T j p
Says rows t T (go_row d i) p = (q : Place) × (neighbour t d p ≡ some q) × T i q
Says rows t T (stop_row d) p = neighbour t d p ≡ none

-- A solution: at every node every row is true exactly where what it says holds.
abbrev pub Solves : Table → Tree → (ℕ → Place → Type 0) → Type 0
Solves rows t T = (i : ℕ) (p : Place) → i < length rows → Node (below t p) → T i p ↔ Says rows t T (row_at rows i) p
