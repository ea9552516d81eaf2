-- What is asked of a code's truths, in one number: 01 reads the truth of a row in a code where a look row names it and where it is the
-- question, and nowhere else.
use Rattle.std.specs.Prelude.{ℕ, zero, suc, ◌+◌, ◌*◌, ◌<◌, Bool, cond, List, ◌≢◌, ◌≡◌, ltb, get_or, length}
use Rattle.meaning.specs.Code.{TrueIn}
use Rattle.meaning.specs.Table.{Dir, Table, row_at, asked, go_row}
use Rattle.table.specs.Decides.{Decides}
use Rattle.table.specs.Rows.{table_in}
use Rattle.table.specs.declared.Row.{Row}
use Rattle.table.specs.declared.Row.TheVariants.{Yes, No, Is, Isnot, Any, All, Go, Stop}
use Rattle.codes.specs.Parts.{bit_by}
use Rattle.codes.specs.Truths.{true_by}

-- Bit j is the truth of the row that the look row of bit j names, and bit m that of the question.
pub record Sees (rows : Table) (look : List ℕ) (m code sight : ℕ) : Type 0 where
  pub named : (j i : ℕ) (d : Dir) → j < m → row_at rows (get_or look j 0) ≡ go_row d i → Decides (bit_by sight j) (TrueIn rows code i)
  pub question : Decides (bit_by sight m) (TrueIn rows code (asked rows))

-- No sight: one has 13 bits at the most.
abbrev pub unseen : ℕ
unseen = 65535

-- The sights that are kept: what stands for a code is its sight, or none.
pub record Sights (rows : Table) (look : List ℕ) (m : ℕ) (sights : List ℕ) : Type 0 where
  pub each : (u : ℕ) → u < length sights → get_or sights u 0 ≢ unseen → Sees rows look m u (get_or sights u 0)

-- The row that a row names, if it is a `go` row.
abbrev pub goal : Row → ℕ
goal Yes = 0
goal No = 0
goal (Is n) = 0
goal (Isnot n) = 0
goal (Any i j) = 0
goal (All i j) = 0
goal (Go d i) = i
goal (Stop d) = 0

-- The row whose truth is bit j of a sight.
abbrev pub subject : List Row → List ℕ → ℕ → ℕ → ℕ
subject rows look m j = cond (ltb j m) (goal (get_or rows (get_or look j 0) No)) (asked (table_in rows))

-- A number of k bits, which a test gives from j on.
unfoldable pub packed : (ℕ → Bool) → ℕ → ℕ → ℕ
packed test zero j = 0
packed test (suc k) j = packed test k (suc j) * 2 + cond (test j) 1 0

abbrev pub sight_by : List Row → List ℕ → ℕ → List Bool → ℕ
sight_by rows look m truths = packed (λ (j : ℕ). true_by truths (subject rows look m j)) (suc m) 0
