-- How the verdicts come into lent memory. Only contracts inside this crate cite it.
use Rattle.std.specs.Prelude.{ℕ, Bool, zero, suc, ◌+◌, ◌/◌, ◌%◌, ◌≤◌, cond, List, [], ◌∷◌, ◌++◌, ◌≡◌, leb, length, drop, take}
use Rattle.truths.specs.Cells.{found}
use Rattle.judge.specs.Output.{verdict_lines}
use Rattle.judge.specs.declared.writer.Writer.{Writer}

-- The most that is written.
abbrev pub output_limit : ℕ
output_limit = 1420

-- The digits of so many lines from line i on: row 0's truth at each.
unfoldable pub digits_of : List (List Bool) → ℕ → ℕ → List ℕ
digits_of truth i zero = []
digits_of truth i (suc k) = cond (found truth i 0) 1 0 ∷ digits_of truth (suc i) k

-- The digit of a place, which a number has that reaches it.
abbrev pub digit_from : ℕ → ℕ → List ℕ
digit_from place n = cond (leb place n) ((48 + n / place % 10) ∷ []) []

-- Lent memory has room for these bytes where the next one goes.
abbrev pub Room : Writer → List ℕ → Type 0
Room w bytes = w.at + length bytes ≤ length w.bytes.now

-- These bytes stand there now, and all else of the memory is as it was; the next one goes behind them.
pub record Wrote (w : Writer) (bytes : List ℕ) (w' : Writer) : Type 0 where
  pub same : w'.bytes.ghost_name ≡ w.bytes.ghost_name
  pub stands : w'.bytes.now ≡ take w.at w.bytes.now ++ (bytes ++ drop (w.at + length bytes) w.bytes.now)
  pub long : length w'.bytes.now ≡ length w.bytes.now
  pub ends : w'.at ≡ w.at + length bytes

-- The bytes of n lines, whatever their digits.
pub record OutputLength (n bytes : ℕ) : Type 0 where
  pub lines : (bs : List ℕ) → length bs ≡ n → length (verdict_lines 0 bs) ≡ bytes
  pub few : bytes ≤ output_limit

-- What is written of n lines stands first, and the bytes beyond it are untouched.
pub record Written (truth : List (List Bool)) (n : ℕ) (old new : List ℕ) (bytes : ℕ) : Type 0 where
  pub stands : new ≡ verdict_lines 0 (digits_of truth 0 n) ++ drop bytes old
  pub long : bytes ≡ length (verdict_lines 0 (digits_of truth 0 n))
  pub few : bytes ≤ output_limit
