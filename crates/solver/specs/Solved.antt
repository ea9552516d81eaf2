-- 01, sections 5 and 6 and demands 1 to 3: what `solve` promises, for every text and every four lengths of lent memory.
use Rattle.std.specs.Prelude.{ℕ, ◌*◌, ◌^◌, ◌≤◌, List, ◌≡◌, length, Result, Ok, Err}
use Rattle.meaning.specs.Table.{Side, Table, looks}
use Rattle.meaning.specs.Code.{codes}
use Rattle.meaning.specs.Outcome.{Slices, recorded, Verdict, sat, unsat, Outcome}
use Rattle.table.specs.declared.Row.{Row}
use Rattle.reader.specs.Reading.{rows_read, refused}
use Rattle.intake.specs.Loading.{Loads, table}
use Rattle.rounds.specs.Found.{verdict_of}
use Rattle.rounds.specs.Kept.{KeptAll}
use Rattle.rounds.specs.declared.Found.{Found}
use Rattle.table.specs.Refusals.{number_of, place_of}
use Rattle.table.specs.declared.refusal.Refusal.{Refusal}
use Rattle.solver.specs.declared.Answer.{Answer}

-- The answer, by cases: height and top; rounds; a refusal's number and place.
pub data Reply : Type 0 where
  Sat : (height top : ℕ) → Reply
  Unsat : (rounds : ℕ) → Reply
  Refused : (number place : ℕ) → Reply

-- 01's numbers for each case of the answer; every number that a case does not name is 0.
pub record Numbers (a : Answer) (v h t n p : ℕ) : Type 0 where
  pub verdict_is : a.verdict ≡ v
  pub height_is : a.height ≡ h
  pub top_is : a.top ≡ t
  pub refusal_is : a.refusal ≡ n
  pub place_is : a.place ≡ p

abbrev pub Says : Answer → Reply → Type 0
Says a (Sat h top) = Numbers a 1 h top 0 0
Says a (Unsat r) = Numbers a 2 r 0 0 0
Says a (Refused n p) = Numbers a 0 0 0 n p

-- The answer with those numbers.
abbrev pub answer_by : Reply → Answer
answer_by (Sat h top) = record { verdict = 1; height = h; top = top; refusal = 0; place = 0 }
answer_by (Unsat r) = record { verdict = 2; height = r; top = 0; refusal = 0; place = 0 }
answer_by (Refused n p) = record { verdict = 0; height = 0; top = 0; refusal = n; place = p }

-- The case of a verdict.
abbrev pub numbered : Verdict → Reply
numbered (sat h top) = Sat h top
numbered (unsat r) = Unsat r

-- The reply that the code's answer stands for.
abbrev pub reply_of : Result Found Refusal → Reply
reply_of (Ok found) = numbered (verdict_of found)
reply_of (Err r) = Refused (number_of r) (place_of r)

-- Each of the four slices has a place for every one of n codes.
pub record Room (n : ℕ) (x : Slices) : Type 0 where
  pub in_round : n ≤ length x.round
  pub in_recorded : (s : Side) → n ≤ length (recorded x s)
  pub in_used : n ≤ length x.used

-- The table's outcome, each slice as it was beyond its first C places.
pub record Answers (rows : Table) (old new : Slices) (r : Reply) : Type 0 where
  pub verdict : Verdict
  pub outcome : Outcome rows verdict new
  pub kept : KeptAll (codes rows) old new
  pub numbers : r ≡ numbered verdict

-- An accepted table: refusal 8 where a lent slice is shorter than C, and nothing is touched; else its outcome.
pub data Solves (rows : Table) (old new : Slices) (r : Reply) : Type 0 where
  short : (Room (codes rows) old → ⊥) → r ≡ Refused 8 0 → new ≡ old → Solves rows old new r
  answered : Room (codes rows) old → Answers rows old new r → Solves rows old new r

-- A text: refusals 1 to 7, and nothing is touched; else what its table gives.
pub data Replies (text : List ℕ) (old new : Slices) (r : Reply) : Type 0 where
  not_accepted : {n p : ℕ} → Loads text (refused n p) → r ≡ Refused n p → new ≡ old → Replies text old new r
  accepted : {rows : List Row} → Loads text (rows_read rows) → Solves (table rows) old new r → Replies text old new r

-- Everything that a call gives back: the answer's numbers, and each place of the four slices afterwards.
pub record Solved (text : List ℕ) (old new : Slices) (a : Answer) : Type 0 where
  pub reply : Reply
  pub replies : Replies text old new reply
  pub says : Says a reply

-- The numbers of the code's answer, for whoever asks in Rust: what is promised of an answer is promised of it too.
abbrev pub answer_of : Result Found Refusal → Answer
answer_of r = answer_by (reply_of r)

-- How many codes a name has in the text's table, for whoever prints a code's name.
pub record NameWidth (text : List ℕ) (width : ℕ) : Type 0 where
  pub of_table : {rows : List Row} → Loads text (rows_read rows) → width ≡ 16 * 2 ^ looks (table rows)
  pub of_none : {n p : ℕ} → Loads text (refused n p) → width ≡ 0
