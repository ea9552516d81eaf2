-- 01, section 5: a round under way. Codes entered in it are not used in it, so every code looks for its neighbours among those of the rounds
-- before.
use Rattle.std.specs.Prelude.{ℕ, ◌+◌, ◌-◌, ◌<◌, ◌≤◌, Bool, true, false, List, [], ◌≡◌, get_or, Option, Some, None, unwrap_or}
use Rattle.codes.specs.Parts.{flag_by}
use Rattle.meaning.specs.Code.{codes, HasFlag, Takes}
use Rattle.meaning.specs.Marked.{Smallest}
use Rattle.meaning.specs.Outcome.{Slices, recorded, absent, RoundIs, NeighbourIs, Searched}
use Rattle.meaning.specs.Table.{Side, down, up, Table}
use Rattle.rounds.specs.Kept.{lent, KeptAll}
use Rattle.rounds.specs.declared.lent.Lent.{Lent}

-- The slices while the rounds run: `used` has no part in them.
abbrev pub running : List ℕ → List ℕ → List ℕ → Slices
running round firsts nexts = lent round firsts nexts []

-- The same, of the memory lent.
abbrev pub run : Lent → Slices
run l = running l.round.now l.first.now l.next.now

-- Code u is of a round before k, and t takes it at the side s.
pub record Taken (rows : Table) (round : List ℕ) (k : ℕ) (s : Side) (t u : ℕ) : Type 0 where
  pub is_code : u < codes rows
  pub entered : 0 < get_or round u 0
  pub before : get_or round u 0 < k
  pub takes : Takes rows s t u

-- What is seen of a code u before the look rows are: its round is before k, and it has the flag up at the side s.
pub record Candidate (round : List ℕ) (m k : ℕ) (s : Side) (u : ℕ) : Type 0 where
  pub entered : 0 < get_or round u 0
  pub before : get_or round u 0 < k
  pub flagged : flag_by m u (up s) ≡ true

-- The smallest number with a property, or that none has it.
abbrev pub Least : (ℕ → Type 0) → Option ℕ → Type 0
Least P (Some u) = P u × ((w : ℕ) → P w → u ≤ w)
Least P None = (w : ℕ) → P w → ⊥

-- What is recorded of code t at the side s when round k enters it: the smallest code that it takes, or 65535 where it has no flag there.
pub data Settles (rows : Table) (round : List ℕ) (k : ℕ) (s : Side) (t : ℕ) : ℕ → Type 0 where
  child : {u : ℕ} → Taken rows round k s t u → ((w : ℕ) → Taken rows round k s t w → u ≤ w) → Settles rows round k s t u
  childless : (HasFlag rows t (down s) → ⊥) → Settles rows round k s t absent

-- The side is flagged and there is no code to take, so that t is not entered.
pub record Stuck (rows : Table) (round : List ℕ) (k : ℕ) (s : Side) (t : ℕ) : Type 0 where
  pub flagged : HasFlag rows t (down s)
  pub none_taken : (w : ℕ) → Taken rows round k s t w → ⊥

-- A side is settled, with its neighbour or with none, or stuck.
abbrev pub SideIs : Table → List ℕ → ℕ → Side → ℕ → Option (Option ℕ) → Type 0
SideIs rows round k s t (Some found) = Settles rows round k s t (unwrap_or found absent)
SideIs rows round k s t None = Stuck rows round k s t

-- Round k is under way and has visited the codes below t: those are as round k leaves them, the others as the round before left them.
pub record Halfway (rows : Table) (k t : ℕ) (x : Slices) : Type 0 where
  pub running : 0 < k
  pub visited : (c : ℕ) → c < codes rows → c < t → RoundIs rows k c (get_or x.round c 0)
  pub waiting : (c : ℕ) → c < codes rows → t ≤ c → RoundIs rows (k - 1) c (get_or x.round c 0)
  pub neighbours : (s : Side) (c : ℕ) → c < codes rows → NeighbourIs rows x.round s c (get_or (recorded x s) c 0)

-- Round k has visited code t, and has entered it or not.
pub record Visited (rows : Table) (k t : ℕ) (new : Bool) (old x : Slices) : Type 0 where
  pub halfway : Halfway rows k (t + 1) x
  pub enters : new ≡ true → Smallest rows t k
  pub idle : new ≡ false → x.round ≡ old.round
  pub kept : KeptAll (codes rows) old x

-- Round k is over; `some` says whether it entered a code.
pub record Over (rows : Table) (k : ℕ) (some : Bool) (old x : Slices) : Type 0 where
  pub searched : Searched rows k x
  pub enters : some ≡ true → (c : ℕ) × Smallest rows c k
  pub idle : some ≡ false → Searched rows (k - 1) x
  pub kept : KeptAll (codes rows) old x
