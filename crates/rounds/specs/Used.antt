-- 01, section 5: used is 1 for codes met from the top through first and next, else 0. A neighbour is of an earlier round, so one pass over the
-- codes for each round, from the height down, meets them all.
use Rattle.std.specs.Prelude.{ℕ, ◌<◌, ◌≤◌, cond, List, ◌≢◌, ◌≡◌, eqb, get_or, set, Option, Some, None}
use Rattle.meaning.specs.Outcome.{Slices, recorded, absent, Met, UsedIs}
use Rattle.meaning.specs.Table.{Side}
use Rattle.rounds.specs.Kept.{Kept}

-- The code that first or next holds, if there is one.
abbrev pub code_in : ℕ → Option ℕ
code_in u = cond (eqb u absent) None (Some u)

-- `used` with code u marked, unless u says that there is none.
unfoldable pub marked : ℕ → List ℕ → List ℕ
marked u used = cond (eqb u absent) used (set used u 1)

-- Of c codes each neighbour that is there is one of an earlier round.
pub record Linked (c : ℕ) (x : Slices) : Type 0 where
  pub is_code : (s : Side) (t : ℕ) → t < c → get_or (recorded x s) t 0 ≢ absent → get_or (recorded x s) t 0 < c
  pub entered : (s : Side) (t : ℕ) → t < c → get_or (recorded x s) t 0 ≢ absent → 0 < get_or x.round (get_or (recorded x s) t 0) 0
  pub earlier : (s : Side) (t : ℕ) → t < c → get_or (recorded x s) t 0 ≢ absent → get_or x.round (get_or (recorded x s) t 0) 0 < get_or x.round t 0

-- Only codes met are marked; and the marked codes of the rounds above r, and those of round r that are below t, have marked their neighbours.
pub record Marking (c : ℕ) (x : Slices) (top r t : ℕ) (used : List ℕ) : Type 0 where
  pub marks : (u : ℕ) → u < c → get_or used u 0 ≢ 0 → (get_or used u 0 ≡ 1) × Met x top u
  pub top_marked : get_or used top 0 ≡ 1
  pub handed_on : (u : ℕ) → u < c → get_or used u 0 ≡ 1 → r ≤ get_or x.round u 0 → (get_or x.round u 0 ≡ r → u < t)
      → (s : Side) → get_or (recorded x s) u 0 ≢ absent → get_or used (get_or (recorded x s) u 0) 0 ≡ 1

-- The codes of round r from t up to n have marked their neighbours, whatever the top is.
pub record Handed (c : ℕ) (x : Slices) (r t n : ℕ) (old new : List ℕ) : Type 0 where
  pub kept : Kept c old new
  pub hands : (top : ℕ) → Marking c x top r t old → Marking c x top r n new

-- `used` as the top leaves it, where it was 0 before.
pub record Used (c : ℕ) (x : Slices) (top : ℕ) (old new : List ℕ) : Type 0 where
  pub kept : Kept c old new
  pub is_used : (u : ℕ) → u < c → UsedIs x top u (get_or new u 0)
