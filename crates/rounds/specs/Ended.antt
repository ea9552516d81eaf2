-- 01, section 5: the rounds one after another, and how they end.
use Rattle.std.specs.Prelude.{ℕ, suc, ◌-◌, ◌<◌, ◌≤◌, List, ◌≡◌, get_or, Option}
use Rattle.meaning.specs.Code.{codes, Good}
use Rattle.meaning.specs.Marked.{Smallest}
use Rattle.meaning.specs.Outcome.{Slices, Searched}
use Rattle.meaning.specs.Table.{Table}
use Rattle.rounds.specs.Kept.{KeptAll}
use Rattle.rounds.specs.Round.{Least}
use Rattle.rounds.specs.declared.Found.{Found}
use Rattle.rounds.specs.declared.Found.TheVariants.{Sat, Unsat}

-- Of c codes, u is a good one of round k.
pub record GoodIn (rows : Table) (c : ℕ) (round : List ℕ) (k u : ℕ) : Type 0 where
  pub is_code : u < c
  pub good : Good rows u
  pub in_round : get_or round u 0 ≡ k

-- The smallest good code of round k, or that there is none.
abbrev pub TopIs : Table → ℕ → List ℕ → ℕ → Option ℕ → Type 0
TopIs rows c round k top = Least (GoodIn rows c round k) top

-- The rounds before k each entered a code, and none of them a good one.
pub record Before (rows : Table) (k : ℕ) (x : Slices) : Type 0 where
  pub counted : 0 < k
  pub searched : Searched rows (k - 1) x
  pub each_round : (j : ℕ) → 0 < j → j < k → (c : ℕ) × Smallest rows c j
  pub none_good : (c : ℕ) → c < codes rows → Good rows c → get_or x.round c 0 ≡ 0

-- Round h is the first that entered a good code, and the top is the smallest of these.
pub record Reached (rows : Table) (h top : ℕ) (x : Slices) : Type 0 where
  pub counted : 0 < h
  pub searched : Searched rows h x
  pub is_code : top < codes rows
  pub good : Good rows top
  pub in_round : get_or x.round top 0 ≡ h
  pub smallest_good : (c : ℕ) → c < codes rows → Good rows c → get_or x.round c 0 ≡ h → top ≤ c
  pub none_before : (c : ℕ) → c < codes rows → Good rows c → 0 < get_or x.round c 0 → h ≤ get_or x.round c 0

-- After r rounds one more enters nothing, and no code that was entered is good.
pub record Exhausted (rows : Table) (r : ℕ) (x : Slices) : Type 0 where
  pub searched : Searched rows r x
  pub ended : Searched rows (suc r) x
  pub none_good : (c : ℕ) → c < codes rows → Good rows c → get_or x.round c 0 ≡ 0
  pub each_round : (k : ℕ) → 0 < k → k ≤ r → (c : ℕ) × (c < codes rows) × (get_or x.round c 0 ≡ k)

-- What an answer says of the slices.
abbrev pub EndsAs : Table → Found → Slices → Type 0
EndsAs rows (Sat h top) x = Reached rows h top x
EndsAs rows (Unsat r) x = Exhausted rows r x

-- How the rounds ended.
pub record Ended (rows : Table) (found : Found) (old x : Slices) : Type 0 where
  pub ends : EndsAs rows found x
  pub kept : KeptAll (codes rows) old x
