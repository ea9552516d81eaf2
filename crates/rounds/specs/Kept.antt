-- A lent slice is used in its first C places and untouched beyond.
use Rattle.std.specs.Prelude.{ℕ, ◌≤◌, List, ◌++◌, ◌≡◌, get_or, length, replicate, drop}
use Rattle.meaning.specs.Outcome.{Slices, absent}
use Rattle.rounds.specs.declared.lent.Lent.{Lent}
use Rattle.rounds.specs.declared.memory.Memory.{Memory}

-- What a slice is after its first c places are cleared to v.
abbrev pub cleared : {A : Type 0} → A → ℕ → List A → List A
cleared v c old = replicate c v ++ drop c old

-- The four slices as they stand.
abbrev pub lent : List ℕ → List ℕ → List ℕ → List ℕ → Slices
lent round firsts nexts used = record { round = round; firsts = firsts; nexts = nexts; used = used }

-- What the four slices hold.
abbrev pub held : Memory → Slices
held m = lent m.round.now m.first.now m.next.now m.used.now

-- The same three slices are lent to the rounds.
pub record SameLent (old new : Lent) : Type 0 where
  pub same_round : new.round.ghost_name ≡ old.round.ghost_name
  pub same_first : new.first.ghost_name ≡ old.first.ghost_name
  pub same_next : new.next.ghost_name ≡ old.next.ghost_name
  pub same_codes : new.codes ≡ old.codes

-- The same four slices are lent.
pub record SameMemory (old new : Memory) : Type 0 where
  pub same_round : new.round.ghost_name ≡ old.round.ghost_name
  pub same_first : new.first.ghost_name ≡ old.first.ghost_name
  pub same_next : new.next.ghost_name ≡ old.next.ghost_name
  pub same_used : new.used.ghost_name ≡ old.used.ghost_name
  pub same_codes : new.codes ≡ old.codes

-- All four slices cleared: no code is entered, none has a neighbour, none is used.
pub record Cleared (c : ℕ) (old new : Slices) : Type 0 where
  pub no_round : new.round ≡ cleared 0 c old.round
  pub no_first : new.firsts ≡ cleared absent c old.firsts
  pub no_next : new.nexts ≡ cleared absent c old.nexts
  pub no_used : new.used ≡ cleared 0 c old.used

-- A slice as long as before, and as it was from place c on.
pub record Kept (c : ℕ) (old new : List ℕ) : Type 0 where
  pub same_length : length new ≡ length old
  pub beyond : (i : ℕ) → c ≤ i → get_or new i 0 ≡ get_or old i 0

-- All four slices.
pub record KeptAll (c : ℕ) (old new : Slices) : Type 0 where
  pub kept_round : Kept c old.round new.round
  pub kept_first : Kept c old.firsts new.firsts
  pub kept_next : Kept c old.nexts new.nexts
  pub kept_used : Kept c old.used new.used
