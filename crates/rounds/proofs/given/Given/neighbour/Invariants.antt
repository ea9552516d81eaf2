-- No code below u is taken; and all look rows below j let t take u.
use Rattle.std.proofs.Common.{ℕ, ◌<◌, ◌≡◌, get_or, None}
use Rattle.codes.specs.Fits.{FitsRow}
use Rattle.rounds.specs.Round.{Taken}
use Rattle.rounds.specs.Tables.{table_given}
use Rattle.table.specs.Directions.{side}
use Rattle.rounds.proofs.given.Given.neighbour.Given as goal

abbrev pub invariant-loop-j : goal.invariant-loop-j
invariant-loop-j l = (i : ℕ) → i < l.j → FitsRow (table_given l.self) (side l.side) l.t l.u (get_or l.self.seen.layout.looks.look.now i 0)

abbrev pub invariant-codes : goal.invariant-codes
invariant-codes l = (l.found ≡ None) × ((w : ℕ) → w < l.u → Taken (table_given l.self) l.memory.round.now l.k (side l.side) l.t w → ⊥)
