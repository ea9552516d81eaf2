-- One line's entries among the spots, as they are stored. Only contracts inside this crate cite it: what all of them say is in Spots.
use Rattle.std.specs.Prelude.{ℕ, ◌<◌, List, Option, Some, None, set}
use Rattle.std.proofs.Math.Decide.{dec_lt}
use Rattle.std.proofs.Math.Logic.{ite}
use Rattle.meaning.specs.Table.{Side, first, next, Dir, down, up}
use Rattle.sheets.specs.Lines.{line_limit}
use Rattle.sheets.specs.declared.Line.{Line}
use Rattle.truths.specs.declared.spots.Spot.{Spot}
use Rattle.truths.specs.Spots.{spot_at}

-- What a field names has room among them.
abbrev pub Within : Option ℕ → Type 0
Within None = Unit {0}
Within (Some q) = q < line_limit

-- The spot with another neighbour, or another name.
abbrev pub with_near : Dir → ℕ → Spot → Spot
with_near (down first) q s = record s { first = Some q }
with_near (down next) q s = record s { next = Some q }
with_near (up first) q s = record s { first_of = Some q }
with_near (up next) q s = record s { next_of = Some q }

abbrev pub with_name : ℕ → Spot → Spot
with_name n s = record s { name = n }

-- Line p with a neighbour in a direction.
abbrev pub joined : Dir → ℕ → ℕ → List Spot → List Spot
joined d p q spots = set spots p (with_near d q (spot_at spots p))

-- The field of line p at a side: a step down from p, and a step up from the line that it names.
abbrev pub linked : Side → ℕ → Option ℕ → List Spot → List Spot
linked s p None spots = spots
linked s p (Some q) spots = joined (up s) q p (joined (down s) p q spots)

-- The line p, where n is N of the table.
abbrev pub placed : ℕ → ℕ → Line → List Spot → List Spot
placed n p l spots = linked next p l.next (linked first p l.first (set spots p (with_name (ite (dec_lt l.name n) l.name 0) (spot_at spots p))))
