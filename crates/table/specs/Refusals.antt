-- 01, section 6: a refusal's number and place.
use Rattle.std.specs.Prelude.{ℕ}
use Rattle.meaning.specs.Table.{row_limit}
use Rattle.table.specs.declared.refusal.Refusal.{Refusal}
use Rattle.table.specs.declared.refusal.Refusal.TheVariants.{Empty, Malformed, TooMany, NotThere, Missing, Looping, Large, NoRoom, MalformedLine, FaultyLine}

abbrev pub number_of : Refusal → ℕ
number_of Empty = 1
number_of (Malformed i) = 2
number_of TooMany = 3
number_of (NotThere i) = 4
number_of (Missing i) = 5
number_of (Looping i) = 6
number_of Large = 7
number_of NoRoom = 8
number_of (MalformedLine i) = 9
number_of (FaultyLine i) = 10

abbrev pub place_of : Refusal → ℕ
place_of Empty = 0
place_of (Malformed i) = i
place_of TooMany = row_limit
place_of (NotThere i) = i
place_of (Missing i) = i
place_of (Looping i) = i
place_of Large = 0
place_of NoRoom = 0
place_of (MalformedLine i) = i
place_of (FaultyLine i) = i
