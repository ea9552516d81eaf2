-- What holds at the first child and at the next sibling holds at both sides.
use Rattle.meaning.specs.Table.{Side, first, next}

pub sides : (P : Side → Type 0) → P first → P next → (s : Side) → P s
sides P a b first = a
sides P a b next = b
