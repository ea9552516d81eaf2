-- The directions of 01, as the code has them.
use Rattle.meaning.specs.Table as M
use Rattle.table.specs.declared.direction.Side.{Side}
use Rattle.table.specs.declared.direction.Side.TheVariants.{First, Next}
use Rattle.table.specs.declared.direction.Direction.{Direction}
use Rattle.table.specs.declared.direction.Direction.TheVariants.{Down, Up}

abbrev pub side : Side → M.Side
side First = M.first
side Next = M.next

abbrev pub dir : Direction → M.Dir
dir (Down s) = M.down (side s)
dir (Up s) = M.up (side s)
