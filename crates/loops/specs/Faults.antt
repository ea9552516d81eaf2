-- What a fault of a table is refused as: the order of a table that is too large goes unsaid.
use Rattle.table.specs.declared.refusal.Refusal.{Refusal}
use Rattle.table.specs.declared.refusal.Refusal.TheVariants as R
use Rattle.loops.specs.declared.Fault.{Fault}
use Rattle.loops.specs.declared.Fault.TheVariants.{Missing, Looping, Large}

abbrev pub as_refusal : Fault → Refusal
as_refusal (Missing i) = R.Missing i
as_refusal (Looping i) = R.Looping i
as_refusal (Large order) = R.Large
