use Rattle.std.proofs.Common.{arith}
use Rattle.rounds.proofs.Seen.{none_kept}
use Rattle.rounds.proofs.seen_rounds.Goals as goal

pub see_all-requires : goal.see_all-requires
see_all-requires c = none_kept _ 16384 (omega arith)
