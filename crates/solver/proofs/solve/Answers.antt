use Rattle.std.proofs.Common.{arith}
use Rattle.solver.proofs.Replying.{small_place}
use Rattle.solver.proofs.solve.Goals as goal

pub overflow_cast-result : goal.overflow_cast-result
overflow_cast-result c = omega (arith, small_place c.in-Err.ensures.replies)
