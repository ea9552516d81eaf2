use Rattle.std.proofs.Common.{refl, arith}
use Rattle.truths.proofs.Handing.{all_seeded, handed_on}
use Rattle.truths.proofs.asked.Asked.settle.Goals as goal

pub loop-head-init : goal.loop-head-init
loop-head-init c = let e = c.seed.ensures in record { passed = omega arith; right = e.right; closed = all_seeded e }

pub loop-head-preserved : goal.loop-head-preserved
loop-head-preserved c =
    let v = c.loop-head.invariant in
    let e = c.hand_on.ensures in
    record {
      passed = omega (arith, e.grown.longer, c.loop-head-test.true);
      right = λ a. e.right (v.right a);
      closed = handed_on c.loop-head.found c.hand_on.new.found c.loop-head.head c.loop-head-test.true _ refl e v.closed;
    }
