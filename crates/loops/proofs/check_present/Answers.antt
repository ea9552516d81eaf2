use Rattle.std.proofs.Common.{◌∙◌, sym, arith}
use Rattle.loops.specs.Judged.{fine, large}
use Rattle.loops.proofs.Judging.{judged_looping, loop_free}
use Rattle.loops.proofs.check_present.Goals as goal

pub returns-in-Some : goal.returns-in-Some
returns-in-Some c =
    let p = c.closed-pairs in
    record {
      judged = judged_looping c.args.rows.now p.result.rows.now p.result.found p.ensures.0 p.result.sound c.requires.1 p.ensures.1 c.in-Some.i (sym c.first_looping.ensures ∙ c.in-Some.is);
      ordered = tt;
    }

pub order_of-order-requires : goal.order_of-order-requires
order_of-order-requires c =
    let p = c.closed-pairs in
    let free = loop_free c.args.rows.now p.result.rows.now p.result.found p.ensures.0 p.result.sound c.requires.1 p.ensures.1 (sym c.first_looping.ensures ∙ c.in_default.is) in
    rw p.ensures.0 (free, p.ensures.1)

pub returns-then-size_of-gt-SIZE : goal.returns-then-size_of-gt-SIZE
returns-then-size_of-gt-SIZE c =
    let p = c.closed-pairs in
    let free = loop_free c.args.rows.now p.result.rows.now p.result.found p.ensures.0 p.result.sound c.requires.1 p.ensures.1 (sym c.first_looping.ensures ∙ c.in_default.is) in
    record { judged = large c.requires.1 free (omega arith); ordered = rw p.ensures.0 at c.order_of-order.ensures }

pub returns : goal.returns
returns c =
    let p = c.closed-pairs in
    let free = loop_free c.args.rows.now p.result.rows.now p.result.found p.ensures.0 p.result.sound c.requires.1 p.ensures.1 (sym c.first_looping.ensures ∙ c.in_default.is) in
    record { judged = fine c.requires.1 free (omega arith); ordered = rw p.ensures.0 at c.order_of-order.ensures }
