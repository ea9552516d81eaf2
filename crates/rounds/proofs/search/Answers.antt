-- The cleared slices are those before round 1; the rounds and the marks leave the outcome.
use Rattle.std.proofs.Common.{rules}
use Rattle.rounds.proofs.Answer.{before_one, marks_from, answers_sat, answers_unsat, linked_here, used_here, answers_here}
use Rattle.rounds.proofs.search.Goals as goal

pub seen_rounds-found-requires : goal.seen_rounds-found-requires
seen_rounds-found-requires c =
    let r = c.requires in
    let d = c.clear.ensures in
    (r.0, rw d.1.same_codes r.1, before_one d.0 r.1)

pub invariant_of-tree-clause-linked : goal.invariant_of-tree-clause-linked
invariant_of-tree-clause-linked c =
    let r = c.requires in
    let d = c.clear.ensures in
    let e = c.seen_rounds-found.ensures in
    let m = c.args.memory.now in
    linked_here c.seen_rounds-found.new.lent (search rules) (search rules) (search rules) (rw d.1.same_codes (marks_from d.0 m.room m.room_used r.0 r.1 e.0 c.in-Sat.is).0)

pub returns-in-Sat : goal.returns-in-Sat
returns-in-Sat c =
    let r = c.requires in
    let d = c.clear.ensures in
    let e = c.seen_rounds-found.ensures in
    let m = c.args.memory.now in
    let k = used_here c.seen_rounds-found.new.lent (search rules) (search rules) (search rules) c.mark_used.ensures in (
      answers_here c.seen_rounds-found.new.lent (search rules) (search rules) (search rules) (answers_sat d.0 m.room m.room_used r.0 r.1 e.0 c.in-Sat.is (rw d.1.same_codes at k)),
      record { same_round = d.1.same_round; same_first = d.1.same_first; same_next = d.1.same_next; same_used = d.1.same_used; same_codes = d.1.same_codes },
    )

pub returns-in_default : goal.returns-in_default
returns-in_default c =
    let r = c.requires in
    let d = c.clear.ensures in
    let e = c.seen_rounds-found.ensures in
    let m = c.args.memory.now in (
      answers_here c.seen_rounds-found.new.lent (search rules) (search rules) (search rules) (answers_unsat d.0 m.room m.room_used r.0 r.1 e.0 c.in_default.is),
      record { same_round = d.1.same_round; same_first = d.1.same_first; same_next = d.1.same_next; same_used = d.1.same_used; same_codes = d.1.same_codes },
    )
