-- Each way out of a visit is one law of Visits.
use Rattle.std.proofs.Common.{refl}
use Rattle.table.proofs.Decides.{refuted}
use Rattle.rounds.proofs.Places.{still}
use Rattle.rounds.proofs.Visits.{entered_before, not_proper, stuck_there, goes_in}
use Rattle.rounds.proofs.given.Given.enter_one.Goals as goal
use Rattle.rounds.proofs.given.Given.enter_one.Goals.{then-lent-t-ne0-via-then-lent-t-ne0, then-lent-t-ne0-via-else-lent-t-ne0+then-not-proper}

pub returns-then-lent-t-ne0 : goal.returns-then-lent-t-ne0
returns-then-lent-t-ne0 c =
    let a = c.args.self.now.accepted in
    let r = c.requires in
    elim c.then-lent-t-ne0.branch [
      | then-lent-t-ne0-via-then-lent-t-ne0 w ↦ (entered_before a r.0 c.args.lent.now.room r.1 r.2 w.if-lent-t-ne0.true, still)
      | then-lent-t-ne0-via-else-lent-t-ne0+then-not-proper w ↦
          (not_proper a r.0 c.args.lent.now.room r.1 r.2 w.if-lent-t-ne0.false (refuted w.proper.ensures w.if-not-proper.true), still)
    ]

pub returns-in_default : goal.returns-in_default
returns-in_default c =
    let r = c.requires in
    (stuck_there c.args.self.now.accepted r.0 c.args.lent.now.room r.1 r.2 c.if-lent-t-ne0.false c.in_default.ensures, still)

pub returns-in_default-settle : goal.returns-in_default-settle
returns-in_default-settle c =
    let r = c.requires in
    (stuck_there c.args.self.now.accepted r.0 c.args.lent.now.room r.1 r.2 c.if-lent-t-ne0.false c.in_default-settle.ensures, still)

pub returns : goal.returns
returns c =
    let r = c.requires in (
      rw (c.unwrap_or.ensures, c.unwrap_or-2.ensures)
          (goes_in c.args.self.now.accepted r.0 c.args.lent.now.room r.1 r.2 c.if-lent-t-ne0.false (c.proper.ensures.sound c.if-not-proper.false)
          c.in-Some.ensures c.in-Some-settle.ensures),
      record { same_round = refl; same_first = refl; same_next = refl; same_codes = refl },
    )
