use Rattle.std.proofs.Common.{arith}
use Rattle.meaning.specs.Table.{first, next}
use Rattle.rounds.proofs.Marks.{visit_both}
use Rattle.rounds.proofs.tree.Tree.hand_on.Goals as goal

pub mark-requires : goal.mark-requires
mark-requires c = let p = c.requires in λ n. omega (arith, c.args.self.now.linked.is_code first c.args.t p.1 n, p.0)

pub mark-requires-2 : goal.mark-requires-2
mark-requires-2 c = let p = c.requires in λ n. omega (arith, c.args.self.now.linked.is_code next c.args.t p.1 n, c.mark.auto.used, p.0)

pub returns : goal.returns
returns c =
    let p = c.requires in
    visit_both c.args.self.now.linked p.1 c.if-self-t.false c.if-used-t-ne1.false p.0 c.mark.ensures c.mark-2.ensures
