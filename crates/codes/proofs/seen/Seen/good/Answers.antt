use Rattle.std.proofs.Common.{sym, ◌∙◌}
use Rattle.meaning.specs.Table.{first, next, up}
use Rattle.table.proofs.Decides.{never, refuted}
use Rattle.codes.proofs.Takes.{flag_is}
use Rattle.codes.proofs.seen.Seen.good.Goals as goal

pub returns-then-has_flag : goal.returns-then-has_flag
returns-then-has_flag c =
    never (λ g. g.no_parent first ((flag_is c.args.self.now.layout.looks.looking c.args.code (up first) c.has_flag.ensures).sound c.if-has_flag.true))

pub returns-then-has_flag-2 : goal.returns-then-has_flag-2
returns-then-has_flag-2 c = never (λ g. g.no_parent next ((flag_is c.args.self.now.layout.looks.looking c.args.code (up next) c.has_flag-2.ensures).sound c.if-has_flag-2.true))

pub returns : goal.returns
returns c =
    let l = c.args.self.now.layout.looks.looking in
    let e = c.has_bit.ensures in
    let q = (rw c.sighted.ensures.0 at c.sighted.ensures.1).question in
    record {
      sound = λ t. record {
        no_parent = elim [
          | first ↦ refuted (flag_is l c.args.code (up first) c.has_flag.ensures) c.if-has_flag.false
          | next ↦ refuted (flag_is l c.args.code (up next) c.has_flag-2.ensures) c.if-has_flag-2.false
        ];
        true_here = q.sound (sym e ∙ t);
      };
      complete = λ g. e ∙ q.complete g.true_here;
    }
