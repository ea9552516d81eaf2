use Rattle.std.proofs.Common.{sym, ap, ◌∙◌}
use Rattle.std.proofs.Math.Bool.{not}
use Rattle.codes.specs.Parts.{flag_by}
use Rattle.table.proofs.Decides.{same_as, implied_left, implied_right}
use Rattle.codes.proofs.Apart.{flag_decides}
use Rattle.codes.proofs.Asking.{asks}
use Rattle.codes.proofs.Looking.{look_bit}
use Rattle.codes.proofs.looks.Looks.flagged.Goals as goal

pub returns-then-not-has_bit : goal.returns-then-not-has_bit
returns-then-not-has_bit c =
    let l = c.args.self.now.looking in
    let cell = sym c.look_row.ensures ∙ c.in-Go.is in
    same_as (asks l c.requires cell c.args.code) (implied_left _ (look_bit l c.args.j c.requires c.args.code c.has_bit.ensures) (ap not c.if-not-has_bit.true))

pub returns-else-not-has_bit : goal.returns-else-not-has_bit
returns-else-not-has_bit c =
    let l = c.args.self.now.looking in
    let cell = sym c.look_row.ensures ∙ c.in-Go.is in
    let flag = c.has_flag.ensures ∙ ap (flag_by c.args.self.now.parts.m c.args.code) c.of.ensures in
    same_as
    (asks l c.requires cell c.args.code)
    (implied_right _ (look_bit l c.args.j c.requires c.args.code c.has_bit.ensures) (ap not c.if-not-has_bit.false) (flag_decides _ _ _ l.width.is_m _ flag))
