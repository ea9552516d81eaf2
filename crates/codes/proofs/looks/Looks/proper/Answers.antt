use Rattle.std.proofs.Common.{rules, ℕ, arith, get_or, refl}
use Rattle.std.proofs.lemmas.Iterator.{cases_from_all, YieldsList-from_range}
use Rattle.table.specs.Rows.{table_in}
use Rattle.table.proofs.Decides.{never, refuted, same_as}
use Rattle.codes.specs.Fits.{Flagged}
use Rattle.codes.proofs.Apart.{parents_decide}
use Rattle.codes.proofs.Every.{every}
use Rattle.codes.proofs.Takes.{proper_rows}
use Rattle.codes.proofs.looks.Looks.proper.Goals as goal

pub returns-then-not-two_parents : goal.returns-then-not-two_parents
returns-then-not-two_parents c =
    let s = c.args.self.now in
    let d = parents_decide (table_in s.rows.now) c.args.code s.parts.m s.looking.width.is_m c.two_parents.ensures in
    let P = λ (j : ℕ). Flagged (table_in s.rows.now) c.args.code (get_or s.look.now j 0) in
    let r = cases_from_all _ _ _ P (λ (j : ℕ). P j → ⊥) c.all.ensures.ran (YieldsList-from_range 0 s.parts.m s.parts.m refl (omega arith)) (λ x q k. search rules) (λ x q k. search rules) in
    let e = every P s.parts.m _ r in
    let rows = proper_rows s.looking c.args.code in
    same_as (λ f. rows.1 (λ p q. refuted d c.if-not-two_parents.true (p, q), f), λ p. (rows.0 p).1) e

pub returns-else-not-two_parents : goal.returns-else-not-two_parents
returns-else-not-two_parents c =
    let s = c.args.self.now in
    let d = parents_decide (table_in s.rows.now) c.args.code s.parts.m s.looking.width.is_m c.two_parents.ensures in
    rw c.if-not-two_parents.false (never (λ p. let f = d.sound c.if-not-two_parents.false in p.one_parent f.0 f.1))
