use Rattle.std.proofs.Common.{suc, ◌-◌, ◌<◌, ◌≤◌, arith, ap, ◌∙◌}
use Rattle.std.specs.Int.{from_bool}
use Rattle.codes.proofs.Packing.{bit_most, byte_is, packed_none, packed_on, packed_last, packed_small}
use Rattle.codes.specs.Truths.{true_by}
use Rattle.codes.proofs.layout.Layout.pack.Goals as goal

pub loop-j-init : goal.loop-j-init
loop-j-init c = let m = c.args.self.now.looks.parts.m in packed_none _ m m (suc m) (omega arith)

-- at most 12 bits are packed before the last
pub overflow_mul-sight : goal.overflow_mul-sight
overflow_mul-sight c =
    let few : c.args.self.now.looks.parts.m - c.loop-j.j ≤ 13 = omega (arith, c.args.self.now.laid.width.small) in
    let small : c.loop-j.sight < 8192 = packed_small _ _ (suc c.loop-j.j) c.loop-j.sight few c.loop-j.invariant in
    omega arith

pub overflow_add-sight : goal.overflow_add-sight
overflow_add-sight c =
    let few : c.args.self.now.looks.parts.m - c.loop-j.j ≤ 13 = omega (arith, c.args.self.now.laid.width.small) in
    let small : c.loop-j.sight < 8192 = packed_small _ _ (suc c.loop-j.j) c.loop-j.sight few c.loop-j.invariant in
    omega (arith, byte_is c.is_true.result, bit_most c.is_true.result, c.from.ensures)

pub loop-j-preserved : goal.loop-j-preserved
loop-j-preserved c =
    let l = c.loop-j in
    let bit = c.from.ensures ∙ ap from_bool (c.is_true.ensures ∙ ap (true_by c.args.truths.now) c.subject_of.ensures) in
    packed_on _ _ l.j l.sight c.from.result (omega arith) l.auto.j l.invariant bit

pub returns-2 : goal.returns-2
returns-2 c =
    let l = c.loop-j in
    let bit = c.from.ensures ∙ ap from_bool (c.is_true.ensures ∙ ap (true_by c.args.truths.now) c.subject_of.ensures) in
    packed_last _ c.args.self.now.looks.parts.m l.j l.sight c.from.result (omega arith) l.invariant bit
