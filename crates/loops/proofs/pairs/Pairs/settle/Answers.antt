-- A pair that a rule gives is joined, and one more is found.
use Rattle.std.proofs.Common.{◌<◌, ◌∙◌, sym, length, get_or, [], arith, refl}
use Rattle.meaning.specs.Table.{row_limit}
use Rattle.table.specs.Rows.{table_in}
use Rattle.loops.proofs.Marking.{square_more, pairs_more}
use Rattle.loops.proofs.Passes.{passed_one}
use Rattle.loops.proofs.Sound.{sound_more}
use Rattle.loops.proofs.pairs.Pairs.settle.Goals as goal

pub invariant_of-self : goal.invariant_of-self
invariant_of-self c =
    let s = c.args.self.now in
    let i = c.args.i in
    let few : i < row_limit = omega (arith, s.few) in
    let low : i < length s.found = omega (arith, s.square.high) in
    let inside : c.args.j < length (get_or s.found i []) = omega (arith, s.few, s.square.wide i few) in
    record {
      few = s.few;
      square = square_more row_limit s.found s.square i c.args.j few;
      in_range = s.in_range;
      sound = sound_more (table_in s.rows.now) s.found s.in_range s.sound i c.args.j low inside (sym c.given.ensures ∙ c.if-not-given.false);
    }

pub returns : goal.returns
returns c =
    let s = c.args.self.now in
    let i = c.args.i in
    let few : i < row_limit = omega (arith, s.few) in
    let low : i < length s.found = omega (arith, s.square.high) in
    let inside : c.args.j < length (get_or s.found i []) = omega (arith, s.few, s.square.wide i few) in
    (refl, passed_one s.found _ (pairs_more s.found i c.args.j low inside (sym c.joined.ensures ∙ c.if-joined.false)))
