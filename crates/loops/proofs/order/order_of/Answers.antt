-- The rows' numbers are moved alone, and stand by their reach.
use Rattle.std.proofs.Common.{◌≡◌, ◌∙◌, ◌<◌, ◌-◌, ℕ, get_or, length, replicate, arith, sym, rules, length-take-le}
use Rattle.std.proofs.lemmas.List.{get_or_default}
use Rattle.std.proofs.lemmas.List.Sorted.{IsNonDecreasingBy-from_sort_by_key}
use Rattle.meaning.specs.Table.{row_limit}
use Rattle.table.specs.Rows.{table_in}
use Rattle.counts.proofs.Laws.{table_long}
use Rattle.loops.specs.Arranging.{reach}
use Rattle.loops.proofs.Exists.{marks_of}
use Rattle.loops.proofs.Ordering.{ordered_rows}
use Rattle.loops.proofs.order.order_of.Goals as goal

pub returns : goal.returns
returns c =
    let p = c.args.pairs.now in
    let rows = table_in p.rows.now in
    let n = length p.rows.now in
    let numbers = c.loop-i.place-items in
    let s = c.sort_unstable_by_key in
    let long : length numbers ≡ n = c.loop-i.auto.place-items ∙ length-take-le n (replicate row_limit 0) p.few in
    let stands : (k : ℕ) → k < n → get_or numbers k 0 ≡ n - 1 - k = λ k h. c.loop-i.invariant k (omega (arith, long, c.loop-i-test.false)) in
    ordered_rows rows p.found p.in_range (marks_of rows p.in_range p.found p.sound) c.requires.1 c.requires.0
    row_limit n (sym (table_long p.rows.now)) numbers s.new.self long
    (λ i h. let k = n - 1 - i in (k, omega (arith, long), get_or_default numbers k i 0 (omega (arith, long)) ∙ (stands k (omega arith) ∙ omega arith)))
    (λ k h. rw (stands k h) (omega arith))
    s.ensures.permutation
    (IsNonDecreasingBy-from_sort_by_key (reach n p.found) _ s.ensures.sorted (λ a r f k. search rules))
