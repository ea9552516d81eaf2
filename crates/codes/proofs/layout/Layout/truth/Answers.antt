-- Each way out is what the row says, by the truths of the rows that it names.
use Rattle.codes.proofs.Telling.{tells_yes, tells_no, tells_any_first, tells_any_second, tells_all_first, tells_all_second, tells_go}
use Rattle.codes.proofs.layout.Layout.truth.Goals as goal

pub returns-in-Yes : goal.returns-in-Yes
returns-in-Yes c = tells_yes c.args.self.now.laid c.requires c.args.code c.args.truths.now _ c.in-Yes.is

pub returns-in-No : goal.returns-in-No
returns-in-No c = tells_no c.args.self.now.laid c.requires c.args.code c.args.truths.now _ c.in-No.is

pub returns-then-is_true : goal.returns-then-is_true
returns-then-is_true c =
    tells_any_first c.args.self.now.laid c.requires c.args.code c.args.truths.now _ c.from-in-Any.ensures c.is_true.ensures c.in-Any.is c.if-is_true.true

pub returns-else-is_true : goal.returns-else-is_true
returns-else-is_true c =
    let first = tells_any_second c.args.self.now.laid c.requires c.args.code c.args.truths.now _ c.from-in-Any.ensures c.is_true.ensures in
    first c.from-else-is_true.ensures c.is_true-else-is_true.ensures c.in-Any.is c.if-is_true.false

pub returns-then-is_true-2 : goal.returns-then-is_true-2
returns-then-is_true-2 c =
    let first = tells_all_second c.args.self.now.laid c.requires c.args.code c.args.truths.now _ c.from-in-All.ensures c.is_true-in-All.ensures in
    first c.from-then-is_true-2.ensures c.is_true-then-is_true-2.ensures c.in-All.is c.if-is_true-2.true

pub returns-else-is_true-2 : goal.returns-else-is_true-2
returns-else-is_true-2 c =
    tells_all_first c.args.self.now.laid c.requires c.args.code c.args.truths.now _ c.from-in-All.ensures c.is_true-in-All.ensures c.in-All.is c.if-is_true-2.false

pub returns-in-Go : goal.returns-in-Go
returns-in-Go c = tells_go c.args.self.now.laid c.requires c.args.code c.args.truths.now _ c.in-Go.is c.from-in-Go.ensures c.has_bit.ensures
