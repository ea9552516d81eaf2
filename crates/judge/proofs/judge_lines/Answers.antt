-- Memory that is too short is refused; else what is found is what is written.
use Rattle.judge.proofs.Judging.{table_few, has_room, no_room, writes}
use Rattle.judge.proofs.judge_lines.Goals as goal

pub truths_of-truth-requires : goal.truths_of-truth-requires
truths_of-truth-requires c =
    let r = c.requires in
    (table_few c.args.rows.now r.admissible.few_rows, r.admissible.in_range, r.few_lines, r.fault_free)

pub returns-then-out-length_of-clause-judges : goal.returns-then-out-length_of-clause-judges
returns-then-out-length_of-clause-judges c = no_room c.requires c.length_of.ensures.output_length c.if-out-length_of.true

pub write-requires : goal.write-requires
write-requires c = (c.requires.few_lines, has_room c.requires _ c.length_of.ensures.output_length c.if-out-length_of.false)

pub returns-clause-judges : goal.returns-clause-judges
returns-clause-judges c = writes c.requires c.truths_of-truth.ensures c.write.ensures c.length_of.ensures.output_length c.if-out-length_of.false
