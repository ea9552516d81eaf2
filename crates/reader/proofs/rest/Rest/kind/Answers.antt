use Rattle.std.proofs.Common.{refl, ◌∙◌}
use Rattle.reader.specs.Parts.{first_of}
use Rattle.reader.proofs.Words.{first_word, word_found, word_missed, none_left}
use Rattle.reader.proofs.rest.Rest.kind.Goals as goal

pub loop-word-init : goal.loop-word-init
unfolding first_of first_word
loop-word-init c = (c.self.view_is, refl)

pub returns-in-Some-clause-takes : goal.returns-in-Some-clause-takes
returns-in-Some-clause-takes c =
    c.loop-word.invariant.1 ∙ word_found _ _ c.loop-word.word-index _ c.loop-word-test.true c.loop-word.self-inside.bytes.now c.loop-word.invariant.0 c.in-Some.ensures.cases.0 c.in-Some.ensures.cases.1

pub loop-word-preserved : goal.loop-word-preserved
loop-word-preserved c =
    (c.loop-word.invariant.0, c.loop-word.invariant.1 ∙ word_missed _ _ c.loop-word.word-index _ c.loop-word-test.true c.loop-word.self-inside.bytes.now c.loop-word.invariant.0 c.in_default.ensures.cases)

pub returns-clause-takes : goal.returns-clause-takes
returns-clause-takes c = c.loop-word.invariant.1 ∙ none_left _ _ c.loop-word.word-index c.loop-word-test.false
