-- The invariant: the rest is as it was, and its kind is the one of the words still to be tried.
use Rattle.std.proofs.Common.{◌≡◌, drop}
use Rattle.reader.specs.Parts.{word_in}
use Rattle.reader.proofs.Words.{first_word}
use Rattle.reader.proofs.rest.Rest.kind.Given as goal

abbrev pub invariant-loop-word : goal.invariant-loop-word
invariant-loop-word l = (l.self-inside.bytes.now ≡ l.fn.self) × (word_in l.fn.self ≡ first_word (drop l.word-index l.word-items) l.fn.self)
