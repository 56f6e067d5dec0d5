-- `shift_words` changes the words one after the other: before a turn those in front of it are done.
use Rattle.edits.specs.Changes.{shifted, Mapped}
use Rattle.edits.proofs.shift_words.Given as goal

abbrev pub invariant-loop-word : goal.invariant-loop-word
invariant-loop-word l = Mapped (shifted l.more l.less) 0 l.word-index l.initial.word-items l.word-items
