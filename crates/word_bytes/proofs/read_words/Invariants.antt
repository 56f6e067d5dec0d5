-- `read_words` writes the words of the bytes: after k turns the first k.
use mathlib.Core.Path.{◌≡◌}
use lib.Seq.{paste}
use Rattle.word_bytes.specs.Bytes.{words_of}
use Rattle.word_bytes.proofs.read_words.Given as goal

abbrev pub invariant-loop-k : goal.invariant-loop-k
invariant-loop-k l = l.words ≡ paste l.initial.words 0 (words_of l.bytes) l.k
