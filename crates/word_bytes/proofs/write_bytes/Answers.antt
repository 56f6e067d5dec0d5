-- `write_bytes` writes the bytes of the words: after k turns those of the first k.
use native.Mathlib.Omega.{arith}
use mathlib.Core.Path.{◌∙◌}
use Rattle.append.proofs.Appending.{appended_none}
use Rattle.word_bytes.specs.Bytes.{bytes_of}
use Rattle.word_bytes.proofs.Loops.{writing_turn}
use Rattle.word_bytes.proofs.write_bytes.Goals as goal

pub loop-k-init : goal.loop-k-init
unfolding bytes_of
loop-k-init c = appended_none c.args.bytes.now 0 (omega arith)

pub loop-k-preserved : goal.loop-k-preserved
loop-k-preserved c =
    writing_turn c.args.words.now c.loop-k.k _ (omega arith) c.requires (omega arith)
    (c.copy_from_slice.ensures.after ∙ c.to_le_bytes.ensures) c.loop-k.invariant
