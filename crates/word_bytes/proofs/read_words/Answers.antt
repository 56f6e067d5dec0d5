-- `read_words` writes the words of the bytes: after k turns the first k.
use native.Mathlib.Omega.{arith}
use mathlib.Core.Path.{◌∙◌}
use Rattle.word_bytes.proofs.Loops.{reading_turn, reading_done}
use Rattle.word_bytes.proofs.read_words.Goals as goal

pub loop-k-preserved : goal.loop-k-preserved
loop-k-preserved c =
    let f = c.as_chunks.ensures in
    reading_turn c.args.bytes.now c.args.words.now c.loop-k.words _ c.loop-k.k _ c.requires f.front f.front_len
    c.loop-k-test.true c.from_le_bytes.ensures c.loop-k.invariant

pub returns : goal.returns
returns c =
    let l = c.loop-k in
    let f = c.as_chunks.ensures in
    l.invariant ∙ reading_done c.args.bytes.now c.args.words.now l.k (omega (arith, f.front_len)) c.requires
