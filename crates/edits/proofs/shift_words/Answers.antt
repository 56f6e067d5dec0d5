-- `shift_words` changes the words one after the other: before a turn those in front of it are done.
use native.Mathlib.Omega.{arith}
use Prim.Native.Nat.{◌+◌}
use Rattle.words.proofs.Parts.{part_at, length_part}
use Rattle.edits.proofs.Mapping.{mapped_none, mapped_more, mapped_back}
use Rattle.edits.proofs.shift_words.Goals as goal

pub loop-word-init : goal.loop-word-init
loop-word-init c = mapped_none _ _ _

pub overflow_add-word : goal.overflow_add-word
overflow_add-word c =
    let a = c.args in
    let i = c.loop-word.word-index in
    let n = length_part a.from a.to a.words.now c.requires.bounded.inside in
    let m = c.requires.bounded.most (a.from + i) (omega arith) (omega arith) in
    omega (arith, c.requires.small, c.loop-word.invariant.after i (omega arith), part_at a.from a.to i a.words.now (omega arith))

pub overflow_sub-word : goal.overflow_sub-word
overflow_sub-word c =
    let a = c.args in
    let i = c.loop-word.word-index in
    let n = length_part a.from a.to a.words.now c.requires.bounded.inside in
    let m = c.requires.bounded.least (a.from + i) (omega arith) (omega arith) in
    omega (arith, c.loop-word.invariant.after i (omega arith), part_at a.from a.to i a.words.now (omega arith))

pub loop-word-preserved : goal.loop-word-preserved
loop-word-preserved c = mapped_more c.loop-word.invariant (omega arith) (omega arith)

pub returns : goal.returns
returns c =
    let a = c.args in
    let n = length_part a.from a.to a.words.now c.requires.bounded.inside in
    mapped_back c.requires.bounded.ordered c.requires.bounded.inside (omega arith) c.loop-word.invariant
