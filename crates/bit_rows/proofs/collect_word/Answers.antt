-- `collect_word` collects the columns of one word: those whose bits are no longer in `rest` are written.
use native.Mathlib.Omega.{arith}
use Rattle.bit_rows.proofs.Collecting.{word_within, word_most, word_in_cols, word_in_vals}
use Rattle.bit_rows.proofs.Collecting.{word_step, word_done}
use Rattle.bit_rows.proofs.collect_word.Goals as goal

pub overflow_cast-j : goal.overflow_cast-j
overflow_cast-j c = omega (arith, word_within c.loop-rest.invariant c.loop-rest-test.true)

pub overflow_add-j : goal.overflow_add-j
overflow_add-j c = omega (arith, word_within c.loop-rest.invariant c.loop-rest-test.true)

pub bounds-oc-e : goal.bounds-oc-e
bounds-oc-e c =
    let h = c.loop-rest.invariant in
    let more = c.loop-rest-test.true in
    omega (arith, word_most h more, word_in_cols h more c.requires.room)

pub bounds-ov-j : goal.bounds-ov-j
bounds-ov-j c = word_in_vals c.loop-rest.invariant c.loop-rest-test.true c.requires.room

pub bounds-ov-e : goal.bounds-ov-e
bounds-ov-e c =
    let h = c.loop-rest.invariant in
    let more = c.loop-rest-test.true in
    omega (arith, word_most h more, word_in_vals h more c.requires.room)

pub overflow_add-e : goal.overflow_add-e
overflow_add-e c =
    let h = c.loop-rest.invariant in
    let more = c.loop-rest-test.true in
    omega (arith, word_within h more, word_most h more)

pub loop-rest-preserved : goal.loop-rest-preserved
loop-rest-preserved c = word_step c.loop-rest.invariant c.loop-rest-test.true c.requires.room

pub returns : goal.returns
returns c = word_done c.loop-rest.invariant c.loop-rest-test.false
