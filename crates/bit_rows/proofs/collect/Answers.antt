-- `collect` collects the columns of the words in use: those of words whose bits are no longer in `used` are written.
use native.Mathlib.Omega.{arith}
use Rattle.bit_rows.proofs.Collecting.{words_start, words_within, words_most, words_room, words_step}
use Rattle.bit_rows.proofs.Collecting.{words_done}
use Rattle.bit_rows.proofs.collect.Goals as goal

pub loop-used-init : goal.loop-used-init
loop-used-init c = words_start c.ranges.top.fits

pub overflow_cast-w : goal.overflow_cast-w
overflow_cast-w c = omega (arith, words_within c.requires.fact_1 c.loop-used.invariant c.loop-used-test.true)

pub bounds-map-w : goal.bounds-map-w
bounds-map-w c = words_within c.requires.fact_1 c.loop-used.invariant c.loop-used-test.true

pub collect_word-e-requires : goal.collect_word-e-requires
collect_word-e-requires c =
    let h = c.loop-used.invariant in
    let n = c.loop-used-test.true in
    record {
      base_in_bounds = (words_most c.requires.fact_1 h n, omega (arith, words_within c.requires.fact_1 h n));
      room = words_room c.requires.fact_1 h n c.requires.fact_2;
    }

pub loop-used-preserved : goal.loop-used-preserved
loop-used-preserved c =
    words_step c.requires.fact_1 c.loop-used.invariant c.loop-used-test.true
    c.collect_word-e.auto.oc c.collect_word-e.auto.ov c.collect_word-e.ensures

pub returns : goal.returns
returns c = words_done c.requires.fact_1 c.loop-used.invariant c.loop-used-test.false
