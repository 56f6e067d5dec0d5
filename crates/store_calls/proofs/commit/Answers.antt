-- `commit` puts the words of the final C into the slot, if there is room.
use native.Mathlib.Omega.{arith}
use mathlib.Core.Path.{refl, sym, subst}
use lib.Seq.{length-take-le}
use Rattle.matrix.specs.Facts.{Header}
use Rattle.store_calls.proofs.Commits.{size_counted, size_there, size_most, committed_refused, committed}
use Rattle.store_calls.proofs.commit.Goals as goal

pub row_count-rows-requires : goal.row_count-rows-requires
row_count-rows-requires c = subst Header (sym c.contents.ensures.words) c.requires.held.matrix.header

pub slice_bounds-put-end : goal.slice_bounds-put-end
slice_bounds-put-end c =
    sym (length-take-le _ c.args.work.now (size_there c.args.n _ c.args.slot c.args.store.now _ _
    c.row_count-rows.ensures c.contents.ensures.words c.requires.there))

pub put-requires : goal.put-requires
put-requires c =
    let e = size_counted c.args.n _ c.args.slot c.args.store.now _
    c.row_count-rows.ensures c.contents.ensures.words in
    let t = length-take-le _ c.args.work.now (size_there c.args.n _ c.args.slot c.args.store.now _ _
    c.row_count-rows.ensures c.contents.ensures.words c.requires.there) in
    let m = size_most _ _ _ c.requires.held c.requires.few e in
    record {
      sections_1 = c.requires.store.sections;
      sections_2 = c.requires.slot;
      end_value_1 = c.requires.ends;
      end_value_2 = c.requires.store.most;
      end_value_3 = omega arith;
    }

pub returns-then-not-put : goal.returns-then-not-put
returns-then-not-put c =
    committed_refused _ _ _ _ _ (size_counted c.args.n _ c.args.slot c.args.store.now _
    c.row_count-rows.ensures c.contents.ensures.words)
    (size_there c.args.n _ c.args.slot c.args.store.now _ _
    c.row_count-rows.ensures c.contents.ensures.words c.requires.there) c.put.ensures _
    c.if-not-put.true refl

pub returns : goal.returns
returns c =
    committed _ _ _ _ _ (size_counted c.args.n _ c.args.slot c.args.store.now _
    c.row_count-rows.ensures c.contents.ensures.words)
    (size_there c.args.n _ c.args.slot c.args.store.now _ _
    c.row_count-rows.ensures c.contents.ensures.words c.requires.there) c.put.ensures c.if-not-put.false
