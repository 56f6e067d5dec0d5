-- `write_entries` writes the sections of columns and values: after i turns, the entries of the first i rows.
use native.Mathlib.Omega.{arith}
use mathlib.Core.Path.{◌≡◌, sym, ◌∙◌}
use Rattle.grid.specs.Entries.{entry_count}
use Rattle.matrix.specs.Layout.{rows, grid_of}
use Rattle.matrix.proofs.Facts.{row_span, matrix_made}
use Rattle.encoding.proofs.Canonical.{valid_row}
use Rattle.operations.specs.GridOperations.{transposed}
use Rattle.transpose.proofs.Transposed.{transposed_entries}
use Rattle.transpose.proofs.Sections.{placed_none, placed_next, placed_all}
use Rattle.transpose.proofs.write_entries.Goals as goal

-- that count is the number of entries of the transposed grid
count_is : (q : goal.After-entry_count-n)
    → q.entry_count-n.result ≡ entry_count (transposed (grid_of q.args.a.now))
count_is q = q.entry_count-n.ensures ∙ transposed_entries q.requires.matrix

pub entry_count-n-requires : goal.entry_count-n-requires
entry_count-n-requires c = c.requires.matrix.header

pub loop-i-init : goal.loop-i-init
loop-i-init c = placed_none c.requires.ready (count_is c)

pub place_row-requires : goal.place_row-requires
place_row-requires c =
    let h = c.loop-i.invariant in
    let l = c.loop-i-test.true in
    record {
      header = c.requires.matrix.header;
      row_span = row_span _ c.requires.matrix.starts _ l;
      row = valid_row _ (matrix_made _ c.requires.matrix) _ l;
      room = h.room;
      placed = h.placed;
    }

pub loop-i-preserved : goal.loop-i-preserved
loop-i-preserved c =
    placed_next c.loop-i.invariant c.loop-i-test.true c.place_row.auto.next c.place_row.auto.sections
    c.place_row.ensures

pub shape_of-sections : goal.shape_of-sections
shape_of-sections c = c.loop-i.invariant.room.sections_fit ∙ sym c.requires.ready.room.sections_fit

pub returns : goal.returns
returns c =
    let h = c.loop-i.invariant in
    let e : c.loop-i.i ≡ rows c.args.a.now = omega arith in
    placed_all (rw e at h.placed) h.room.sections_fit
