-- `transpose` writes the transposed grid: the row starts, the sections of its entries, and the header.
use native.Mathlib.Omega.{arith}
use mathlib.Core.Path.{◌∙◌}
use Rattle.matrix.specs.Layout.{cols}
use Rattle.transpose.proofs.Passes.{columns_countable, counts_summable, starts_written, starts_ready}
use Rattle.transpose.proofs.Written.{starts_room, sections_room, size_fits, header_room, transposed_written}
use Rattle.transpose.proofs.transpose.Goals as goal

pub count_columns-requires : goal.count_columns-requires
count_columns-requires c = columns_countable c.requires.matrix c.entry_count-count.ensures

pub write_starts-requires : goal.write_starts-requires
write_starts-requires c =
    let m = c.requires.matrix in
    let n = c.entry_count-count.ensures in
    let fits = size_fits m n c.args.out.now c.requires.output_room in
    counts_summable m n c.count_columns.ensures c.count_columns.auto.counts
    (starts_room (cols c.args.a.now) c.args.out.now (omega (arith, fits)))

pub write_entries-requires : goal.write_entries-requires
write_entries-requires c =
    let m = c.requires.matrix in
    let n = c.entry_count-count.ensures in
    let fits = size_fits m n c.args.out.now c.requires.output_room in
    let next_long = c.write_starts.auto.counts ∙ c.count_columns.auto.counts in
    let sections_long = sections_room (cols c.args.a.now) c.args.out.now c.write_starts.new.starts
    c.write_starts.auto.starts c.entry_count-count.result fits in
    record {
      matrix = m;
      ready = starts_ready m n c.count_columns.ensures c.count_columns.auto.counts c.write_starts.ensures next_long
          sections_long;
    }

pub write_header-requires : goal.write_header-requires
write_header-requires c =
    header_room c.requires.matrix c.entry_count-count.ensures c.args.out.now c.requires.output_room (omega arith)

pub returns : goal.returns
returns c =
    let m = c.requires.matrix in
    let n = c.entry_count-count.ensures in
    let fits = size_fits m n c.args.out.now c.requires.output_room in
    let starts_long = starts_room (cols c.args.a.now) c.args.out.now (omega (arith, fits)) in
    let sections_long = sections_room (cols c.args.a.now) c.args.out.now c.write_starts.new.starts
    c.write_starts.auto.starts c.entry_count-count.result fits in
    c.write_header.ensures
    ∙ transposed_written m n c.args.out.now c.requires.output_room
    (starts_written m n c.count_columns.ensures c.count_columns.auto.counts c.write_starts.ensures
    (c.write_starts.auto.starts ∙ starts_long))
    (c.write_entries.auto.sections ∙ sections_long) c.write_entries.ensures
