-- `put_row` appends the lines of a row: after k turns those of its first k entries.
use Rattle.std.proofs.Common.{rules, ◌≡◌, [], ◌∷◌, length, length-append, arith}
use Rattle.std.proofs.lemmas.Slice.Zip.{zip_turn, zip_end}
use Rattle.text.proofs.Room.{lines_start, line_room, lines_turn}
use Rattle.text.proofs.put_row.Goals as goal

pub loop-column-init : goal.loop-column-init
loop-column-init c =
    let a = c.args in lines_start a.i a.columns.now a.values.now a.out.now a.from (omega arith)

pub put_line-at-requires : goal.put_line-at-requires
put_line-at-requires c =
    let l = c.loop-column in
    let a = c.args in
    let z = zip_turn a.columns.now a.values.now l.yielded c.into_iter-column-iterator.result l.column-iterator
    c.next.new.self
    c.next.result (search rules) (search rules) l.yielded_by (c.in-Some.column, c.in-Some.value) c.in-Some.is
    c.next.ensures.steps in
    rw (z.2 0, z.3 0)
    (line_room a.i a.columns.now a.values.now (length l.yielded) (length a.columns.now) a.from l.at
    a.out.now l.out z.0 c.requires.room l.invariant)

pub loop-column-preserved : goal.loop-column-preserved
loop-column-preserved c =
    let l = c.loop-column in
    let a = c.args in
    let z = zip_turn a.columns.now a.values.now l.yielded c.into_iter-column-iterator.result l.column-iterator
    c.next.new.self
    c.next.result (search rules) (search rules) l.yielded_by (c.in-Some.column, c.in-Some.value) c.in-Some.is
    c.next.ensures.steps in
    rw (length-append l.yielded ((c.in-Some.column, c.in-Some.value) ∷ []))
    (lines_turn a.i a.columns.now a.values.now (length l.yielded) l.invariant
    (rw (z.2 0, z.3 0) at c.put_line-at.ensures))

pub returns : goal.returns
returns c =
    let l = c.loop-column in
    let a = c.args in
    let z = zip_end a.columns.now a.values.now l.yielded c.into_iter-column-iterator.result l.column-iterator
    c.next.new.self
    c.next.result (search rules) (search rules) l.yielded_by c.in-None.is c.next.ensures.steps in
    let e : length l.yielded ≡ length a.columns.now = omega (arith, z, c.requires.even) in
    rw e at l.invariant
