-- `commit` copies the matrix if it fits.
use native.Mathlib.Omega.{arith}
use Prim.Native.Nat.{ℕ, ◌≤◌, ◌<◌}
use mathlib.Core.Path.{refl, ap, ◌∙◌}
use lib.ListN.{length, length-take}
use borrow.Author.Tests.{le-leb, lt-leb}
use Rattle.grid.specs.Revision.{next_revision}
use Rattle.matrix.specs.Layout.{rows, size_of}
use Rattle.calls.proofs.Attempts.{copied_revised}
use Rattle.calls.proofs.commit.Goals as goal

pub returns-then-c-size : goal.returns-then-c-size
returns-then-c-size c =
    let l : length c.args.c.now < size_of (rows c.args.c.now) c.args.n = omega arith in
    record { answer_is = rw (lt-leb _ _ l); words_are = refl }

pub slice_bounds-copy_into-end : goal.slice_bounds-copy_into-end
slice_bounds-copy_into-end c = simp length-take (omega arith)

pub copy_into-requires : goal.copy_into-requires
copy_into-requires c = simp length-take (omega arith)

pub set_revision-requires : goal.set_revision-requires
set_revision-requires c =
    let h = c.requires.header.fits in
    omega (arith, c.copy_into.auto.dst)

pub returns : goal.returns
returns c =
    let v = c.next_revision-revision.ensures ∙ ap next_revision c.revision.ensures in
    let l : size_of (rows c.args.c.now) c.args.n ≤ length c.args.c.now = omega arith in
    record {
      answer_is = rw (le-leb _ _ l);
      words_are = copied_revised _ _ c.set_revision.ensures v c.copy_into.ensures
          (ap (λ (r : ℕ). size_of r c.args.n) c.row_count.ensures);
    }
