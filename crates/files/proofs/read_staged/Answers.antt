-- `read_staged` reads the words of the bytes into `staged`, and takes them from there.
use native.Mathlib.Omega.{arith}
use mathlib.Core.Path.{sym, ap, ◌∙◌}
use lib.ListN.{length-take}
use Rattle.files.specs.File.{old_form}
use Rattle.files.proofs.Reading.{staged_old, staged_new, too_long, read_old, read_new}
use Rattle.files.proofs.read_staged.Goals as goal

pub returns-then-total-gt-MAX_FILE_BYTES : goal.returns-then-total-gt-MAX_FILE_BYTES
returns-then-total-gt-MAX_FILE_BYTES c = too_long _ _ c.if-total-gt-MAX_FILE_BYTES.true

pub slice_bounds-take-end-then-old_form : goal.slice_bounds-take-end-then-old_form
slice_bounds-take-end-then-old_form c = simp length-take (omega arith)

pub take-requires : goal.take-requires
take-requires c = simp length-take (omega arith)

pub returns-then-old_form : goal.returns-then-old_form
returns-then-old_form c =
    let b = c.args.bytes.now in
    let form = ap old_form (sym (staged_new b _ _ _ _ c.requires.front c.read_words.ensures)) ∙ sym c.old_form.ensures
    in
    read_old _ _ _ _ (form ∙ c.if-old_form.true) (rw (staged_old b _ _ _ _ c.requires.front c.read_words.ensures) at
    c.take.ensures)

pub returns-else-old_form : goal.returns-else-old_form
returns-else-old_form c =
    let b = c.args.bytes.now in
    let form = ap old_form (sym (staged_new b _ _ _ _ c.requires.front c.read_words.ensures)) ∙ sym c.old_form.ensures
    in
    read_new _ _ _ _ (form ∙ c.if-old_form.false)
    (rw (staged_new b _ _ _ _ c.requires.front c.read_words.ensures) at c.take-else-old_form.ensures)
