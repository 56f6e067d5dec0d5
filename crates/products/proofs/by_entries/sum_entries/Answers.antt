-- `sum_entries` adds x times the row: the entries before p are added.
use native.Mathlib.Omega.{arith}
use mathlib.Core.Path.{refl}
use Rattle.products.proofs.ByEntries.{placing_start, placing_step, placing_done}
use Rattle.products.proofs.by_entries.sum_entries.Goals as goal

pub loop-p-init : goal.loop-p-init
loop-p-init c = placing_start c.requires.row c.requires.tracked (λ j. refl)

pub add_at-used-requires : goal.add_at-used-requires
add_at-used-requires c =
    let h = c.loop-p.invariant in
    let l = c.loop-p-test.true in
    record {
      in_reach = (c.requires.row.small _ l, omega (arith, c.requires.row_fits.small _ l, h.long));
      tracked = h.tracked;
    }

pub loop-p-preserved : goal.loop-p-preserved
loop-p-preserved c =
    let h = c.loop-p.invariant in
    let l = c.loop-p-test.true in
    placing_step c.requires.row h l (omega (arith, c.requires.row_fits.small _ l, h.long))
    c.apply_binary-product.ensures
    c.add_at-used.ensures

pub shape_of-sums : goal.shape_of-sums
shape_of-sums c = c.loop-p.invariant.long

pub returns : goal.returns
returns c = placing_done c.requires.row c.loop-p.invariant (omega arith)
