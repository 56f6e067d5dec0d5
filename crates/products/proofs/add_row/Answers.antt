-- `add_row` adds x times the row: the entries before p are added.
use native.Mathlib.Omega.{arith}
use mathlib.Core.Path.{refl}
use Rattle.products.proofs.Adding.{adding_start, adding_step, adding_done}
use Rattle.products.proofs.add_row.Goals as goal

pub loop-p-init : goal.loop-p-init
loop-p-init c = adding_start c.requires.entries c.requires.sized (λ j. refl)

pub loop-p-preserved : goal.loop-p-preserved
loop-p-preserved c =
    adding_step c.requires.entries c.loop-p.invariant c.loop-p-test.true c.apply_binary-product.ensures
    c.add_product-sum.ensures

pub returns : goal.returns
returns c = adding_done c.requires.entries c.loop-p.invariant (omega arith)
