-- `multiply` gives the word of the product.
use Rattle.twos_complement.proofs.Products.{product_is}
use Rattle.twos_complement.proofs.multiply.Goals as goal

pub returns : goal.returns
returns c = product_is c.ranges.x.fits c.ranges.y.fits
