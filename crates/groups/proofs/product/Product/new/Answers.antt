use Rattle.std.proofs.Common.{refl}
use Rattle.groups.specs.Products.{parts_laws}
use Rattle.groups.proofs.product.Product.new.Goals as goal

pub returns-in-Some : goal.returns-in-Some
returns-in-Some g c =
    let first = c.args.first in
    let second = c.args.second in
    let most = rw c.in-Some.ensures.0 at c.in-Some.ensures.1 in (
      refl,
      refl,
      (parts_laws (g.G.Group.table first) (g.H.Group.table second) (g.met.G.Group.laws first) (g.met.H.Group.laws second) most).odd_order,
    )
