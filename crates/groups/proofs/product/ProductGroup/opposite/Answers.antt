use Rattle.std.proofs.Common.{◌+◌, ◌*◌, ◌<◌, arith}
use Rattle.groups.specs.Tables.{Opposite, counted, product}
use Rattle.groups.proofs.Products.{product_opposite}
use Rattle.groups.proofs.product.ProductGroup.opposite.Given as given
use Rattle.groups.proofs.product.ProductGroup.opposite.Goals as goal

-- the two opposites put together are small, and the opposite in the product
joined : (g : given.Over) (c : goal.After-opposite-lower g)
    → let G = g.G.Group.table c.args.self.now.first in let H = g.H.Group.table c.args.self.now.second in
    let r = c.opposite-upper.result * c.order-k.result + c.opposite-lower.result in
    (r < 128) × Opposite (product G H) (counted (product G H) c.args.a) r
joined g c =
    let p = c.args.self.now in
    product_opposite (g.G.Group.table p.first) (g.H.Group.table p.second) (g.met.G.Group.laws p.first) (g.met.H.Group.laws p.second)
    c.in-Some.n c.order-k.result c.in-Some.ensures.0 c.order-k.ensures c.in-Some.ensures.1
    c.args.a c.count-a.result c.opposite-upper.result c.opposite-lower.result
    c.count-a.ensures c.opposite-upper.ensures c.opposite-lower.ensures

pub overflow_mul-result : goal.overflow_mul-result
overflow_mul-result g c = omega (arith, (joined g c).0)

pub overflow_add-result : goal.overflow_add-result
overflow_add-result g c = omega (arith, (joined g c).0)

pub returns : goal.returns
returns g c = (joined g c).1
