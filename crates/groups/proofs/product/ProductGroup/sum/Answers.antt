use Rattle.std.proofs.Common.{◌+◌, ◌*◌, ◌≡◌, ◌<◌, arith}
use Rattle.groups.specs.Tables.{counted, product}
use Rattle.groups.proofs.Products.{product_sum}
use Rattle.groups.proofs.product.ProductGroup.sum.Given as given
use Rattle.groups.proofs.product.ProductGroup.sum.Goals as goal

-- the two sums put together are small, and the sum of the product
joined : (g : given.Over) (c : goal.After-sum-lower g)
    → let G = g.G.Group.table c.args.self.now.first in let H = g.H.Group.table c.args.self.now.second in
    let r = c.sum-upper.result * c.order-k.result + c.sum-lower.result in
    (r < 128) × (r ≡ (product G H).add (counted (product G H) c.args.a) (counted (product G H) c.args.b))
joined g c =
    let p = c.args.self.now in
    product_sum (g.G.Group.table p.first) (g.H.Group.table p.second) (g.met.G.Group.laws p.first) (g.met.H.Group.laws p.second)
    c.in-Some.n c.order-k.result c.in-Some.ensures.0 c.order-k.ensures c.in-Some.ensures.1
    c.args.a c.args.b c.count-a.result c.count-b.result c.sum-upper.result c.sum-lower.result
    c.count-a.ensures c.count-b.ensures c.sum-upper.ensures c.sum-lower.ensures

pub overflow_mul-result : goal.overflow_mul-result
overflow_mul-result g c = omega (arith, (joined g c).0)

pub overflow_add-result : goal.overflow_add-result
overflow_add-result g c = omega (arith, (joined g c).0)

pub returns : goal.returns
returns g c = (joined g c).1
