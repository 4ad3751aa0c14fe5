use Rattle.std.proofs.Common.{arith}
use Rattle.groups.specs.Tables.{counted, cyclic}
use Rattle.groups.specs.Algebra.{counted_below}
use Rattle.groups.specs.Cyclics.{cyclic_opposite}
use Rattle.groups.proofs.cyclic.CyclicGroup.opposite.Goals as goal

pub returns : goal.returns
returns c =
    let n = c.args.self.now.order in
    let o = cyclic_opposite n (counted (cyclic n) c.args.a) (counted_below (cyclic n) c.args.a (omega arith)) in
    simp c.count.ensures o
