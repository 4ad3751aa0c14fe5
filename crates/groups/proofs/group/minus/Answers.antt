use Rattle.groups.specs.Algebra.{difference_by_calls}
use Rattle.groups.proofs.group.minus.Goals as goal

pub returns : goal.returns
returns g c =
    let x = c.args.group.now in
    difference_by_calls (g.G.Group.table x) (g.met.G.Group.laws x) c.args.a c.args.b c.opposite.result c.sum.result
    c.opposite.ensures c.sum.ensures
