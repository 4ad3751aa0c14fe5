use Rattle.std.proofs.Common.{arith, rules}
use Rattle.starters.specs.Pairs.{pairs_of}
use Rattle.squares.proofs.Lines.{one_round_more}
use Rattle.squares.proofs.Rounds.{line_is}
use Rattle.squares.proofs.square.Square.write_card.Goals as goal

pub loop-round-preserved : goal.loop-round-preserved
loop-round-preserved g c =
    let t = g.G.Group.table c.args.self.now.group.now in
    let e = c.entry.result in
    let is = line_is t (g.met.G.Group.laws c.args.self.now.group.now) (pairs_of c.args.self.now.starter) c.args.self.now.strong
    c.loop-round.round (omega arith) c.args.team e.table e.venue e.opponent c.entry.ensures in
    one_round_more t (pairs_of c.args.self.now.starter) c.args.team c.args.place.now c.loop-round.round _ c.loop-round.place c.copy_from_slice.new.self
    (omega arith) c.loop-round.invariant (search rules)
