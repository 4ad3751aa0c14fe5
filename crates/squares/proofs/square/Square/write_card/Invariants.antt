use Rattle.std.proofs.Common.{◌≡◌}
use Rattle.starters.specs.Pairs.{pairs_of}
use Rattle.squares.proofs.Lines.{written}
use Rattle.squares.proofs.square.Square.write_card.Given as goal

abbrev pub invariant-loop-round : goal.invariant-loop-round
invariant-loop-round g l = l.place ≡ written (g.G.Group.table l.self.group.now) (pairs_of l.self.starter) l.team l.initial.place l.round
