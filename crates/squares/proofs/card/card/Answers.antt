use Rattle.std.proofs.Common.{◌≤◌, refl, arith}
use Rattle.std.proofs.lemmas.Result.{err_from_is_err_and}
use Rattle.starters.specs.Pairs.{pairs_of}
use Rattle.squares.specs.Cards.CardRefused.{by_claim}
use Rattle.squares.proofs.Lines.{lined}
use Rattle.squares.proofs.RoomSquares.{room_square}
use Rattle.squares.proofs.card.card.Goals as goal

pub returns-in_err-starter : goal.returns-in_err-starter
returns-in_err-starter g c =
    let p = err_from_is_err_and c.from_residual.result c.from_residual.ensures.1 in
    rw (p.1, p.2) (refl {a = c.args.place.now}, by_claim c.in_err-starter.ensures.claimed)

pub returns : goal.returns
returns g c =
    let t = g.G.Group.table c.args.group.now in
    let l = g.met.G.Group.laws c.args.group.now in
    let made = c.in_ok-starter.ensures.claimed in
    let ps = pairs_of c.in_ok-starter.starter in
    let u = c.args.team in
    let team : u ≤ t.order = omega arith in
    record {
      starter = ps;
      listed = made;
      team = team;
      size = rw c.order-n.ensures;
      room = omega arith;
      bytes = rw (c.write_card.ensures, c.order-n.ensures);
      fair = room_square t l ps made.strong;
      says = λ r h. rw c.write_card.ensures (lined t ps u l made.strong _ r h team);
    }
