use Rattle.std.proofs.Common.{rules}
use Rattle.std.proofs.lemmas.List.{take_all}
use Rattle.starters.proofs.Claiming.{asked_sums}
use Rattle.starters.proofs.listing.Listing.ask_sums.Goals as goal

pub returns : goal.returns
returns g c =
    let it = c.args.self.now in
    asked_sums _ (g.met.G.Group.laws it.group.now) it.bytes.now it.size _ (λ j f k. search rules) c.each_once-answer.result c.map_err.result
    c.map_err.ensures.cases it.right c.requires (search (rules, take_all))
