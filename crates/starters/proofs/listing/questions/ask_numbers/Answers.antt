use Rattle.std.proofs.Common.{rules}
use Rattle.starters.proofs.Claiming.{asked_numbers}
use Rattle.starters.proofs.listing.questions.ask_numbers.Goals as goal

pub returns : goal.returns
returns g c =
    asked_numbers _ (g.met.G.Group.laws c.args.group.now) c.args.bytes.now c.requires _ (λ j f k. search rules) c.each_once.result c.map_err.result
    c.map_err.ensures.cases (search rules)
