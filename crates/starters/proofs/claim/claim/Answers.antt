use Rattle.std.proofs.Common.{Ok, rules, sym}
use Rattle.starters.proofs.Claiming.{accepted, decided}
use Rattle.starters.proofs.claim.claim.Goals as goal

pub returns-in_err-listing-clause-strong : goal.returns-in_err-listing-clause-strong
returns-in_err-listing-clause-strong g c = decided _ (g.met.G.Group.laws c.args.group.now) c.args.bytes.now c.from_residual.result (search rules)

pub returns-in_err-ask_differences-clause-strong : goal.returns-in_err-ask_differences-clause-strong
returns-in_err-ask_differences-clause-strong g c =
    decided _ (g.met.G.Group.laws c.args.group.now) c.args.bytes.now c.from_residual-in_err-ask_differences.result (search rules)

pub returns : goal.returns
returns g c =
    let it = c.in_ok-listing.listing in
    let same = c.in_ok-listing.ensures in
    let l = g.met.G.Group.laws it.group.now in
    let list = c.written.ensures in
    let a = accepted _ l it.bytes.now it.size _ it.right c.in_ok-ask_differences.ensures c.in_ok-ask_sums.ensures list.same list.long list.written in
    rw (sym same.0, sym same.1) (record { claimed = a; strong = decided _ l _ (Ok c.written.result) a })
