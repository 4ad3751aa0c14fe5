use Rattle.std.proofs.Common.{◌≡◌, ℕ, ◌-◌, ◌<◌, length, get_or, sym, ap, ◌∙◌, subst, arith}
use Rattle.groups.proofs.Pigeonhole.{once_each}
use Rattle.starters.proofs.listing.Listing.places.Goals as goal

pub returns : goal.returns
returns g c = λ a some less.
    let bs = c.args.self.now.bytes.now in
    let right = c.args.self.now.right in
    let size = c.args.self.now.size in
    let n : ℕ = (g.G.Group.table c.args.self.now.group.now).order in
    let o = once_each bs (n - 1) (omega arith) (λ j h. (right.nonzero j h, omega (arith, right.below j h))) right.different a some (omega arith) in
    let place : get_or c.loop-place.places a 0 ≡ o.here =
    ap (λ (b : ℕ). get_or c.loop-place.places b 0) (sym o.holds) ∙ c.loop-place.invariant.placed o.here (omega (arith, o.below, c.loop-place-test.false)) in (
      subst (λ (k : ℕ). k < length bs) (sym place) o.below,
      ap (λ (k : ℕ). get_or bs k 0) place ∙ o.holds,
    )
