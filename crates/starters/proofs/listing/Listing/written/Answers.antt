use Rattle.std.proofs.Common.{◌≡◌, ℕ, ◌+◌, ◌%◌, ◌<◌, length, get_or, sym, subst, arith}
use Rattle.starters.specs.Claims.{NumbersRight}
use Rattle.starters.specs.Pairs.{paired, numbers, pairs_of}
use Rattle.starters.proofs.Places.{numbers-paired}
use Rattle.starters.proofs.Writing.{Below, number_skip, number_more, number_room, below_all}
use Rattle.starters.proofs.listing.Listing.written.Goals as goal
use Rattle.starters.proofs.listing.Listing.written.Goals.{then-first-second, else-first-second}

pub push-requires : goal.push-requires
push-requires g c =
    let it = c.args.self.now in
    let l = g.met.G.Group.laws it.group.now in
    let bs = it.bytes.now in
    let s = c.loop-first.starter in
    let a = c.loop-first.first in
    let some : 0 < a = omega (arith, c.loop-first.auto.first) in
    let even : length bs % 2 ≡ 0 = omega (arith, l.odd_order.0, it.size) in
    let place = c.places-places.ensures a some (omega (arith, c.loop-first-test.true, c.order-first-end.ensures)) in
    let room = number_room bs _ it.right even (get_or c.places-places.result a 0) c.partner.result a
    place c.partner.ensures.half c.partner.ensures.other (pairs_of s) c.loop-first.invariant some c.if-first-second.true in
    omega (arith, s.long, l.odd_order.2, it.size)

pub loop-first-preserved : goal.loop-first-preserved
loop-first-preserved g c =
    let it = c.args.self.now in
    let l = g.met.G.Group.laws it.group.now in
    let bs = it.bytes.now in
    let s = c.loop-first.starter in
    let a = c.loop-first.first in
    let some : 0 < a = omega (arith, c.loop-first.auto.first) in
    let even : length bs % 2 ≡ 0 = omega (arith, l.odd_order.0, it.size) in
    let i = get_or c.places-places.result a 0 in
    let place = c.places-places.ensures a some (omega (arith, c.loop-first-test.true, c.order-first-end.ensures)) in
    let half = c.partner.ensures.half in
    let other = c.partner.ensures.other in
    elim c.if-first-second.branch [
      | then-first-second w ↦
          subst (λ t. Below (paired bs) (a + 1) (pairs_of t)) (sym w.starter-is)
          (subst (Below (paired bs) (a + 1)) (sym w.push.ensures.list)
          (number_more bs _ it.right even i c.partner.result a place half other (pairs_of s) c.loop-first.invariant some w.if-first-second.true))
      | else-first-second w ↦
          subst (λ t. Below (paired bs) (a + 1) (pairs_of t)) (sym w.starter-is)
          (number_skip bs _ it.right even i c.partner.result a place half other (pairs_of s) c.loop-first.invariant w.if-first-second.false)
    ]

pub returns : goal.returns
returns g c =
    let it = c.args.self.now in
    let l = g.met.G.Group.laws it.group.now in
    let bs = it.bytes.now in
    let n : ℕ = (g.G.Group.table it.group.now).order in
    let s = c.loop-first.starter in
    let even : length bs % 2 ≡ 0 = omega (arith, l.odd_order.0, it.size) in
    let right : NumbersRight n (numbers (paired bs)) = subst (NumbersRight n) (sym (numbers-paired bs even)) it.right in
    let last : c.loop-first.first ≡ n = omega (arith, c.loop-first-test.false, c.order-first-end.ensures, c.loop-first.auto.first-end (omega (arith, it.size, c.order-first-end.ensures))) in
    let m = subst (λ (a : ℕ). Below (paired bs) a (pairs_of s)) last c.loop-first.invariant in
    let all = below_all (paired bs) n (pairs_of s) right m in
    record { same = all.0; long = all.1; written = m.written }
