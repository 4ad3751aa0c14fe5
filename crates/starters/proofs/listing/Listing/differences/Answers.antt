use Rattle.std.proofs.Common.{◌/◌, ◌<◌, length, ◌∙◌, ap, arith}
use Rattle.std.proofs.lemmas.List.{take_all}
use Rattle.groups.specs.Tables.{difference}
use Rattle.starters.specs.Pairs.{paired, differences}
use Rattle.starters.proofs.Places.{length-paired, both_more, counted_first, counted_second}
use Rattle.starters.proofs.listing.Listing.differences.Goals as goal

pub loop-x-preserved : goal.loop-x-preserved
loop-x-preserved g c =
    let it = c.args.self.now in
    let t = g.G.Group.table it.group.now in
    let bs = it.bytes.now in
    let k = c.loop-x.x-index in
    let chunks = c.loop-x.invariant.two_by_two in
    let h : k < length bs / 2 = omega (arith, c.loop-x-test.true, c.as_chunks.ensures.front_len) in
    let m = length-paired bs in
    let first = counted_first t bs it.right.below k h in
    let second = counted_second t bs it.right.below k h in
    record {
      two_by_two = chunks;
      long = omega (arith, c.push.ensures.len, c.push-in-loop-x.ensures.len, c.loop-x.invariant.long);
      so_far = rw (c.push-in-loop-x.ensures.items, c.push.ensures.items)
          (both_more (λ p. difference t p.first p.second) (paired bs) k c.minus.result c.minus-in-loop-x.result c.loop-x.differences.items (omega arith)
          c.loop-x.invariant.so_far (simp (chunks, first, second) at c.minus.ensures) (simp (chunks, first, second) at c.minus-in-loop-x.ensures));
    }

pub returns : goal.returns
returns g c =
    let bs = c.args.self.now.bytes.now in
    let m = length-paired bs in
    c.loop-x.invariant.so_far ∙ ap (differences (g.G.Group.table c.args.self.now.group.now)) (take_all c.loop-x.x-index (paired bs) (omega (arith, c.loop-x-test.false, c.as_chunks.ensures.front_len)))
