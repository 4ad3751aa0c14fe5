use Rattle.std.proofs.Common.{◌≡◌, ◌*◌, ◌/◌, length, take}
use Rattle.std.specs.Simd.{first_chunks}
use Rattle.starters.specs.Pairs.{paired, differences}
use Rattle.starters.proofs.listing.Listing.differences.Given as goal

abbrev pub invariant-loop-x : goal.invariant-loop-x
invariant-loop-x g l = record {
  two_by_two : l.x-items ≡ first_chunks 2 (length l.self.bytes.now / 2) l.self.bytes.now;
  long : length l.differences.items ≡ 2 * l.x-index;
  so_far : l.differences.items ≡ differences (g.G.Group.table l.self.group.now) (take l.x-index (paired l.self.bytes.now));
}
