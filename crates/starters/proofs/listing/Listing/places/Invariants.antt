use Rattle.std.proofs.Common.{◌≡◌, ℕ, ◌<◌, length, get_or}
use Rattle.starters.proofs.listing.Listing.places.Given as goal

abbrev pub invariant-loop-place : goal.invariant-loop-place
invariant-loop-place g l = record {
  long : length l.places ≡ 128;
  placed : (i : ℕ) → i < l.place → get_or l.places (get_or l.self.bytes.now i 0) 0 ≡ i;
}
