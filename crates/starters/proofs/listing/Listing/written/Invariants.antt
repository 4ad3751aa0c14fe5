use Rattle.starters.specs.Pairs.{paired, pairs_of}
use Rattle.starters.proofs.Writing.{Below}
use Rattle.starters.proofs.listing.Listing.written.Given as goal

abbrev pub invariant-loop-first : goal.invariant-loop-first
invariant-loop-first g l = Below (paired l.self.bytes.now) l.first (pairs_of l.starter)
