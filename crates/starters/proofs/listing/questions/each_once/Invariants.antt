use Rattle.starters.proofs.Marks.{Marked}
use Rattle.starters.proofs.listing.questions.each_once.Given as goal

abbrev pub invariant-loop-place : goal.invariant-loop-place
invariant-loop-place l = Marked l.n l.numbers l.place l.seen
