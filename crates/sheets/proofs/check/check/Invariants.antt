use Rattle.std.proofs.Common.{length}
use Rattle.sheets.proofs.Going.{Going}
use Rattle.sheets.proofs.check.check.Given as goal

abbrev pub invariant-loop-rest : goal.invariant-loop-rest
invariant-loop-rest l = Going l.bytes l.rest l.reader

abbrev pub decreases-loop-rest : goal.decreases-loop-rest
decreases-loop-rest l = length l.rest
